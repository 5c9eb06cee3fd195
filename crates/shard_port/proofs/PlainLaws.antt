-- The laws of plain ports.
use Rattle.std.proofs.Common.{◌≡◌, ◌⊎◌, inl, inr, ⊎_elim, Bool, true, false, ℕ, List, [], ◌∷◌, Option, Some, None, arith, refl, sym, ◌∙◌, ap, subst}
use Rattle.std.specs.Prelude.{◌==◌, ◌++◌, IsFalse, is_some, map, reverse, slice_get, slice_set, option_map}
use Rattle.std.specs.List.{filter}
use Rattle.std.proofs.lemmas.List.{append_assoc, reverse-append}
use Rattle.semantics.specs.Reclamation.{is_worker, entered_at}
use Rattle.semantics.specs.declared.call.Caller.TheVariants.{Worker}
use Rattle.shard_port.specs.PortLaws.{append_none}
use Rattle.std.specs.List.{AllByRecursion}
use Rattle.std.proofs.lemmas.Option.{slice_get_within}
use Rattle.std.proofs.Math.Logic.{∥∥₁_map}
use Rattle.std.proofs.lemmas.Bool.Decides.{nat_tests}
use Rattle.semantics.specs.declared.call.Call.{Call}
use Rattle.ebpf_decode.specs.declared.map.MapDef.{MapDef}
use Rattle.semantics.specs.declared.options.Options.{Options}
use Rattle.semantics.specs.declared.plan.ShardPlan.{ShardPlan}
use Rattle.semantics.specs.declared.call.Entry.{Entry}
use Rattle.semantics.specs.ShardPlan.{plan_at}
use Rattle.semantics.specs.History.{shard_of_call, IsLegalJournal}
use Rattle.shard_core.specs.JournaledShard.{JournaledShard, shard_with_entry, opened_shard}
use Rattle.shards.specs.Opening.{AreOpened}
use Rattle.map_port.specs.Exchanges.{Exchange, IsChain}
use Rattle.shard_port.specs.Asking.{is_in, left, entered, all_left, leave_by, CannotEnter, CannotCall, IsTurnedAwayAmong}
use Rattle.shard_port.specs.PortView.{PortView, SetsBytes, IsShardOf, AreShardsOf, ServesMaps, IsGivenBy}
use Rattle.shard_port.specs.declared.plain.PlainPort.{PlainPort}
use Rattle.shard_port.specs.PlainPorts.{port_view, IsSamePort, PortGives, PortRefuses}
use Rattle.shard_port.specs.Sessions.{exchange_entry, is_asked_of, with_entries, behind_enter, session, exchange_entries, IsVisited}
use Rattle.shard_port.proofs.shared.ReadyLemmas.{shards_with, bytes_with_entry}
use Rattle.shard_port.specs.PortLaws.{set_here}
use Rattle.shard_port.proofs.SessionLemmas.{after_outside, chain_worker, left_at, set_other, IsWritten, IsAdded, added_nothing, added_enter, entered_added}
use Rattle.semantics.proofs.shared.CellBytes.{opening_bytes}

chain_of_views : (before after : PlainPort) (exchanges : List Exchange) → IsChain PortGives before exchanges after →
    IsChain IsGivenBy (port_view before) exchanges (port_view after)
chain_of_views before after [] chain = ap port_view chain
chain_of_views before after (exchange ∷ later) chain = (port_view chain.0, chain.1.given, chain_of_views chain.0 after later chain.2)

pub writes_sessions : (before after : PlainPort) (exchanges : List Exchange) → IsChain PortGives before exchanges after →
    (number : ℕ) (shard : JournaledShard) → slice_get before.shards.now number ≡ Some shard → IsFalse (is_in before.worker shard) →
    (slice_get after.shards.now number ≡ Some
    (with_entries shard (behind_enter before.worker shard.plan.number (exchange_entries before.worker number exchanges))))
    × (slice_get (all_left after.worker after.shards.now) number ≡ Some
    (with_entries shard (session before.worker shard.plan.number (exchange_entries before.worker number exchanges))))
writes_sessions before after exchanges chain number shard known outside =
    let views : IsChain IsGivenBy (port_view before) exchanges (port_view after) = chain_of_views before after exchanges chain in
    let written = after_outside (port_view before) (port_view after) exchanges views number shard known outside in
    let worker : after.worker ≡ before.worker = chain_worker (port_view before) (port_view after) exchanges views in (
      written.there,
      rw worker (left_at before.worker after.shards.now number
          (with_entries shard (behind_enter before.worker shard.plan.number (exchange_entries before.worker number exchanges))) written.there
          ∙ ap Some written.finished),
    )

-- ---- a refusal at the end

visited : (worker number : ℕ) (shard : JournaledShard) (call : Call) (entries : List Entry) (new : JournaledShard) (after : PlainPort) →
    after.worker ≡ worker → slice_get after.shards.now number ≡ Some new → IsAdded worker number shard call entries new →
    (slice_get (all_left after.worker after.shards.now) number ≡ Some (with_entries shard (session worker shard.plan.number entries))) ⊎
    IsVisited worker after number shard entries call
visited worker number shard call entries new after same there (added_nothing finished) =
    inl (rw same (left_at worker after.shards.now number new there ∙ ap Some finished))
visited worker number shard call [] new after same there (added_enter place finished) = inr (record {
  own = place;
  first_call = refl;
  finished = rw same (left_at worker after.shards.now number new there ∙ ap Some finished);
})

turned_away_at : (worker number : ℕ) (shard : JournaledShard) (call : Call) (entries : List Entry) (before after : List JournaledShard)
    (port : PortView) → port.shards ≡ before → IsWritten worker port number shard entries → IsTurnedAwayAmong worker before call after →
    (new : JournaledShard) × (slice_get after number ≡ Some new) × IsAdded worker number shard call entries new
turned_away_at worker number shard call entries before after port is written among = by_place (shard_of_call call == number) refl
  where
    there : slice_get before number ≡ Some (with_entries shard (behind_enter worker shard.plan.number entries))
    there = ap (λ shards. slice_get shards number) (sym is) ∙ written.there

    by_place : (here : Bool) → (shard_of_call call == number) ≡ here →
        (new : JournaledShard) × (slice_get after number ≡ Some new) × IsAdded worker number shard call entries new
    by_place true here =
        let place : shard_of_call call ≡ number = grind (arith, nat_tests) in
        let known_there : slice_get before (shard_of_call call) ≡ Some (with_entries shard (behind_enter worker shard.plan.number entries)) =
        ap (slice_get before) place ∙ there in
        let same : among.shard ≡ with_entries shard (behind_enter worker shard.plan.number entries) = cc (among.known, known_there) in
        let at : slice_get after number ≡ Some among.new = ap (λ shards. slice_get shards number) among.put_back ∙
        ap (λ n. slice_get (slice_set before (shard_of_call call) among.new) n) (sym place) ∙
        set_here before (shard_of_call call) among.shard among.new among.known in
        let added : IsAdded worker number shard call entries among.new =
        ⊎_elim (λ (out : CannotEnter worker among.shard among.new). added_nothing
        (ap (left worker) (out.unchanged ∙ same) ∙ written.finished))
        (λ (out : CannotCall worker among.shard call among.new). subst
        (λ (one : JournaledShard). IsAdded worker number shard call entries one) (sym (out.entered_only ∙ ap (entered worker) same))
        (entered_added worker number shard call entries place written.inside written.finished)) among.turned_away in
        (among.new, at, added)
    by_place false other = (
      with_entries shard (behind_enter worker shard.plan.number entries),
      ap (λ shards. slice_get shards number) among.put_back ∙
          set_other before (shard_of_call call) number among.new other ∙ there,
      added_nothing written.finished,
    )

pub writes_refused_sessions : (before middle after : PlainPort) (exchanges : List Exchange) (call : Call) →
    IsChain PortGives before exchanges middle → PortRefuses middle call after → (number : ℕ) (shard : JournaledShard) →
    slice_get before.shards.now number ≡ Some shard → IsFalse (is_in before.worker shard) →
    (slice_get (all_left after.worker after.shards.now) number ≡ Some
    (with_entries shard (session before.worker shard.plan.number (exchange_entries before.worker number exchanges)))) ⊎ IsVisited before.worker
    after number shard (exchange_entries before.worker number exchanges) call
writes_refused_sessions before middle after exchanges call chain refuses number shard known outside =
    let views : IsChain IsGivenBy (port_view before) exchanges (port_view middle) = chain_of_views before middle exchanges chain in
    let written = after_outside (port_view before) (port_view middle) exchanges views number shard known outside in
    let worker : middle.worker ≡ before.worker = chain_worker (port_view before) (port_view middle) exchanges views in
    let same : after.worker ≡ before.worker = refuses.refused.same_worker ∙ worker in
    let away : IsTurnedAwayAmong before.worker middle.shards.now call after.shards.now =
    subst (λ one. IsTurnedAwayAmong one middle.shards.now call after.shards.now) worker refuses.refused.turned_away in
    let at = turned_away_at before.worker number shard call (exchange_entries before.worker number exchanges) middle.shards.now after.shards.now
    (port_view middle) refl written away in
    visited before.worker number shard call (exchange_entries before.worker number exchanges) at.0 after same at.1 at.2

one_port : (before after : PlainPort) → before ≡ after → IsSamePort before after
one_port before after same = subst (IsSamePort before) same
    (record { same_shards = refl; same_maps = refl; same_options = refl; same_worker = refl })

pub stays_one_port : (before after : PlainPort) (exchanges : List Exchange) → IsChain PortGives before exchanges after →
    IsSamePort before after
stays_one_port before after [] chain = one_port before after chain
stays_one_port before after (exchange ∷ later) chain =
    let first : IsSamePort before chain.0 = chain.1.same_port in
    let rest : IsSamePort chain.0 after = stays_one_port chain.0 after later chain.2 in
    record {
      same_shards = rest.same_shards ∙ first.same_shards;
      same_maps = rest.same_maps ∙ first.same_maps;
      same_options = rest.same_options ∙ first.same_options;
      same_worker = rest.same_worker ∙ first.same_worker;
    }

-- ---- opened shards

shard_opened : (maps : List MapDef) (options : Options) (number : ℕ) (planned : Option ShardPlan) (shard : JournaledShard) →
    plan_at maps options number ≡ planned → option_map opened_shard planned ≡ Some shard → IsShardOf maps options number shard
shard_opened maps options number None shard is opened = cc
shard_opened maps options number (Some plan) shard is opened =
    let same : opened_shard plan ≡ shard = cc in
    subst (IsShardOf maps options number) same (record { planned = is; legal = tt; bytes = opening_bytes plan.definition.kind plan })

pub opened_serve : (maps : List MapDef) (options : Options) (shards : List JournaledShard) → AreOpened maps options shards →
    ServesMaps maps options shards
opened_serve maps options shards opened = ∣ record {
  count = opened.count;
  each = λ number shard known. shard_opened maps options number (plan_at maps options number) shard refl
      (sym (opened.each number (slice_get_within shards number shard known)) ∙ known);
} ∣₁

outside_opened : (worker : ℕ) (planned : Option ShardPlan) (shard : JournaledShard) → option_map opened_shard planned ≡ Some shard →
    IsFalse (is_in worker shard)
outside_opened worker None shard is = absurd cc
outside_opened worker (Some plan) shard is =
    let same : opened_shard plan ≡ shard = cc in
    subst (λ (opened : JournaledShard). IsFalse (is_in worker opened)) same refl

pub opened_outside : (maps : List MapDef) (options : Options) (shards : List JournaledShard) (worker number : ℕ) (shard : JournaledShard) →
    AreOpened maps options shards → slice_get shards number ≡ Some shard → IsFalse (is_in worker shard)
opened_outside maps options shards worker number shard opened known =
    outside_opened worker (plan_at maps options number) shard
    (sym (opened.each number (slice_get_within shards number shard known)) ∙ known)

pub calls_keep_serving : (maps : List MapDef) (options : Options) (shards : List JournaledShard) (number : ℕ) (shard : JournaledShard)
    (entry : Entry) → ServesMaps maps options shards → slice_get shards number ≡ Some shard → SetsBytes entry.call →
    IsLegalJournal shard.plan (shard_with_entry shard entry).journal → ServesMaps maps options (slice_set shards number (shard_with_entry shard entry))
calls_keep_serving maps options shards number shard entry serve known sets legal =
    ∥∥₁_map serve (λ (are : AreShardsOf maps options shards). shards_with maps options shards number shard (shard_with_entry shard entry) are
    known refl legal
    (bytes_with_entry shard entry sets (are.each number shard known).bytes))

-- ---- the sessions of another worker

abbrev IsOwn : ℕ → Entry → Type 0
IsOwn worker entry = entry.who ≡ Worker worker

own_entries : (worker : ℕ) (exchanges : List Exchange) → AllByRecursion (IsOwn worker) (map (exchange_entry worker) exchanges)
own_entries worker [] = tt
own_entries worker (exchange ∷ later) = (refl, own_entries worker later)

own_and_last : (worker : ℕ) (entries : List Entry) (last : Entry) → AllByRecursion (IsOwn worker) entries → IsOwn worker last →
    AllByRecursion (IsOwn worker) (entries ++ last ∷ [])
own_and_last worker [] last own is = (is, tt)
own_and_last worker (entry ∷ later) last own is = (own.0, own_and_last worker later last own.1 is)

own_session : (worker number : ℕ) (entries : List Entry) → AllByRecursion (IsOwn worker) entries →
    AllByRecursion (IsOwn worker) (session worker number entries)
own_session worker number [] own = tt
own_session worker number (first ∷ later) own = (refl, (own.0, own_and_last worker later (leave_by worker number) own.1 refl))

passed_over : (worker other : ℕ) (entry : Entry) (older : List Entry) → IsFalse (worker == other) → entry.who ≡ Worker worker →
    entered_at other (entry ∷ older) ≡ entered_at other older
passed_over worker other entry older differ own =
    let skipped : is_worker other entry.who ≡ false = ap (is_worker other) own ∙ differ in
    rw skipped refl

still_entered : (worker other : ℕ) (entries journal : List Entry) → IsFalse (worker == other) → AllByRecursion (IsOwn worker) entries →
    entered_at other (reverse (journal ++ entries)) ≡ entered_at other (reverse journal)
still_entered worker other [] journal differ own = ap (λ list. entered_at other (reverse list)) (append_none journal)
still_entered worker other (entry ∷ later) journal differ own =
    ap (λ list. entered_at other (reverse list)) (sym (append_assoc journal (entry ∷ []) later))
    ∙ still_entered worker other later (journal ++ entry ∷ []) differ own.1
    ∙ ap (entered_at other) (reverse-append journal (entry ∷ []))
    ∙ passed_over worker other entry (reverse journal) differ own.0

pub leaves_others : (worker other number : ℕ) (shard : JournaledShard) (exchanges : List Exchange) → IsFalse (worker == other) →
    is_in other (with_entries shard (session worker shard.plan.number (exchange_entries worker number exchanges))) ≡ is_in other shard
leaves_others worker other number shard exchanges differ =
    ap is_some (still_entered worker other (session worker shard.plan.number (exchange_entries worker number exchanges)) shard.journal differ
    (own_session worker shard.plan.number (exchange_entries worker number exchanges) (own_entries worker (filter (is_asked_of number) exchanges))))
