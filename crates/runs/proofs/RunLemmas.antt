-- What a run over shards comes to, from what its calls ensure.
use Rattle.std.proofs.Common.{◌≡◌, ⊎_elim, inl, inr, ℕ, zero, suc, ◌<◌, Bool, true, false, ◌||◌, List, [], ◌∷◌, ◌++◌, length, reverse, Option, Some, refl, sym, ap, ◌∙◌, subst}
use Rattle.std.specs.Prelude.{IsFalse, slice_get, if◌then◌else◌}
use Rattle.std.proofs.lemmas.List.{length-set, length-map}
use Rattle.std.proofs.lemmas.Option.{slice_get-get_or, slice_get_within, get_or_from_slice_get}
use Rattle.wire.specs.FrameView.{FrameView}
use Rattle.semantics.specs.declared.call.Call.{Call}
use Rattle.semantics.specs.declared.call.Entry.{Entry}
use Rattle.semantics.specs.declared.call.Reply.{Reply}
use Rattle.semantics.specs.declared.verdict.Verdict.{Verdict}
use Rattle.semantics.specs.MachineState.{MachineState}
use Rattle.semantics.specs.Program.{Program}
use Rattle.semantics.specs.History.{shard_of_call, IsJournalFull}
use Rattle.semantics.specs.Reclamation.{is_inside}
use Rattle.semantics.specs.RunTrace.{IsReplyTo}
use Rattle.shard_core.specs.JournaledShard.{JournaledShard, opened_shard}
use Rattle.map_port.specs.Exchanges.{Exchange, IsChain}
use Rattle.map_port.specs.Served.{Maps, program_over}
use Rattle.machine.specs.declared.exit.Stop.{Stop}
use Rattle.machine.specs.declared.exit.Stop.TheVariants.{JournalFull}
use Rattle.machine.specs.Running.{Ends, StopsSo}
use Rattle.shard_port.specs.Asking.{is_in, enter_by, leave_by, all_left, left, can_enter, entered, CannotEnter, CannotCall}
use Rattle.shard_port.specs.declared.plain.PlainPort.{PlainPort}
use Rattle.shard_port.specs.PlainPorts.{PortGives, PortRefuses, maps_of}
use Rattle.shard_port.specs.PortLaws.{append_none, newest_first, same_worker as same_number, set_here}
use Rattle.shard_port.specs.Sessions.{WritesSessions, WritesRefusedSessions, IsVisited, exchange_entries, behind_enter, session, with_entries}
use Rattle.shard_port.specs.PassSessions.{session_at, AreCallsWithin}
use Rattle.runs.specs.FrameRuns.{AreFormed}
use Rattle.shards.specs.Seats.{no_plan}
use Rattle.shards.specs.NewShards.{shard_at}
use Rattle.runs.specs.ShardRuns.{HasMore, HasRunOver, HasStoppedOver, IsCutSession, IsFullAfter, IsOutsideNumbered}

-- ---- what a chain of calls keeps

stays_over : (one two : PlainPort) (call : Call) (reply : Reply) → PortGives one call reply two → maps_of two ≡ maps_of one
stays_over one two call reply given = given.given.same_maps

as_many : (one two : PlainPort) (call : Call) (reply : Reply) → PortGives one call reply two → length two.shards.now ≡ length one.shards.now
as_many one two call reply given =
    ap (λ (shards : List JournaledShard). length shards) given.given.answered.put_back
    ∙ length-set one.shards.now (shard_of_call call) given.given.answered.new

within_by : (count : ℕ) (before after : PlainPort) (exchanges : List Exchange) → IsChain PortGives before exchanges after →
    length before.shards.now ≡ count → AreCallsWithin count exchanges
within_by count before after [] chain many = tt
within_by count before after (exchange ∷ later) chain many = (
  subst (λ (n : ℕ). shard_of_call exchange.call < n) many
      (slice_get_within before.shards.now (shard_of_call exchange.call) chain.1.given.answered.shard chain.1.given.answered.known),
  within_by count chain.0 after later chain.2 (as_many before chain.0 exchange.call exchange.reply chain.1 ∙ many),
)

-- what calls see of a program
abbrev pub maps_in : Program → Maps
maps_in program = record { maps = program.maps; shards = program.shards }

form_of : (program : Program) (call : Call) (reply : Reply) → IsReplyTo (program_over (maps_in program)) call reply → IsReplyTo program call reply
form_of program call reply formed = formed

formed_by : (program : Program) (before after : PlainPort) (exchanges : List Exchange) → IsChain PortGives before exchanges after →
    maps_of before ≡ maps_in program → AreFormed program exchanges
formed_by program before after [] chain same = tt
formed_by program before after (exchange ∷ later) chain same = (
  form_of program exchange.call exchange.reply
      (subst (λ (served : Maps). IsReplyTo (program_over served) exchange.call exchange.reply) same chain.1.given.formed),
  formed_by program chain.0 after later chain.2 (stays_over before chain.0 exchange.call exchange.reply chain.1 ∙ same),
)

chain_count : (before after : PlainPort) (exchanges : List Exchange) → IsChain PortGives before exchanges after →
    length after.shards.now ≡ length before.shards.now
chain_count before after [] chain = ap (λ (port : PlainPort). length port.shards.now) (sym chain)
chain_count before after (exchange ∷ later) chain =
    chain_count chain.0 after later chain.2 ∙ as_many before chain.0 exchange.call exchange.reply chain.1

chain_worker : (before after : PlainPort) (exchanges : List Exchange) → IsChain PortGives before exchanges after → after.worker ≡ before.worker
chain_worker before after [] chain = ap (λ (port : PlainPort). port.worker) (sym chain)
chain_worker before after (exchange ∷ later) chain = chain_worker chain.0 after later chain.2 ∙ chain.1.same_port.same_worker

same_found : (found : Option JournaledShard) (one two : JournaledShard) → found ≡ Some one → found ≡ Some two → one ≡ two
same_found found one two first second = cc (first, second)

left_at : (worker : ℕ) (shards : List JournaledShard) (number : ℕ) (one : JournaledShard) → slice_get shards number ≡ Some one →
    slice_get (all_left worker shards) number ≡ Some (left worker one)
left_at worker [] number one known = absurd cc
left_at worker (first ∷ rest) zero one known = let same : first ≡ one = cc in ap (λ (s : JournaledShard). Some (left worker s)) same
left_at worker (first ∷ rest) (suc number) one known = left_at worker rest number one known

-- who could not enter is outside, and leaves nothing
neither : (a b : Bool) → (a || b) ≡ false → a ≡ false
neither true b none = absurd cc
neither false b none = refl

outside_full : (worker : ℕ) (one : JournaledShard) → IsFalse (can_enter worker one) → is_in worker one ≡ false
outside_full worker one full = neither (is_in worker one) _ full

stays_left : (worker : ℕ) (one : JournaledShard) → is_in worker one ≡ false → (left worker one).journal ≡ one.journal
stays_left worker one outside =
    ap (λ (inside : Bool). one.journal ++ (if inside then leave_by worker one.plan.number ∷ [] else [])) outside ∙ append_none one.journal

-- who has entered is inside, and leaves
inside_entered : (worker : ℕ) (one : JournaledShard) → is_in worker (entered worker one) ≡ true
inside_entered worker one = by_test (is_in worker one) refl
  where
    by_test : (inside : Bool) → is_in worker one ≡ inside →
        is_inside worker (reverse (one.journal ++ (if inside then [] else enter_by worker one.plan.number ∷ []))) ≡ true
    by_test true is = rw (append_none one.journal) is
    by_test false is = rw (newest_first one (enter_by worker one.plan.number), same_number worker) refl

leaves_entered : (worker number : ℕ) (one : JournaledShard) → one.plan.number ≡ number →
    (left worker (entered worker one)).journal ≡ (entered worker one).journal ++ leave_by worker number ∷ []
leaves_entered worker number one same =
    ap (λ (inside : Bool). (entered worker one).journal ++ (if inside then leave_by worker one.plan.number ∷ [] else [])) (inside_entered worker one)
    ∙ ap (λ (n : ℕ). (entered worker one).journal ++ leave_by worker n ∷ []) same

-- the entries of a visit
abbrev visit_by : ℕ → ℕ → List Entry
visit_by worker number = enter_by worker number ∷ leave_by worker number ∷ []

-- ---- from the port's making to its finish

module _ (program : Program) (start : MachineState) (worker : ℕ) (before after : List JournaledShard) (port later : PlainPort)
    (same_shards : port.shards.now ≡ before) (same_worker : port.worker ≡ worker) (served : maps_of port ≡ maps_in program)
    (outside : IsOutsideNumbered worker before) (finished : after ≡ all_left later.worker later.shards.now)
  where
    same_count : length port.shards.now ≡ length before
    same_count = ap (λ (shards : List JournaledShard). length shards) same_shards

    left_count : length after ≡ length later.shards.now
    left_count = ap (λ (shards : List JournaledShard). length shards) finished ∙ length-map later.shards.now (left later.worker)

    known_at : (number : ℕ) → number < length before → slice_get port.shards.now number ≡ Some (shard_at before number)
    known_at number below =
        ap (λ (shards : List JournaledShard). slice_get shards number) same_shards ∙ slice_get-get_or before number (opened_shard no_plan) below

    outside_at : (number : ℕ) → number < length before → IsFalse (is_in port.worker (shard_at before number))
    outside_at number below = subst (λ (n : ℕ). IsFalse (is_in n (shard_at before number))) (sym same_worker) (outside.outside number below)

    -- with the worker's number and the shard's in place of the port's and the plan's
    session_is : (number : ℕ) (exchanges : List Exchange) → number < length before →
        session port.worker (shard_at before number).plan.number (exchange_entries port.worker number exchanges) ≡ session_at worker number exchanges
    session_is number exchanges below =
        ap (λ (n : ℕ). session n (shard_at before number).plan.number (exchange_entries n number exchanges)) same_worker
        ∙ ap (λ (n : ℕ). session worker n (exchange_entries worker number exchanges)) (outside.numbered number below)

    begun_is : (number : ℕ) (exchanges : List Exchange) → number < length before →
        behind_enter port.worker (shard_at before number).plan.number (exchange_entries port.worker number exchanges)
        ≡ behind_enter worker number (exchange_entries worker number exchanges)
    begun_is number exchanges below =
        ap (λ (n : ℕ). behind_enter n (shard_at before number).plan.number (exchange_entries n number exchanges)) same_worker
        ∙ ap (λ (n : ℕ). behind_enter worker n (exchange_entries worker number exchanges)) (outside.numbered number below)

    -- what is at a place after the finish
    left_as : (number : ℕ) (one : JournaledShard) → slice_get (all_left later.worker later.shards.now) number ≡ Some one → shard_at after number ≡ one
    left_as number one found =
        ap (λ (shards : List JournaledShard). shard_at shards number) finished
        ∙ get_or_from_slice_get (all_left later.worker later.shards.now) number one (opened_shard no_plan) found

    pub ran_over : WritesSessions → (verdict : Verdict) (steps : ℕ) (frame : FrameView) → Ends PortGives program start port later verdict steps frame →
        HasRunOver program start worker before after verdict steps frame
    ran_over writes verdict steps frame ends = record {
      exchanges = ends.exchanges;
      ended = record {
        last = ends.last;
        trace = ends.trace;
        formed = formed_by program port later ends.exchanges ends.chain served;
        counted = ends.steps_done;
        bounded = ends.bounded;
        sent = ends.frame_left;
      };
      within = within_by (length before) port later ends.exchanges ends.chain same_count;
      count = left_count ∙ chain_count port later ends.exchanges ends.chain ∙ same_count;
      written = λ number below.
          left_as number _ (writes port later ends.exchanges ends.chain number (shard_at before number) (known_at number below) (outside_at number below)).1
          ∙ ap (with_entries (shard_at before number)) (session_is number ends.exchanges below);
    }

    cut_at : WritesRefusedSessions → (middle : PlainPort) (exchanges : List Exchange) (call : Call) → IsChain PortGives port exchanges middle →
        PortRefuses middle call later → (number : ℕ) → number < length before →
        (entries : List Entry) × HasMore before after number entries × IsCutSession worker number exchanges call entries
    cut_at writes middle exchanges call chain refused number below =
        ⊎_elim
        (λ (same : slice_get (all_left later.worker later.shards.now) number ≡ Some
        (with_entries (shard_at before number) (session port.worker (shard_at before number).plan.number (exchange_entries port.worker number exchanges)))). (
          session_at worker number exchanges,
          left_as number _ same ∙ ap (with_entries (shard_at before number)) (session_is number exchanges below),
          inl refl,
        ))
        (λ (visited : IsVisited port.worker later number (shard_at before number) (exchange_entries port.worker number exchanges) call). (
          _,
          left_as number _ visited.finished,
          inr (record {
            own_shard = visited.own;
            first_call = ap (λ (n : ℕ). exchange_entries n number exchanges) (sym same_worker) ∙ visited.first_call;
            visit = ap (λ (n : ℕ). visit_by n (shard_at before number).plan.number) same_worker ∙ ap (visit_by worker) (outside.numbered number below);
          }),
        ))
        (writes port middle later exchanges call chain refused number (shard_at before number) (known_at number below) (outside_at number below))

    full_at : WritesSessions → (middle : PlainPort) (exchanges : List Exchange) (call : Call) → IsChain PortGives port exchanges middle →
        PortRefuses middle call later → shard_of_call call < length before →
        IsFullAfter worker (shard_of_call call) exchanges call (shard_at before (shard_of_call call)) (shard_at after (shard_of_call call)).journal
    full_at writes middle exchanges call chain refused below =
        let number : ℕ = shard_of_call call in
        let here : JournaledShard = with_entries (shard_at before number) (behind_enter worker number (exchange_entries worker number exchanges)) in
        let away = refused.refused.turned_away in
        let there : slice_get middle.shards.now number ≡ Some here =
        (writes port middle exchanges chain number (shard_at before number) (known_at number below) (outside_at number below)).0
        ∙ ap (λ (entries : List Entry). Some (with_entries (shard_at before number) entries)) (begun_is number exchanges below) in
        let is : away.shard ≡ here = same_found _ _ _ away.known there in
        let of_worker : middle.worker ≡ worker = chain_worker port middle exchanges chain ∙ same_worker in
        let of_later : later.worker ≡ worker = refused.same_port.same_worker ∙ of_worker in
        let left_so : shard_at after number ≡ left later.worker away.new =
        left_as number (left later.worker away.new)
        (left_at later.worker later.shards.now number away.new
        (ap (λ (shards : List JournaledShard). slice_get shards number) away.put_back ∙ set_here middle.shards.now number away.shard away.new away.known)) in
        ⊎_elim
        (λ (out : CannotEnter middle.worker away.shard away.new).
        let full : IsFalse (can_enter worker here) = subst (λ (n : ℕ). IsFalse (can_enter n here)) of_worker
        (subst (λ (one : JournaledShard). IsFalse (can_enter middle.worker one)) is out.full) in
        inl (record {
          full = full;
          nothing = ap (λ (one : JournaledShard). one.journal) left_so
              ∙ ap (λ (one : JournaledShard). (left later.worker one).journal) (out.unchanged ∙ is)
              ∙ ap (λ (n : ℕ). (left n here).journal) of_later
              ∙ stays_left worker here (outside_full worker here full);
        }))
        (λ (out : CannotCall middle.worker away.shard call away.new). inr (record {
          full = subst (λ (n : ℕ). IsJournalFull here.plan (reverse (entered n here).journal) call) of_worker
              (subst (λ (one : JournaledShard). IsJournalFull one.plan (reverse (entered middle.worker one).journal) call) is out.full);
          leaves = ap (λ (one : JournaledShard). one.journal) left_so
              ∙ ap (λ (one : JournaledShard). (left later.worker one).journal) out.entered_only
              ∙ ap (λ (n : ℕ). (left n (entered middle.worker away.shard)).journal) of_later
              ∙ ap (λ (n : ℕ). (left worker (entered n away.shard)).journal) of_worker
              ∙ ap (λ (one : JournaledShard). (left worker (entered worker one)).journal) is
              ∙ leaves_entered worker number here (outside.numbered number below);
        }))
        away.turned_away

    pub stopped_over : WritesSessions → WritesRefusedSessions → (frame : FrameView) (stop : Stop) →
        StopsSo PortGives PortRefuses program start port later frame stop → HasStoppedOver program start worker before after frame stop
    stopped_over writes cuts frame (JournalFull shard) stops =
        let away = stops.refused.refused.turned_away in
        let middle_count : length stops.middle.shards.now ≡ length before = chain_count port stops.middle stops.exchanges stops.chain ∙ same_count in
        let below : shard_of_call stops.call < length before =
        subst (λ (n : ℕ). shard_of_call stops.call < n) middle_count (slice_get_within stops.middle.shards.now (shard_of_call stops.call) away.shard away.known) in
        record {
          exchanges = stops.exchanges;
          refused = stops.call;
          named = stops.names_the_shard;
          waited = record {
            waiting = stops.waiting;
            trace = stops.trace;
            formed = formed_by program port stops.middle stops.exchanges stops.chain served;
            kept_back = stops.frame_left;
          };
          within = within_by (length before) port stops.middle stops.exchanges stops.chain same_count;
          refused_within = subst (λ (n : ℕ). n < length before) (sym stops.names_the_shard) below;
          count = left_count
              ∙ ap (λ (shards : List JournaledShard). length shards) away.put_back
              ∙ length-set stops.middle.shards.now (shard_of_call stops.call) away.new ∙ middle_count;
          written = cut_at cuts stops.middle stops.exchanges stops.call stops.chain stops.refused;
          full = subst (λ (n : ℕ). IsFullAfter worker n stops.exchanges stops.call (shard_at before n) (shard_at after n).journal) (sym stops.names_the_shard)
              (full_at writes stops.middle stops.exchanges stops.call stops.chain stops.refused below);
        }
