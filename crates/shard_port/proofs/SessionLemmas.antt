-- What a chain of calls writes.
use Rattle.std.proofs.Common.{◌≡◌, ℕ, zero, suc, Bool, true, false, cond, List, [], ◌∷◌, ◌++◌, map, reverse, Some, arith, refl, sym, ◌∙◌, ap, subst, append_assoc}
use Rattle.std.specs.Prelude.{◌==◌, IsFalse, slice_get, slice_set, if◌then◌else◌}
use Rattle.std.specs.List.{filter}
use Rattle.std.proofs.lemmas.Bool.Decides.{nat_tests}
use Rattle.semantics.specs.declared.call.Call.{Call}
use Rattle.semantics.specs.declared.call.Reply.{Reply}
use Rattle.semantics.specs.declared.call.Entry.{Entry}
use Rattle.semantics.specs.Reclamation.{is_inside}
use Rattle.semantics.specs.History.{shard_of_call}
use Rattle.shard_core.specs.JournaledShard.{JournaledShard, shard_with_entry}
use Rattle.map_port.specs.Exchanges.{Exchange, IsChain}
use Rattle.shard_port.specs.Asking.{is_in, enter_by, leave_by, entered, left, asked_entry, all_left}
use Rattle.shard_port.specs.PortView.{PortView, IsRunCall, IsGivenBy}
use Rattle.shard_port.specs.PortLaws.{same_worker, inside_after_call, append_none, newest_first, stays_entered, set_here}
use Rattle.shard_port.specs.Sessions.{exchange_entry, is_asked_of, exchange_entries, behind_enter, session, with_entries}

-- ---- inside and outside

inside_with : (worker : ℕ) (shard : JournaledShard) (call : Call) (reply : Reply) → IsRunCall call → is_in worker shard ≡ true →
    is_in worker (shard_with_entry shard (asked_entry worker call reply)) ≡ true
inside_with worker shard call reply run inside =
    rw (newest_first shard (asked_entry worker call reply)) (inside_after_call worker call reply (reverse shard.journal) run inside)

enters_with : (worker : ℕ) (shard : JournaledShard) → is_in worker shard ≡ false →
    entered worker shard ≡ shard_with_entry shard (enter_by worker shard.plan.number)
enters_with worker shard outside = ap (λ (inside : Bool).
    record { plan = shard.plan; journal = shard.journal ++ (if inside then [] else enter_by worker shard.plan.number ∷ []) }) outside

inside_entered : (worker : ℕ) (shard : JournaledShard) → is_in worker (shard_with_entry shard (enter_by worker shard.plan.number)) ≡ true
inside_entered worker shard = rw (newest_first shard (enter_by worker shard.plan.number), same_worker worker) refl

outside_left : (worker : ℕ) (shard : JournaledShard) → is_in worker (left worker shard) ≡ false
outside_left worker shard = by_test (is_in worker shard) refl
  where
    by_test : (inside : Bool) → is_in worker shard ≡ inside →
        is_in worker (record {
          plan = shard.plan;
          journal =
              shard.journal ++ (if inside then leave_by worker shard.plan.number ∷ [] else []);
        }) ≡ false
    by_test true is = rw (newest_first shard (leave_by worker shard.plan.number), same_worker worker) refl
    by_test false is = rw (append_none shard.journal) is

pub outside_all : (worker : ℕ) (shards : List JournaledShard) (number : ℕ) (shard : JournaledShard) →
    slice_get (all_left worker shards) number ≡ Some shard → IsFalse (is_in worker shard)
outside_all worker [] number shard is = cc
outside_all worker (first ∷ rest) zero shard is =
    let same : left worker first ≡ shard = cc in
    subst (λ (one : JournaledShard). is_in worker one ≡ false) same (outside_left worker first)
outside_all worker (first ∷ rest) (suc number) shard is = outside_all worker rest number shard is

-- ---- one step of a chain

pub set_other : (shards : List JournaledShard) (number at : ℕ) (new : JournaledShard) → (number == at) ≡ false →
    slice_get (slice_set shards number new) at ≡ slice_get shards at
set_other [] number at new other = refl
set_other (first ∷ rest) zero zero new other = cc
set_other (first ∷ rest) zero (suc at) new other = refl
set_other (first ∷ rest) (suc number) zero new other = refl
set_other (first ∷ rest) (suc number) (suc at) new other = set_other rest number at new
    (let differ : (number ≡ at → ⊥) = (λ same. grind (arith, nat_tests)) in grind (arith, nat_tests))

step_here : (before after : PortView) (call : Call) (reply : Reply) (number : ℕ) (shard : JournaledShard) →
    IsGivenBy before call reply after → slice_get before.shards number ≡ Some shard → (shard_of_call call == number) ≡ true →
    slice_get after.shards number ≡ Some (shard_with_entry (entered before.worker shard) (asked_entry before.worker call reply))
step_here before after call reply number shard given known here =
    let among = given.answered in
    let place : shard_of_call call ≡ number = grind (arith, nat_tests) in
    let known_there : slice_get before.shards (shard_of_call call) ≡ Some shard = ap (slice_get before.shards) place ∙ known in
    let same : among.shard ≡ shard = cc (among.known, known_there) in
    let new : among.new ≡ shard_with_entry (entered before.worker shard) (asked_entry before.worker call reply) = among.answered.written ∙
    ap (λ (one : JournaledShard). shard_with_entry (entered before.worker one) (asked_entry before.worker call reply)) same in
    ap (λ shards. slice_get shards number) among.put_back ∙
    ap (λ n. slice_get (slice_set before.shards (shard_of_call call) among.new) n) (sym place)
    ∙ set_here before.shards (shard_of_call call) among.shard among.new among.known ∙ ap Some new

step_other : (before after : PortView) (call : Call) (reply : Reply) (number : ℕ) → IsGivenBy before call reply after →
    (shard_of_call call == number) ≡ false → slice_get after.shards number ≡ slice_get before.shards number
step_other before after call reply number given other =
    ap (λ shards. slice_get shards number) given.answered.put_back ∙
    set_other before.shards (shard_of_call call) number given.answered.new other

-- ---- chains

pub record IsInsideAfter (worker : ℕ) (after : PortView) (number : ℕ) (shard : JournaledShard) (entries : List Entry) : Type 0 where
  pub there : slice_get after.shards number ≡ Some (with_entries shard entries)
  pub inside : is_in worker (with_entries shard entries) ≡ true

after_inside : (before after : PortView) (exchanges : List Exchange) → IsChain IsGivenBy before exchanges after →
    (number : ℕ) (shard : JournaledShard) → slice_get before.shards number ≡ Some shard → is_in before.worker shard ≡ true →
    IsInsideAfter before.worker after number shard (exchange_entries before.worker number exchanges)
after_inside before after [] chain number shard known inside = record {
  there = ap (λ (port : PortView). slice_get port.shards number) (sym chain) ∙ known ∙
      ap (λ journal. Some (record { plan = shard.plan; journal = journal })) (sym (append_none shard.journal));
  inside = rw (append_none shard.journal) inside;
}
after_inside before after (exchange ∷ later) chain number shard known inside =
    by_place (is_asked_of number exchange) refl (after_inside chain.0 after later chain.2 number)
  where
    by_place : (here : Bool) → is_asked_of number exchange ≡ here →
        ((one : JournaledShard) → slice_get chain.0.shards number ≡ Some one → is_in chain.0.worker one ≡ true →
        IsInsideAfter chain.0.worker after number one (exchange_entries chain.0.worker number later)) →
        IsInsideAfter before.worker after number shard (map (exchange_entry before.worker)
        (cond here (exchange ∷ filter (is_asked_of number) later) (filter (is_asked_of number) later)))
    by_place true is onward =
        let new : JournaledShard = shard_with_entry shard (exchange_entry before.worker exchange) in
        let there : slice_get chain.0.shards number ≡ Some new =
        step_here before chain.0 exchange.call exchange.reply number shard chain.1 known is ∙
        ap (λ (one : JournaledShard). Some (shard_with_entry one (exchange_entry before.worker exchange)))
        (stays_entered before.worker shard inside) in
        let still : is_in before.worker new ≡ true = inside_with before.worker shard exchange.call exchange.reply chain.1.run_call inside in
        let rest : IsInsideAfter chain.0.worker after number new (exchange_entries chain.0.worker number later) =
        onward new there (rw chain.1.same_worker still) in
        let same : IsInsideAfter before.worker after number new (exchange_entries before.worker number later) =
        subst (λ worker. IsInsideAfter worker after number new (exchange_entries worker number later)) chain.1.same_worker rest in
        let joined : new.journal ++ exchange_entries before.worker number later ≡ shard.journal ++
        (exchange_entry before.worker exchange ∷ exchange_entries before.worker number later) =
        append_assoc shard.journal (exchange_entry before.worker exchange ∷ []) (exchange_entries before.worker number later) in
        record {
          there = same.there ∙ ap (λ journal. Some (record { plan = shard.plan; journal = journal })) joined;
          inside = subst (λ journal. is_inside before.worker (reverse journal) ≡ true) joined same.inside;
        }
    by_place false is onward =
        let there : slice_get chain.0.shards number ≡ Some shard =
        step_other before chain.0 exchange.call exchange.reply number chain.1 is ∙ known in
        let rest : IsInsideAfter chain.0.worker after number shard (exchange_entries chain.0.worker number later) =
        onward shard there (rw chain.1.same_worker inside) in
        subst (λ worker. IsInsideAfter worker after number shard (exchange_entries worker number later)) chain.1.same_worker rest

-- the shard as the chain left it, and as it is once the port is finished
abbrev pub is_some_entry : List Entry → Bool
is_some_entry [] = false
is_some_entry (first ∷ later) = true

pub record IsWritten (worker : ℕ) (after : PortView) (number : ℕ) (shard : JournaledShard) (entries : List Entry) : Type 0 where
  pub there : slice_get after.shards number ≡ Some (with_entries shard (behind_enter worker shard.plan.number entries))
  pub inside : is_in worker (with_entries shard (behind_enter worker shard.plan.number entries)) ≡ is_some_entry entries
  pub finished : left worker (with_entries shard (behind_enter worker shard.plan.number entries)) ≡ with_entries shard
      (session worker shard.plan.number entries)

left_inside : (worker : ℕ) (shard : JournaledShard) → is_in worker shard ≡ true →
    left worker shard ≡ shard_with_entry shard (leave_by worker shard.plan.number)
left_inside worker shard inside = ap (λ (test : Bool).
    record { plan = shard.plan; journal = shard.journal ++ (if test then leave_by worker shard.plan.number ∷ [] else []) }) inside

left_outside : (worker : ℕ) (shard : JournaledShard) → is_in worker shard ≡ false → left worker shard ≡ shard
left_outside worker shard outside =
    ap (λ (test : Bool). record {
      plan = shard.plan;
      journal =
          shard.journal ++ (if test then leave_by worker shard.plan.number ∷ [] else []);
    }) outside
    ∙ ap (λ journal. record { plan = shard.plan; journal = journal }) (append_none shard.journal)

pub after_outside : (before after : PortView) (exchanges : List Exchange) → IsChain IsGivenBy before exchanges after →
    (number : ℕ) (shard : JournaledShard) → slice_get before.shards number ≡ Some shard → is_in before.worker shard ≡ false →
    IsWritten before.worker after number shard (exchange_entries before.worker number exchanges)
after_outside before after [] chain number shard known outside = record {
  there = ap (λ (port : PortView). slice_get port.shards number) (sym chain) ∙ known ∙
      ap (λ journal. Some (record { plan = shard.plan; journal = journal })) (sym (append_none shard.journal));
  inside = rw (append_none shard.journal) outside;
  finished = left_outside before.worker (with_entries shard []) (rw (append_none shard.journal) outside);
}
after_outside before after (exchange ∷ later) chain number shard known outside =
    by_place (is_asked_of number exchange) refl (after_outside chain.0 after later chain.2 number)
  where
    by_place : (here : Bool) → is_asked_of number exchange ≡ here →
        ((one : JournaledShard) → slice_get chain.0.shards number ≡ Some one → is_in chain.0.worker one ≡ false →
        IsWritten chain.0.worker after number one (exchange_entries chain.0.worker number later)) →
        IsWritten before.worker after number shard (map (exchange_entry before.worker)
        (cond here (exchange ∷ filter (is_asked_of number) later) (filter (is_asked_of number) later)))
    by_place true is onward =
        let worker : ℕ = before.worker in
        let first : Entry = exchange_entry worker exchange in
        let others : List Entry = exchange_entries worker number later in
        let enter : Entry = enter_by worker shard.plan.number in
        let leave : Entry = leave_by worker shard.plan.number in
        let new : JournaledShard = shard_with_entry (shard_with_entry shard enter) first in
        let there : slice_get chain.0.shards number ≡ Some new =
        step_here before chain.0 exchange.call exchange.reply number shard chain.1 known is ∙
        ap (λ (one : JournaledShard). Some (shard_with_entry one first)) (enters_with worker shard outside) in
        let inside : is_in worker new ≡ true =
        inside_with worker (shard_with_entry shard enter) exchange.call exchange.reply chain.1.run_call (inside_entered worker shard) in
        let rest : IsInsideAfter chain.0.worker after number new (exchange_entries chain.0.worker number later) =
        after_inside chain.0 after later chain.2 number new there (rw chain.1.same_worker inside) in
        let same : IsInsideAfter worker after number new others =
        subst (λ one. IsInsideAfter one after number new (exchange_entries one number later)) chain.1.same_worker rest in
        let joined : new.journal ++ others ≡ shard.journal ++ (enter ∷ first ∷ others) =
        append_assoc (shard.journal ++ enter ∷ []) (first ∷ []) others ∙ append_assoc shard.journal (enter ∷ []) (first ∷ others) in
        let still : is_in worker (with_entries shard (enter ∷ first ∷ others)) ≡ true =
        subst (λ journal. is_inside worker (reverse journal) ≡ true) joined same.inside in
        record {
          there = same.there ∙ ap (λ journal. Some (record { plan = shard.plan; journal = journal })) joined;
          inside = still;
          finished = left_inside worker (with_entries shard (enter ∷ first ∷ others)) still
              ∙ ap (λ journal. record { plan = shard.plan; journal = journal })
              (append_assoc shard.journal (enter ∷ first ∷ others) (leave ∷ []));
        }
    by_place false is onward =
        let there : slice_get chain.0.shards number ≡ Some shard =
        step_other before chain.0 exchange.call exchange.reply number chain.1 is ∙ known in
        let rest : IsWritten chain.0.worker after number shard (exchange_entries chain.0.worker number later) =
        onward shard there (rw chain.1.same_worker outside) in
        subst (λ worker. IsWritten worker after number shard (exchange_entries worker number later)) chain.1.same_worker rest

pub chain_worker : (before after : PortView) (exchanges : List Exchange) → IsChain IsGivenBy before exchanges after →
    after.worker ≡ before.worker
chain_worker before after [] chain = ap (λ (port : PortView). port.worker) (sym chain)
chain_worker before after (exchange ∷ later) chain = chain_worker chain.0 after later chain.2 ∙ chain.1.same_worker

pub left_at : (worker : ℕ) (shards : List JournaledShard) (number : ℕ) (shard : JournaledShard) → slice_get shards number ≡ Some shard →
    slice_get (all_left worker shards) number ≡ Some (left worker shard)
left_at worker [] number shard is = cc
left_at worker (first ∷ rest) zero shard is = let same : first ≡ shard = cc in ap (λ (one : JournaledShard). Some (left worker one)) same
left_at worker (first ∷ rest) (suc number) shard is = left_at worker rest number shard is

-- ---- a refusal at the end

left_twice : (worker : ℕ) (shard : JournaledShard) → is_in worker (with_entries shard []) ≡ false →
    left worker (entered worker (with_entries shard [])) ≡ with_entries shard
    (enter_by worker shard.plan.number ∷ leave_by worker shard.plan.number ∷ [])
left_twice worker shard outside =
    let enter : Entry = enter_by worker shard.plan.number in
    let leave : Entry = leave_by worker shard.plan.number in
    let plain : with_entries shard [] ≡ shard = ap (λ journal. record { plan = shard.plan; journal = journal })
    (append_none shard.journal) in
    let outside_plain : is_in worker shard ≡ false = subst (λ (one : JournaledShard). is_in worker one ≡ false) plain outside in
    ap (λ (one : JournaledShard). left worker (entered worker one)) plain
    ∙ ap (left worker) (enters_with worker shard outside_plain)
    ∙ left_inside worker (shard_with_entry shard enter) (inside_entered worker shard)
    ∙ ap (λ journal. record { plan = shard.plan; journal = journal }) (append_assoc shard.journal (enter ∷ []) (leave ∷ []))

-- what a refusal adds to a shard: nothing, or the Enter for its call
pub data IsAdded (worker : ℕ) (number : ℕ) (shard : JournaledShard) (call : Call) : List Entry → JournaledShard → Type 0 where
  added_nothing : {entries : List Entry} {new : JournaledShard} →
      left worker new ≡ with_entries shard (session worker shard.plan.number entries) → IsAdded worker number shard call entries new
  added_enter : {new : JournaledShard} → shard_of_call call ≡ number →
      left worker new ≡ with_entries shard (enter_by worker shard.plan.number ∷ leave_by worker shard.plan.number ∷ []) →
      IsAdded worker number shard call [] new

pub entered_added : (worker number : ℕ) (shard : JournaledShard) (call : Call) (entries : List Entry) → shard_of_call call ≡ number →
    is_in worker (with_entries shard (behind_enter worker shard.plan.number entries)) ≡ is_some_entry entries →
    left worker (with_entries shard (behind_enter worker shard.plan.number entries)) ≡ with_entries shard
    (session worker shard.plan.number entries) → IsAdded worker number shard call entries
    (entered worker (with_entries shard (behind_enter worker shard.plan.number entries)))
entered_added worker number shard call [] place inside finished = added_enter place (left_twice worker shard inside)
entered_added worker number shard call (first ∷ later) place inside finished =
    added_nothing (ap (left worker) (stays_entered worker (with_entries shard (behind_enter worker shard.plan.number (first ∷ later))) inside) ∙
    finished)
