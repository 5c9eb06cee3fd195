-- What the calls of a pass's port keep and hand out.
use Rattle.std.proofs.Common.{◌≡◌, ℕ, ◌+◌, ◌*◌, ◌/◌, ◌<◌, Bool, true, false, List, [], ◌∷◌, ◌++◌, arith, refl, sym, ◌∙◌, ap, subst}
use Rattle.std.specs.Prelude.{◌==◌, IsTrue, if◌then◌else◌}
use Rattle.std.proofs.lemmas.Bool.Decides.{nat_tests}
use Rattle.std.proofs.lemmas.Nat.{div-mul-add}
use Rattle.std.proofs.Math.Nat.{mod-lt}
use Rattle.semantics.specs.declared.call.Caller.{Caller}
use Rattle.semantics.specs.declared.call.Caller.TheVariants.{Worker}
use Rattle.semantics.specs.declared.call.CellRef.{CellRef}
use Rattle.semantics.specs.declared.call.Call.{Call}
use Rattle.semantics.specs.declared.call.Call.TheVariants.{Enter, Leave, Lookup, Load, Store, Atomic, Update, Delete, Reclaim}
use Rattle.semantics.specs.declared.call.Reply.{Reply}
use Rattle.semantics.specs.declared.call.Reply.TheVariants.{Entered, Left, Cell, Null, Word, Done, Answer, Freed}
use Rattle.semantics.specs.declared.call.Entry.{Entry}
use Rattle.semantics.specs.declared.plan.ShardPlan.{ShardPlan}
use Rattle.semantics.specs.Program.{shard_number_of_key, part_of_key}
use Rattle.semantics.specs.Reclamation.{is_inside, holds}
use Rattle.semantics.specs.History.{shard_of_call}
use Rattle.semantics.proofs.shared.ConditionLemmas.{first_true, second_true}
use Rattle.semantics.specs.ServedCalls.{IsHandedOut}
use Rattle.map_port.specs.Served.{Keeps, program_over}
use Rattle.shards.specs.CallerView.{CallerView}
use Rattle.shards.specs.Passes.{own_at}
use Rattle.shard_port.specs.Asking.{enter_by, asked_entry}
use Rattle.shard_port.specs.PortView.{IsRunCall, cell_of_handle}
use Rattle.shard_port.specs.PortLaws.{same_worker, both_true, held_after_call, inside_after_call}
use Rattle.shard_port.specs.PassPorts.{PassPort, worker_number, inside_own, has_found, PassGives}
use Rattle.shards.specs.HeldCells.{holds_own}

-- ---- one shard

-- the worker is inside, once it has entered
pub inside_once : (worker number : ℕ) (own : List Entry) → is_inside worker (inside_own worker number own) ≡ true
inside_once worker number own = by_test (is_inside worker own) refl
  where
    by_test : (inside : Bool) → is_inside worker own ≡ inside →
        is_inside worker ((if inside then [] else enter_by worker number ∷ []) ++ own) ≡ true
    by_test true is = is
    by_test false is = rw (same_worker worker) refl

-- a worker that is inside does not enter
pub stays_inside : (worker number : ℕ) (own : List Entry) → is_inside worker own ≡ true → inside_own worker number own ≡ own
stays_inside worker number own inside = ap (λ (test : Bool). (if test then [] else enter_by worker number ∷ []) ++ own) inside

-- what it held stays held
kept_at : (worker number cell : ℕ) (call : Call) (reply : Reply) (own : List Entry) → IsRunCall call →
    IsTrue (holds_own (Worker worker) own cell) →
    IsTrue (holds_own (Worker worker) (asked_entry worker call reply ∷ inside_own worker number own) cell)
kept_at worker number cell call reply own run held =
    let inside : is_inside worker own ≡ true = first_true (is_inside worker own) (holds worker cell own) held in
    let found : holds worker cell own ≡ true = second_true (is_inside worker own) (holds worker cell own) held in
    subst (λ (list : List Entry). IsTrue (holds_own (Worker worker) (asked_entry worker call reply ∷ list) cell))
    (sym (stays_inside worker number own inside))
    (both_true _ _ (inside_after_call worker call reply own run inside) (held_after_call worker cell call reply own run found))

-- ---- all shards

kept_place : (plan : ℕ → ShardPlan) (count : ℕ) (before after : PassPort) (call : Call) (reply : Reply) →
    PassGives plan count before call reply after →
    (shard cell : ℕ) (here : Bool) → (shard == shard_of_call call) ≡ here →
    IsTrue (holds_own (Worker (worker_number before.pass.who)) (own_at before.pass shard) cell) →
    IsTrue (holds_own (Worker (worker_number before.pass.who)) (own_at after.pass shard) cell)
kept_place plan count before after call reply given shard cell true is held =
    let worker : ℕ = worker_number before.pass.who in
    let same : shard ≡ shard_of_call call = grind (arith, nat_tests) in
    let held_there : IsTrue (holds_own (Worker worker) (own_at before.pass (shard_of_call call)) cell) =
    subst (λ (n : ℕ). IsTrue (holds_own (Worker worker) (own_at before.pass n) cell)) same held in
    let now : IsTrue (holds_own (Worker worker)
    (asked_entry worker call reply ∷ inside_own worker (shard_of_call call) (own_at before.pass (shard_of_call call))) cell) =
    kept_at worker (shard_of_call call) cell call reply (own_at before.pass (shard_of_call call)) given.run_call held_there in
    subst (λ (n : ℕ). IsTrue (holds_own (Worker worker) (own_at after.pass n) cell)) (sym same)
    (subst (λ (own : List Entry). IsTrue (holds_own (Worker worker) own cell)) (sym given.asked.at.own) now)
kept_place plan count before after call reply given shard cell false is held =
    let other : (shard ≡ shard_of_call call → ⊥) = (λ same. grind (arith, nat_tests)) in
    subst (λ (own : List Entry). IsTrue (holds_own (Worker (worker_number before.pass.who)) own cell))
    (sym (ap (λ (view : CallerView). view.own) (given.elsewhere.others shard other))) held

pass_kept_by : (plan : ℕ → ShardPlan) (count : ℕ) (before after : PassPort) (call : Call) (reply : Reply) →
    PassGives plan count before call reply after →
    (map shard cell : ℕ) → IsTrue (has_found before map shard cell) → IsTrue (has_found after map shard cell)
pass_kept_by plan count before after call reply given map shard cell held =
    let own : IsTrue (shard / before.served.shards == map) =
    first_true (shard / before.served.shards == map) (holds_own before.pass.who (own_at before.pass shard) cell) held in
    let there : IsTrue (holds_own before.pass.who (own_at before.pass shard) cell) =
    second_true (shard / before.served.shards == map) (holds_own before.pass.who (own_at before.pass shard) cell) held in
    let worker : ℕ = worker_number before.pass.who in
    let mine : IsTrue (holds_own (Worker worker) (own_at before.pass shard) cell) =
    subst (λ (who : Caller). IsTrue (holds_own who (own_at before.pass shard) cell)) given.is_worker there in
    let kept : IsTrue (holds_own (Worker worker) (own_at after.pass shard) cell) =
    kept_place plan count before after call reply given shard cell (shard == shard_of_call call) refl mine in
    let theirs : IsTrue (holds_own after.pass.who (own_at after.pass shard) cell) =
    subst (λ (who : Caller). IsTrue (holds_own who (own_at after.pass shard) cell)) (sym (given.elsewhere.who ∙ given.is_worker)) kept in
    rw given.same_maps (both_true _ _ own theirs)

pub pass_keeps : (plan : ℕ → ShardPlan) (count : ℕ) (before after : PassPort) (call : Call) (reply : Reply) →
    PassGives plan count before call reply after →
    Keeps before.served after.served (has_found before) (has_found after) cell_of_handle cell_of_handle
pass_keeps plan count before after call reply given = record {
  same = given.same_maps;
  kept = pass_kept_by plan count before after call reply given;
  named = λ map handle held. refl;
}

-- ---- what a lookup hands out

found_own : (worker number shard : ℕ) (key : List ℕ) (cell : CellRef) (own : List Entry) →
    IsTrue (holds_own (Worker worker) (asked_entry worker (Lookup shard key) (Cell cell) ∷ inside_own worker number own) cell.id)
found_own worker number shard key cell own =
    both_true _ _
    (inside_after_call worker (Lookup shard key) (Cell cell) (inside_own worker number own) tt (inside_once worker number own))
    (rw (same_worker worker, same_worker cell.id) refl)

pass_found_by : (plan : ℕ → ShardPlan) (count : ℕ) (before after : PassPort) (shard : ℕ) (key : List ℕ) (cell : CellRef) →
    PassGives plan count before (Lookup shard key) (Cell cell) after →
    IsHandedOut (program_over before.served) (has_found after) (Lookup shard key) (Cell cell)
pass_found_by plan count before after shard key cell given map definition known own =
    let parts : ℕ = before.served.shards in
    let part : ℕ = part_of_key definition.kind parts key in
    let below : part < parts = mod-lt (shard_number_of_key definition.kind key) given.some_shard in
    let at : cell.shard ≡ map * parts + part = given.formed ∙ own in
    let of_map : cell.shard / parts ≡ map = ap (λ number. number / parts) at ∙ div-mul-add map parts part below in
    let of_map_test : (cell.shard / parts == map) ≡ true = grind (arith, nat_tests) in
    let worker : ℕ = worker_number before.pass.who in
    let mine : IsTrue (holds_own (Worker worker) (own_at after.pass shard) cell.id) =
    subst (λ (list : List Entry). IsTrue (holds_own (Worker worker) list cell.id)) (sym given.asked.at.own)
    (found_own worker shard shard key cell (own_at before.pass shard)) in
    let theirs : IsTrue (holds_own after.pass.who (own_at after.pass shard) cell.id) =
    subst (λ (who : Caller). IsTrue (holds_own who (own_at after.pass shard) cell.id)) (sym (given.elsewhere.who ∙ given.is_worker)) mine in
    let there : IsTrue (holds_own after.pass.who (own_at after.pass cell.shard) cell.id) =
    subst (λ (n : ℕ). IsTrue (holds_own after.pass.who (own_at after.pass n) cell.id)) (sym given.formed) theirs in
    rw given.same_maps (both_true _ _ of_map_test there)

pass_found_in : (plan : ℕ → ShardPlan) (count : ℕ) (before after : PassPort) (shard : ℕ) (key : List ℕ) (reply : Reply) →
    PassGives plan count before (Lookup shard key) reply after →
    IsHandedOut (program_over before.served) (has_found after) (Lookup shard key) reply
pass_found_in plan count before after shard key (Cell cell) given = pass_found_by plan count before after shard key cell given
pass_found_in plan count before after shard key Entered given = tt
pass_found_in plan count before after shard key Left given = tt
pass_found_in plan count before after shard key Null given = tt
pass_found_in plan count before after shard key (Word value) given = tt
pass_found_in plan count before after shard key Done given = tt
pass_found_in plan count before after shard key (Answer code) given = tt
pass_found_in plan count before after shard key (Freed freed) given = tt

pub pass_hands_out : (plan : ℕ → ShardPlan) (count : ℕ) (before after : PassPort) (call : Call) (reply : Reply) →
    PassGives plan count before call reply after →
    IsHandedOut (program_over before.served) (has_found after) call reply
pass_hands_out plan count before after (Lookup shard key) reply given = pass_found_in plan count before after shard key reply given
pass_hands_out plan count before after (Enter shard) reply given = tt
pass_hands_out plan count before after (Leave shard) reply given = tt
pass_hands_out plan count before after (Load cell offset size) reply given = tt
pass_hands_out plan count before after (Store cell offset size value) reply given = tt
pass_hands_out plan count before after (Atomic cell offset size op value expected) reply given = tt
pass_hands_out plan count before after (Update shard key value flags) reply given = tt
pass_hands_out plan count before after (Delete shard key) reply given = tt
pass_hands_out plan count before after (Reclaim shard) reply given = tt
