-- What a port's calls keep and hand out.
use Rattle.std.proofs.Common.{◌≡◌, ℕ, zero, suc, ◌+◌, ◌*◌, ◌/◌, ◌<◌, Bool, true, false, ◌&&◌, ◌||◌, List, [], ◌∷◌, ◌++◌, reverse, Some}
use Rattle.std.proofs.Common.{arith, refl, sym, ◌∙◌, ap, subst}
use Rattle.std.specs.Prelude.{◌==◌, IsTrue, is_some, slice_get, slice_set, if◌then◌else◌}
use Rattle.std.proofs.lemmas.List.{reverse-append}
use Rattle.std.proofs.lemmas.Bool.Decides.{nat_tests}
use Rattle.std.proofs.lemmas.Nat.{div-mul-add}
use Rattle.std.proofs.Math.Nat.{mod-lt}
use Rattle.semantics.specs.declared.call.CellRef.{CellRef}
use Rattle.semantics.specs.Program.{shard_number_of_key, part_of_key}
use Rattle.semantics.specs.declared.call.Call.{Call}
use Rattle.semantics.specs.declared.call.Call.TheVariants.{Enter, Leave, Lookup, Load, Store, Atomic, Update, Delete, Reclaim}
use Rattle.semantics.specs.declared.call.Reply.{Reply}
use Rattle.semantics.specs.declared.call.Reply.TheVariants.{Entered, Left, Cell, Null, Word, Done, Answer, Freed}
use Rattle.semantics.specs.declared.call.Entry.{Entry}
use Rattle.semantics.specs.Reclamation.{is_inside, holds}
use Rattle.semantics.specs.declared.plan.ShardPlan.{ShardPlan}
use Rattle.semantics.specs.History.{IsLegalHistory}
use Rattle.semantics.proofs.shared.ConditionLemmas.{first_true, second_true}
use Rattle.semantics.proofs.shared.HoldingLemmas.{found_cell, held_by_lookup, guarded}
use Rattle.semantics.specs.ServedCalls.{IsHandedOut}
use Rattle.shard_core.specs.JournaledShard.{JournaledShard, shard_with_entry}
use Rattle.map_port.specs.Served.{Keeps, program_over}
use Rattle.shard_port.specs.Asking.{is_in, entered, asked_entry, enter_by, EntersAndCalls}
use Rattle.shard_port.specs.PortView.{PortView, IsGivenBy, IsRunCall, cell_of_handle, holds_at, is_handed_out}

-- ---- one shard

-- who holds a cell is inside
pub held_is_inside : (plan : ShardPlan) (worker cell : ℕ) (history : List Entry) → IsLegalHistory plan history →
    holds worker cell history ≡ true → is_inside worker history ≡ true
held_is_inside plan worker cell history legal held =
    let by = guarded plan worker cell history legal held in
    ap is_some by.is

pub append_none : {A : Type 0} (xs : List A) → xs ++ [] ≡ xs
append_none [] = refl
append_none (x ∷ xs) = ap (λ rest. x ∷ rest) (append_none xs)

-- a worker that is inside does not enter
pub stays_entered : (worker : ℕ) (shard : JournaledShard) → is_in worker shard ≡ true → entered worker shard ≡ shard
stays_entered worker shard inside =
    let at : Bool → Type 0 = λ test. record {
      plan = shard.plan;
      journal =
          shard.journal ++ (if test then [] else enter_by worker shard.plan.number ∷ []);
    } ≡ shard in
    subst at (sym inside) (ap (λ journal. record { plan = shard.plan; journal = journal }) (append_none shard.journal))

pub same_worker : (worker : ℕ) → (worker == worker) ≡ true
same_worker worker = grind (arith, nat_tests)

or_held : (first : Bool) → (first || true) ≡ true
or_held true = refl
or_held false = refl

-- a run's call lets nothing go
pub held_after_call : (worker cell : ℕ) (call : Call) (reply : Reply) (history : List Entry) → IsRunCall call →
    holds worker cell history ≡ true → holds worker cell (asked_entry worker call reply ∷ history) ≡ true
held_after_call worker cell (Enter shard) reply history run held = absurd run
held_after_call worker cell (Leave shard) reply history run held = absurd run
held_after_call worker cell (Reclaim shard) reply history run held = absurd run
held_after_call worker cell (Lookup shard key) reply history run held =
    rw (same_worker worker, held) (held_by_lookup shard key reply cell true ∙ or_held (found_cell reply cell))
held_after_call worker cell (Load at offset size) reply history run held = rw (same_worker worker) held
held_after_call worker cell (Store at offset size value) reply history run held = rw (same_worker worker) held
held_after_call worker cell (Atomic at offset size op value expected) reply history run held = rw (same_worker worker) held
held_after_call worker cell (Update shard key value flags) reply history run held = rw (same_worker worker) held
held_after_call worker cell (Delete shard key) reply history run held = rw (same_worker worker) held

-- nor ends its section
pub inside_after_call : (worker : ℕ) (call : Call) (reply : Reply) (history : List Entry) → IsRunCall call →
    is_inside worker history ≡ true →
    is_inside worker (asked_entry worker call reply ∷ history) ≡ true
inside_after_call worker (Enter shard) reply history run inside = absurd run
inside_after_call worker (Leave shard) reply history run inside = absurd run
inside_after_call worker (Reclaim shard) reply history run inside = absurd run
inside_after_call worker (Lookup shard key) reply history run inside = rw (same_worker worker) inside
inside_after_call worker (Load at offset size) reply history run inside = rw (same_worker worker) inside
inside_after_call worker (Store at offset size value) reply history run inside = rw (same_worker worker) inside
inside_after_call worker (Atomic at offset size op value expected) reply history run inside = rw (same_worker worker) inside
inside_after_call worker (Update shard key value flags) reply history run inside = rw (same_worker worker) inside
inside_after_call worker (Delete shard key) reply history run inside = rw (same_worker worker) inside

-- the newest entry is first in the history
pub newest_first : (shard : JournaledShard) (entry : Entry) → reverse (shard_with_entry shard entry).journal ≡ entry ∷ reverse shard.journal
newest_first shard entry = reverse-append shard.journal (entry ∷ [])

still_held : (worker cell : ℕ) (before : JournaledShard) (call : Call) (reply : Reply) (after : JournaledShard) → IsRunCall call →
    EntersAndCalls worker before call reply after → holds worker cell (reverse before.journal) ≡ true →
    holds worker cell (reverse after.journal) ≡ true
still_held worker cell before call reply after run answered held =
    let inside : is_in worker before ≡ true = held_is_inside before.plan worker cell (reverse before.journal) answered.legal held in
    let written : after ≡ shard_with_entry before (asked_entry worker call reply) = answered.written ∙
    ap (λ shard. shard_with_entry shard (asked_entry worker call reply)) (stays_entered worker before inside) in
    let kept : holds worker cell (reverse (shard_with_entry before (asked_entry worker call reply)).journal) ≡ true =
    rw (newest_first before (asked_entry worker call reply))
    (held_after_call worker cell call reply (reverse before.journal) run held) in
    subst (λ (shard : JournaledShard). holds worker cell (reverse shard.journal) ≡ true) (sym written) kept

-- ---- many shards

pub set_here : (shards : List JournaledShard) (number : ℕ) (old new : JournaledShard) → slice_get shards number ≡ Some old →
    slice_get (slice_set shards number new) number ≡ Some new
set_here [] number old new known = cc
set_here (first ∷ rest) zero old new known = refl
set_here (first ∷ rest) (suc number) old new known = set_here rest number old new known

held_among : (worker cell : ℕ) (shards : List JournaledShard) (number : ℕ) (old new : JournaledShard) → slice_get shards number ≡ Some old →
    (holds worker cell (reverse old.journal) ≡ true → holds worker cell (reverse new.journal) ≡ true) → (at : ℕ) →
    holds_at worker (slice_get shards at) cell ≡ true → holds_at worker (slice_get (slice_set shards number new) at) cell ≡ true
held_among worker cell [] number old new known kept at held = cc
held_among worker cell (first ∷ rest) zero old new known kept zero held =
    let same : first ≡ old = cc in
    kept (subst (λ (shard : JournaledShard). holds worker cell (reverse shard.journal) ≡ true) same held)
held_among worker cell (first ∷ rest) zero old new known kept (suc at) held = held
held_among worker cell (first ∷ rest) (suc number) old new known kept zero held = held
held_among worker cell (first ∷ rest) (suc number) old new known kept (suc at) held =
    held_among worker cell rest number old new known kept at held

-- ---- the laws

pub both_true : (a b : Bool) → a ≡ true → b ≡ true → (a && b) ≡ true
both_true a b first second = rw (first, second) refl

kept_by : (before after : PortView) (call : Call) (reply : Reply) → IsGivenBy before call reply after → (map shard cell : ℕ) →
    IsTrue (is_handed_out before map shard cell) → IsTrue (is_handed_out after map shard cell)
kept_by before after call reply given map shard cell held =
    let own : IsTrue (shard / before.served.shards == map) =
    first_true (shard / before.served.shards == map) (holds_at before.worker (slice_get before.shards shard) cell) held in
    let there : IsTrue (holds_at before.worker (slice_get before.shards shard) cell) =
    second_true (shard / before.served.shards == map) (holds_at before.worker (slice_get before.shards shard) cell) held in
    let among = given.answered in
    let kept : holds_at before.worker (slice_get (slice_set before.shards _ among.new) shard) cell ≡ true =
    held_among before.worker cell before.shards _ among.shard among.new among.known
    (still_held before.worker cell among.shard call reply among.new given.run_call among.answered) shard there in
    rw (given.same_maps, given.same_worker, among.put_back) (both_true _ _ own kept)

pub keeps_by : (before after : PortView) (call : Call) (reply : Reply) → IsGivenBy before call reply after →
    Keeps before.served after.served (is_handed_out before) (is_handed_out after) cell_of_handle cell_of_handle
keeps_by before after call reply given = record {
  same = given.same_maps;
  kept = kept_by before after call reply given;
  named = λ map handle held. refl;
}

held_new : (worker : ℕ) (before : JournaledShard) (shard : ℕ) (key : List ℕ) (cell : CellRef) (after : JournaledShard) →
    EntersAndCalls worker before (Lookup shard key) (Cell cell) after → holds worker cell.id (reverse after.journal) ≡ true
held_new worker before shard key cell after answered =
    let entry : Entry = asked_entry worker (Lookup shard key) (Cell cell) in
    let found : holds worker cell.id (entry ∷ reverse (entered worker before).journal) ≡ true =
    rw (same_worker worker, same_worker cell.id) refl in
    let kept : holds worker cell.id (reverse (shard_with_entry (entered worker before) entry).journal) ≡ true =
    rw (newest_first (entered worker before) entry) found in
    subst (λ (one : JournaledShard). holds worker cell.id (reverse one.journal) ≡ true) (sym answered.written) kept

-- the cell that a lookup found is handed out
found_by : (before after : PortView) (shard : ℕ) (key : List ℕ) (cell : CellRef) → IsGivenBy before (Lookup shard key) (Cell cell) after →
    IsHandedOut (program_over before.served) (is_handed_out after) (Lookup shard key) (Cell cell)
found_by before after shard key cell given map definition known own =
    let among = given.answered in
    let parts : ℕ = before.served.shards in
    let part : ℕ = part_of_key definition.kind parts key in
    let below : part < parts = mod-lt (shard_number_of_key definition.kind key) given.some_shard in
    let at : cell.shard ≡ map * parts + part = given.formed ∙ own in
    let of_map : cell.shard / parts ≡ map = ap (λ number. number / parts) at ∙ div-mul-add map parts part below in
    let of_map_test : (cell.shard / parts == map) ≡ true = grind (arith, nat_tests) in
    let there : slice_get (slice_set before.shards shard among.new) cell.shard ≡ Some among.new =
    rw given.formed (set_here before.shards shard among.shard among.new among.known) in
    let held : holds before.worker cell.id (reverse among.new.journal) ≡ true =
    held_new before.worker among.shard shard key cell among.new among.answered in
    let held_there : holds_at before.worker (slice_get (slice_set before.shards shard among.new) cell.shard) cell.id ≡ true =
    rw there held in
    rw (given.same_maps, given.same_worker, among.put_back) (both_true _ _ of_map_test held_there)

port_found_in : (before after : PortView) (shard : ℕ) (key : List ℕ) (reply : Reply) → IsGivenBy before (Lookup shard key) reply after →
    IsHandedOut (program_over before.served) (is_handed_out after) (Lookup shard key) reply
port_found_in before after shard key (Cell cell) given = found_by before after shard key cell given
port_found_in before after shard key Entered given = tt
port_found_in before after shard key Left given = tt
port_found_in before after shard key Null given = tt
port_found_in before after shard key (Word value) given = tt
port_found_in before after shard key Done given = tt
port_found_in before after shard key (Answer code) given = tt
port_found_in before after shard key (Freed count) given = tt

pub hands_out_by : (before after : PortView) (call : Call) (reply : Reply) → IsGivenBy before call reply after →
    IsHandedOut (program_over before.served) (is_handed_out after) call reply
hands_out_by before after (Lookup shard key) reply given = port_found_in before after shard key reply given
hands_out_by before after (Enter shard) reply given = tt
hands_out_by before after (Leave shard) reply given = tt
hands_out_by before after (Load cell offset size) reply given = tt
hands_out_by before after (Store cell offset size value) reply given = tt
hands_out_by before after (Atomic cell offset size op value expected) reply given = tt
hands_out_by before after (Update shard key value flags) reply given = tt
hands_out_by before after (Delete shard key) reply given = tt
hands_out_by before after (Reclaim shard) reply given = tt
