-- A shard of counts.
use Rattle.std.proofs.Common.{◌≡◌, inl, inr, ℕ, ◌+◌, ◌%◌, ◌/◌, ◌^◌, ◌<◌, ◌≤◌, ◌==◌, Bool, true, false, List, [], ◌∷◌, length, replicate, take, drop, refl, sym, ap, subst, arith, ◌∙◌}
use Rattle.std.specs.Prelude.{Some, None, if◌then◌else◌, slice_index_or, nat_lt, IsFalse}
use Rattle.std.proofs.lemmas.Bool.{eqb-true, eqb-false, lt-ltb}
use Rattle.std.proofs.lemmas.Bool.Decides.{nat_tests}
use Rattle.std.proofs.lemmas.List.{get_or-set_same, get_or-set_other, length-set, length-replicate, get_or-replicate}
use Rattle.ebpf_decode.specs.declared.map.MapKind.{MapKind}
use Rattle.ebpf_decode.specs.declared.map.MapKind.TheVariants.{Array}
use Rattle.semantics.specs.declared.call.Call.{Call}
use Rattle.semantics.specs.declared.call.Call.TheVariants.{Enter, Leave, Lookup, Load, Atomic}
use Rattle.semantics.specs.declared.call.CellRef.{CellRef}
use Rattle.semantics.specs.declared.call.Entry.{Entry}
use Rattle.semantics.specs.declared.plan.ShardPlan.{ShardPlan}
use Rattle.semantics.specs.History.{IsLegalHistory, journal_is_full}
use Rattle.semantics.specs.LittleEndian.{number_of_bytes, bytes_of_number}
use Rattle.semantics.specs.Reclamation.{inside_count}
use Rattle.semantics.specs.SequentialShard.{SequentialShard, shard_after, shard_after_call, number_in_cell, opening_cells, lookup_reply, cell_of_kind}
use Rattle.semantics.specs.ShardPlan.{capacity}
use Rattle.conntrack.specs.Steering.{count_call}
use Rattle.steered_replays.specs.Counting.{LookupsOfArraysFind, IsQuiet, IsCounting, AreCounting, raised, raised_by, CountsAreExact}

-- the cell is there, and holds this count
record Holds (shard : SequentialShard) (cell count : ℕ) : Type 0 where
  there : cell < length shard.cells
  count_is : number_in_cell shard cell 0 8 ≡ count

eight_back : (n : ℕ) → n < 2 ^ 64 → number_of_bytes (bytes_of_number 8 n) ≡ n
eight_back n small = omega arith

opening : (plan : ShardPlan) (cell : ℕ) → plan.definition.kind ≡ Array → plan.definition.value_size ≡ 8 → cell < capacity plan → Holds (shard_after plan []) cell 0
opening plan cell array eight within = record {
  there = subst (λ (kind : MapKind). cell < length (opening_cells kind plan)) (sym array)
      (subst (λ n. cell < n) (sym (length-replicate (capacity plan) (replicate plan.definition.value_size 0))) within);
  count_is = subst (λ (kind : MapKind). number_of_bytes (take 8 (drop 0 (slice_index_or (opening_cells kind plan) cell []))) ≡ 0) (sym array)
      (subst (λ (size : ℕ). number_of_bytes (take 8 (drop 0 (slice_index_or (replicate (capacity plan) (replicate size 0)) cell []))) ≡ 0) (sym eight)
      (ap (λ bytes. number_of_bytes (take 8 (drop 0 bytes))) (get_or-replicate (capacity plan) cell (replicate 8 0) [] within)));
}

quiet : (plan : ShardPlan) (older : List Entry) (shard : SequentialShard) (call : Call) → IsQuiet call → shard_after_call plan older shard call ≡ shard
quiet plan older shard (Enter number) is = refl
quiet plan older shard (Leave number) is = refl
quiet plan older shard (Lookup number key) is = refl
quiet plan older shard (Load cell offset size) is = refl
quiet plan older shard _ is = absurd is

pub quiet_raises : (cell : ℕ) (call : Call) → IsQuiet call → raised_by cell call ≡ 0
quiet_raises cell (Enter number) is = refl
quiet_raises cell (Leave number) is = refl
quiet_raises cell (Lookup number key) is = refl
quiet_raises cell (Load ref offset size) is = refl
quiet_raises cell _ is = absurd is

-- one more in a count
raises : (plan : ShardPlan) (older : List Entry) (shard : SequentialShard) (ref : CellRef) (cell count : ℕ) → count + 1 < 2 ^ 64 → Holds shard cell count →
    (same : Bool) → (ref.id == cell) ≡ same → Holds (shard_after_call plan older shard (count_call ref)) cell ((if same then 1 else 0) + count)
raises plan older shard ref cell count small holds true is =
    let here : ref.id ≡ cell = eqb-true ref.id cell is in
    let old : number_in_cell shard ref.id 0 8 ≡ count = ap (λ c. number_in_cell shard c 0 8) here ∙ holds.count_is in
    let there : ref.id < length shard.cells = subst (λ c. c < length shard.cells) (sym here) holds.there in
    let new : number_in_cell (shard_after_call plan older shard (count_call ref)) ref.id 0 8 ≡ (number_in_cell shard ref.id 0 8 + 1) % 2 ^ 64 =
    ap (λ bytes. number_of_bytes (take 8 (drop 0 bytes))) (get_or-set_same shard.cells ref.id _ [] there)
    ∙ eight_back ((number_in_cell shard ref.id 0 8 + 1) % 2 ^ 64) (omega arith) in
    record {
      there = (let same_length = length-set shard.cells ref.id _ in subst (λ n. cell < n) (sym same_length) holds.there);
      count_is = ap (λ c. number_in_cell (shard_after_call plan older shard (count_call ref)) c 0 8) (sym here) ∙ new
          ∙ ap (λ n. (n + 1) % 2 ^ 64) old ∙ omega arith;
    }
raises plan older shard ref cell count small holds false is = record {
  there = (let same_length = length-set shard.cells ref.id _ in subst (λ n. cell < n) (sym same_length) holds.there);
  count_is = ap (λ bytes. number_of_bytes (take 8 (drop 0 bytes))) (get_or-set_other shard.cells ref.id cell _ [] (λ same. eqb-false ref.id cell is (sym same))) ∙ holds.count_is ∙ omega arith;
}

-- ---- counts stay below the journal's room

at_most_one : (cell : ℕ) (call : Call) → raised_by cell call ≤ 1
at_most_one cell (Atomic ref offset size op value expected) = by (ref.id == cell)
  where
    by : (t : Bool) → (if t then 1 else 0) ≤ 1
    by true = omega arith
    by false = omega arith
at_most_one cell _ = omega arith

raised_few : (cell : ℕ) (history : List Entry) → raised cell history ≤ length history
raised_few cell [] = omega arith
raised_few cell (entry ∷ older) =
    let rest : raised cell older ≤ length older = raised_few cell older in
    let one : raised_by cell entry.call ≤ 1 = at_most_one cell entry.call in omega (arith, rest, one)

room_below : (reserve long inside : ℕ) → nat_lt reserve (long + inside + 0 + 1) ≡ false → long + 1 ≤ reserve
room_below reserve long inside test =
    let fits : long + inside + 0 + 1 ≤ reserve = grind (arith, nat_tests) in omega (arith, fits)

room_for_count : (plan : ShardPlan) (older : List Entry) (ref : CellRef) → IsFalse (journal_is_full plan older (count_call ref)) → length older + 1 ≤ plan.reserve
room_for_count plan older ref room = room_below plan.reserve (length older) (inside_count older) room

counts : (plan : ShardPlan) (history : List Entry) (cell : ℕ) → plan.definition.kind ≡ Array → plan.definition.value_size ≡ 8 → cell < capacity plan →
    plan.reserve < 2 ^ 64 → IsLegalHistory plan history → AreCounting history → Holds (shard_after plan history) cell (raised cell history)
counts plan [] cell array eight within short legal all = opening plan cell array eight within
counts plan (entry ∷ older) cell array eight within short legal all =
    by (counts plan older cell array eight within short legal.1 all.1) all.0
  where
    by : Holds (shard_after plan older) cell (raised cell older) → IsCounting entry.call → Holds (shard_after plan (entry ∷ older)) cell (raised cell (entry ∷ older))
    by holds (inl is) = subst (λ (shard : SequentialShard). Holds shard cell (raised_by cell entry.call + raised cell older)) (sym (quiet plan older (shard_after plan older) entry.call is))
        (subst (λ n. Holds (shard_after plan older) cell (n + raised cell older)) (sym (quiet_raises cell entry.call is))
        (subst (Holds (shard_after plan older) cell) (none (raised cell older)) holds))
      where
        none : (n : ℕ) → n ≡ 0 + n
        none n = omega arith
    by holds (inr (ref, is)) =
        let room : length older + 1 ≤ plan.reserve =
        room_for_count plan older ref (subst (λ (call : Call). IsFalse (journal_is_full plan older call)) is legal.0.room) in
        let few : raised cell older ≤ length older = raised_few cell older in
        subst (λ (call : Call). Holds (shard_after_call plan older (shard_after plan older) call) cell (raised_by cell call + raised cell older)) (sym is)
        (raises plan older (shard_after plan older) ref cell (raised cell older) (omega (arith, room, few, short)) holds (ref.id == cell) refl)

pub counts_are_exact : CountsAreExact
counts_are_exact plan history cell array eight within short legal all = (counts plan history cell array eight within short legal all).count_is

pub lookups_find : LookupsOfArraysFind
lookups_find plan history shard number key array within =
    ap (λ (kind : MapKind). lookup_reply plan (cell_of_kind kind plan shard key)) array
    ∙ ap (λ (t : Bool). lookup_reply plan (if t then Some (number_of_bytes key / plan.parts) else None)) (lt-ltb (number_of_bytes key) plan.definition.max_entries within)
