-- The rows, computed.
use Rattle.std.proofs.Common.{◌≡◌, ℕ, ◌%◌, ◌<◌, ◌≤◌, List, [], ◌∷◌, ◌++◌, inl, refl, arith}
use Rattle.std.specs.Prelude.{All, length}
use Rattle.std.proofs.lemmas.List.Elements.{All-nil, All-cons}
use Rattle.ebpf_decode.specs.declared.map.MapDef.{MapDef}
use Rattle.ebpf_decode.specs.declared.map.MapKind.{MapKind}
use Rattle.ebpf_decode.specs.declared.map.MapKind.TheVariants.{Array, Hash}
use Rattle.ebpf_decode.specs.InstructionEncoding.{slot_count}
use Rattle.semantics.specs.ShardPlan.{AreOptions}
use Rattle.semantics.specs.System.{IsInputFrame, BeginsRun, CallsShard}
use Rattle.semantics.specs.SystemRows.{one_worker, one_map, frame_of, instructions, RunOverAnArray, RunOverAHashMap, HeldCellOutlivesItsKey, FullJournalHasRoomForLeave, UnsafeProgramIsRefused}
use Rattle.semantics.proofs.shared.ConditionLemmas.{tested_bytes}

row_options : (kind : MapKind) → AreOptions (one_map kind) one_worker
row_options kind = record {
  some_worker = omega arith;
  at_most_eight = omega arith;
  power_of_two = inl refl;
  in_equal_parts = All-cons (λ (definition : MapDef). definition.max_entries % 1 ≡ 0) _ [] refl (All-nil _);
  least_journal = omega arith;
  greatest_journal = omega arith;
}

input_of : (bytes : List ℕ) → 14 ≤ length bytes → length bytes ≤ 2048 → All (λ byte. byte < 256) bytes → IsInputFrame bytes
input_of bytes least greatest all = record { least = least; greatest = greatest; bytes = all }

frame_three : IsInputFrame (frame_of 3)
frame_three = input_of (frame_of 3) (omega arith) (omega arith) (tested_bytes (frame_of 3) refl)

frame_zero : IsInputFrame (frame_of 0)
frame_zero = input_of (frame_of 0) (omega arith) (omega arith) (tested_bytes (frame_of 0) refl)

pub run_over_an_array : RunOverAnArray
unfolding slot_count
run_over_an_array = record {
  options = row_options Array;
  can = ((omega arith, refl, frame_three, omega arith, omega arith), (refl, (refl, (refl, (refl, (refl, (refl, (refl, (refl, (refl, (refl, (refl, (refl, (refl, (refl, (refl, (refl, (refl, (refl, (refl, tt))))))))))))))))))));
  journaled = refl;
  over = refl;
}

pub run_over_a_hash_map : RunOverAHashMap
unfolding slot_count
run_over_a_hash_map = record {
  options = row_options Hash;
  can = ((omega arith, refl, frame_zero, omega arith, omega arith), (refl, (refl, (refl, (refl, (refl, (refl, (refl, (refl, (refl, (refl, (refl, (refl, (refl, (refl, (refl, (refl, (refl, (refl, (refl, (refl, tt)))))))))))))))))))));
  journaled = refl;
  over = refl;
}

pub held_cell_outlives : HeldCellOutlivesItsKey
unfolding slot_count
held_cell_outlives = record {
  options = row_options Hash;
  can = ((refl, refl), ((omega arith, refl, frame_zero, omega arith, omega arith), (refl, (refl, (refl, (refl, (refl, (refl, ((refl, refl), (refl, ((refl, refl), (refl, (refl, (refl, (refl, (refl, (refl, tt)))))))))))))))));
  journaled = refl;
  over = refl;
}

pub full_journal : FullJournalHasRoomForLeave
unfolding slot_count
full_journal = record {
  options = row_options Hash;
  can = ((omega arith, refl, frame_zero, omega arith, omega arith), (refl, (refl, (refl, (refl, (refl, ((refl, refl), ((refl, refl), ((refl, refl), ((refl, refl), ((refl, refl), ((refl, refl), ((refl, refl), ((refl, refl), ((refl, refl), ((refl, refl), ((refl, refl), ((refl, refl), ((refl, refl), ((refl, refl), (refl, (refl, tt))))))))))))))))))))));
  journaled = refl;
  over = refl;
}

pub unsafe_is_refused : UnsafeProgramIsRefused
unfolding slot_count
unsafe_is_refused safe =
    (safe one_worker (row_options Hash)
    (BeginsRun 0 (frame_of 0) 0 0 ∷ (instructions 4 ++ CallsShard 0 ∷ CallsShard 0 ∷ []))
    ((omega arith, refl, frame_zero, omega arith, omega arith), (refl, (refl, (refl, (refl, (refl, (refl, tt))))))) 0).goes_on
