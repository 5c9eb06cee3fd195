use Rattle.semantics.proofs.RowLemmas.{run_over_an_array, run_over_a_hash_map, held_cell_outlives}
use Rattle.semantics.proofs.RowLemmas as rows
use Rattle.semantics.proofs.laws.events_happen.Goals as goal

pub returns-clause-array : goal.returns-clause-array
returns-clause-array c = run_over_an_array

pub returns-clause-hash_map : goal.returns-clause-hash_map
returns-clause-hash_map c = run_over_a_hash_map

pub returns-clause-held_cell : goal.returns-clause-held_cell
returns-clause-held_cell c = held_cell_outlives

pub returns-clause-full_journal : goal.returns-clause-full_journal
returns-clause-full_journal c = rows.full_journal
