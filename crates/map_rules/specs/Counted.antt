-- What is decided by how much a shard has, whatever it has.
use Rattle.std.specs.Prelude.{◌≡◌, length}
use Rattle.semantics.specs.SequentialShard.{SequentialShard}
use Rattle.map_rules.specs.declared.answers.Occupancy.{Occupancy}

-- whatever state has as many keys, and as many retired cells that wait
abbrev pub AsCounted : Occupancy → (SequentialShard → Type 0) → Type 0
AsCounted counts is = (state : SequentialShard) → counts.present ≡ length state.present → counts.waiting ≡ length state.retired → is state
