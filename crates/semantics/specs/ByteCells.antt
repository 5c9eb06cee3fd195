-- Cells hold bytes: so they do from the start, and a call that sets a value sets bytes.
use Rattle.std.specs.Prelude.{ℕ, ◌<◌, List}
use Rattle.std.specs.List.{AllByRecursion}
use Rattle.semantics.specs.declared.call.Call.{Call}
use Rattle.semantics.specs.declared.call.Call.TheVariants.{Update}

abbrev pub AreBytes : List ℕ → Type 0
AreBytes numbers = AllByRecursion (λ number. number < 256) numbers

-- what the call sets a key to, if it does, is bytes
abbrev pub SetsBytes : Call → Type 0
SetsBytes (Update shard key value flags) = AreBytes value
SetsBytes call = Unit {0}
