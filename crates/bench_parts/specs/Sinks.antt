-- Maps that take every update.
use Rattle.std.specs.Prelude.{◌≡◌, ℤ, pos, List}
use Rattle.ebpf_decode.specs.declared.map.MapDef.{MapDef}

-- the update was answered 0, and the maps are as they were
pub record IsTaken (before : List MapDef) (answer : ℤ) (after : List MapDef) : Type 0 where
  pub same : after ≡ before
  pub done : answer ≡ pos 0
