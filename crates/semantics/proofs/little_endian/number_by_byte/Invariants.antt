use Rattle.std.proofs.Common.{◌≡◌, ◌≤◌, ◌<◌, ◌^◌, ◌-◌, length, drop}
use Rattle.semantics.specs.LittleEndian.{number_of_bytes}
use Rattle.semantics.proofs.little_endian.number_by_byte.Given as goal

abbrev pub invariant-higher : goal.invariant-higher
invariant-higher l = record {
  within : l.from ≤ length l.bytes;
  small : l.number < 256 ^ (length l.bytes - l.from);
  so_far : l.number ≡ number_of_bytes (drop l.from l.bytes);
}

abbrev pub decreases-higher : goal.decreases-higher
decreases-higher l = l.from
