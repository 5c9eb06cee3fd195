use Rattle.std.proofs.Common.{◌≡◌, ◌+◌, ◌++◌, length}
use Rattle.semantics.specs.LittleEndian.{bytes_of_number}
use Rattle.semantics.proofs.little_endian.bytes_by_byte.Given as goal

abbrev pub invariant-higher : goal.invariant-higher
invariant-higher l = record {
  room : length l.bytes + l.left ≡ l.size;
  so_far : l.bytes ++ bytes_of_number l.left l.rest ≡ bytes_of_number l.size l.number;
}

abbrev pub decreases-higher : goal.decreases-higher
decreases-higher l = l.left
