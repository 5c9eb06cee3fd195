use Rattle.std.proofs.Common.{◌≡◌, ◌++◌, string_bytes}
use Rattle.std.specs.Prelude.{IsUtf8, chars, flat_map}
use Rattle.xlb_commands.specs.Printable.{shown}
use Rattle.xlb_commands.proofs.printable.in_one_line.Given as goal

abbrev pub invariant-loop-letter : goal.invariant-loop-letter
invariant-loop-letter l = (string_bytes l.out ≡ flat_map shown l.yielded)
    × ((l.yielded ++ chars l.letter-iterator.rest.now ≡ chars l.text) × IsUtf8 l.letter-iterator.rest.now)
