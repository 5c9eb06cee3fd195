use Rattle.std.proofs.Common.{◌≡◌, string_bytes}
use Rattle.mistakes.specs.Namesakes.{namesakes_below}
use Rattle.mistakes.proofs.namesakes.namesakes_below.Given as goal

abbrev pub invariant-numbers : goal.invariant-numbers
invariant-numbers l = string_bytes l.text ≡ namesakes_below l.about l.number
