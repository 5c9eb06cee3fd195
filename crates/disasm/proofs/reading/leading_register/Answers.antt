use Rattle.std.proofs.Common.{◌≡◌, ℕ, List, Option, Some, ap, ◌∙◌}
use Rattle.std.specs.Prelude.{reverse}
use Rattle.std.specs.List.{find}
use Rattle.std.specs.Option.{unwrap_or}
use Rattle.isa.specs.declared.operation.Register.{Register}
use Rattle.isa.specs.declared.operation.Register.TheVariants.{R0}
use Rattle.isa.specs.declared.operation.TheConstants.{REGISTERS}
use Rattle.disasm.specs.LineReading.{begins_with_register}
use Rattle.disasm.proofs.Registers.{leading_again}
use Rattle.disasm.proofs.reading.leading_register.Goals as goal

pub returns : goal.returns
returns c = λ r z rest is.
    let found : c.last_leading.result ≡ find (λ (q : Register). begins_with_register c.args.text.now q) (reverse REGISTERS) = c.last_leading.ensures in
    let again : c.last_leading.result ≡ Some r = found ∙ ap (λ (text : List ℕ). find (λ (q : Register). begins_with_register text q) (reverse REGISTERS)) is ∙ leading_again r z rest in
    c.unwrap_or.ensures ∙ ap (λ (x : Option Register). unwrap_or x R0) again
