use Rattle.std.proofs.Common.{◌≡◌, ℕ, List, Option, Some, ap, ◌∙◌, bytes_eq}
use Rattle.std.specs.List.{find}
use Rattle.std.specs.Option.{unwrap_or}
use Rattle.isa.specs.declared.operation.Register.{Register}
use Rattle.isa.specs.declared.operation.Register.TheVariants.{R0}
use Rattle.isa.specs.declared.operation.TheConstants.{REGISTERS}
use Rattle.disasm.specs.AssemblyText.{register_text}
use Rattle.disasm.proofs.Registers.{register_again}
use Rattle.disasm.proofs.reading.register_of.Goals as goal

pub returns : goal.returns
returns c = λ r is.
    let found : c.first_register.result ≡ find (λ (q : Register). bytes_eq (register_text q) c.args.text.now) REGISTERS = c.first_register.ensures in
    let again : c.first_register.result ≡ Some r = found ∙ ap (λ (text : List ℕ). find (λ (q : Register). bytes_eq (register_text q) text) REGISTERS) is ∙ register_again r in
    c.unwrap_or.ensures ∙ ap (λ (x : Option Register). unwrap_or x R0) again
