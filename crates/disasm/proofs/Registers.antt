-- Every register is found again by its text.
use Rattle.std.proofs.Common.{◌≡◌, ℕ, List, ◌++◌, Some, refl, bytes_eq}
use Rattle.std.specs.Prelude.{ℤ, pos, negsuc, reverse}
use Rattle.std.specs.List.{find}
use Rattle.isa.specs.declared.operation.Register.{Register}
use Rattle.isa.specs.declared.operation.Register.TheVariants.{R0, R1, R2, R3, R4, R5, R6, R7, R8, R9, R10}
use Rattle.isa.specs.declared.operation.TheConstants.{REGISTERS}
use Rattle.disasm.specs.AssemblyText.{register_text, with_sign}
use Rattle.disasm.specs.LineReading.{begins_with_register}

pub register_again : (r : Register) → find (λ (q : Register). bytes_eq (register_text q) (register_text r)) REGISTERS ≡ Some r
register_again R0 = refl
register_again R1 = refl
register_again R2 = refl
register_again R3 = refl
register_again R4 = refl
register_again R5 = refl
register_again R6 = refl
register_again R7 = refl
register_again R8 = refl
register_again R9 = refl
register_again R10 = refl

pub leading_again : (r : Register) (z : ℤ) (rest : List ℕ) → find (λ (q : Register). begins_with_register (register_text r ++ (with_sign z ++ rest)) q) (reverse REGISTERS) ≡ Some r
leading_again R0 (pos n) rest = refl
leading_again R0 (negsuc n) rest = refl
leading_again R1 (pos n) rest = refl
leading_again R1 (negsuc n) rest = refl
leading_again R2 (pos n) rest = refl
leading_again R2 (negsuc n) rest = refl
leading_again R3 (pos n) rest = refl
leading_again R3 (negsuc n) rest = refl
leading_again R4 (pos n) rest = refl
leading_again R4 (negsuc n) rest = refl
leading_again R5 (pos n) rest = refl
leading_again R5 (negsuc n) rest = refl
leading_again R6 (pos n) rest = refl
leading_again R6 (negsuc n) rest = refl
leading_again R7 (pos n) rest = refl
leading_again R7 (negsuc n) rest = refl
leading_again R8 (pos n) rest = refl
leading_again R8 (negsuc n) rest = refl
leading_again R9 (pos n) rest = refl
leading_again R9 (negsuc n) rest = refl
leading_again R10 (pos n) rest = refl
leading_again R10 (negsuc n) rest = refl
