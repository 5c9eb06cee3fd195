-- The number and the fields of each fault, as its text prints them.
use Rattle.std.specs.Prelude.{ℕ}
use Rattle.faults.specs.declared.fields.Fields.{Fields}
use Rattle.faults.specs.declared.fields.Fields.TheVariants as fields
use Rattle.ebpf_decode.specs.ImageFormat.{fault_number}
use Rattle.disasm.specs.declared.fault.AsmFault.{AsmFault}
use Rattle.disasm.specs.declared.fault.AsmFault.TheVariants.{BadLine, Image, Memory}

abbrev pub text_fault_number : AsmFault → ℕ
text_fault_number (BadLine line) = 21
text_fault_number (Image fault) = 22
text_fault_number Memory = 23

-- the numbers of the fields that a fault is printed with; of an image's fault its number
abbrev pub text_fault_fields : AsmFault → Fields
text_fault_fields (BadLine line) = fields.One line
text_fault_fields (Image fault) = fields.One (fault_number fault)
text_fault_fields Memory = fields.Empty
