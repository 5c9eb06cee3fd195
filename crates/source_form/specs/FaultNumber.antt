-- The number and the fields of each fault, as its text prints them.
use Rattle.std.specs.Prelude.{ℕ}
use Rattle.faults.specs.declared.fields.Fields.{Fields}
use Rattle.faults.specs.declared.fields.Fields.TheVariants as fields
use Rattle.ebpf_decode.specs.ImageFormat.{fault_number}
use Rattle.source_form.specs.declared.fault.SourceFault.{SourceFault}
use Rattle.source_form.specs.declared.fault.SourceFault.TheVariants.{BadLine, Image, Memory}

abbrev pub source_fault_number : SourceFault → ℕ
source_fault_number (BadLine line problem) = 21
source_fault_number (Image fault) = 22
source_fault_number Memory = 23

-- the numbers of the fields that a fault is printed with; of an image's fault its number
abbrev pub source_fault_fields : SourceFault → Fields
source_fault_fields (BadLine line problem) = fields.One line
source_fault_fields (Image fault) = fields.One (fault_number fault)
source_fault_fields Memory = fields.Empty
