-- The number and the fields of each fault, as its text prints them.
use Rattle.std.specs.Prelude.{ℕ}
use Rattle.faults.specs.declared.fields.Fields.{Fields}
use Rattle.faults.specs.declared.fields.Fields.TheVariants as fields
use Rattle.audit.specs.declared.fault.AuditFault.{AuditFault}
use Rattle.audit.specs.declared.fault.AuditFault.TheVariants.{Illegal, Memory}

abbrev pub audit_fault_number : AuditFault → ℕ
audit_fault_number Memory = 52
audit_fault_number (Illegal shard place) = 53

-- the numbers of the fields that a fault is printed with
abbrev pub audit_fault_fields : AuditFault → Fields
audit_fault_fields (Illegal shard place) = fields.Two shard place
audit_fault_fields Memory = fields.Empty
