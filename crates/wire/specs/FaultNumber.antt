-- The number and the fields of each fault, as its text prints them.
use Rattle.std.specs.Prelude.{ℕ}
use Rattle.faults.specs.declared.fields.Fields.{Fields}
use Rattle.faults.specs.declared.fields.Fields.TheVariants as fields
use Rattle.wire.specs.declared.frame_buffer.FrameFault.{FrameFault}
use Rattle.wire.specs.declared.frame_buffer.FrameFault.TheVariants as frame
use Rattle.wire.specs.declared.capture_fault.CaptureFault.{CaptureFault}
use Rattle.wire.specs.declared.capture_fault.CaptureFault.TheVariants as capture

abbrev pub frame_fault_number : FrameFault → ℕ
frame_fault_number frame.FrameTooLong = 6
frame_fault_number frame.Memory = 8
frame_fault_number frame.ShortFrame = 9

abbrev pub capture_fault_number : CaptureFault → ℕ
capture_fault_number capture.BadMagic = 1
capture_fault_number capture.BadVersion = 2
capture_fault_number capture.BadLink = 3
capture_fault_number (capture.CutHead record_number) = 4
capture_fault_number (capture.CutFrame record_number) = 5
capture_fault_number (capture.FrameTooLong record_number) = 6
capture_fault_number capture.Device = 7
capture_fault_number capture.Memory = 8

-- the numbers of the fields that a fault is printed with
abbrev pub capture_fault_fields : CaptureFault → Fields
capture_fault_fields (capture.CutHead number) = fields.One number
capture_fault_fields (capture.CutFrame number) = fields.One number
capture_fault_fields (capture.FrameTooLong number) = fields.One number
capture_fault_fields other = fields.Empty
