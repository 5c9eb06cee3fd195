-- The line of each fault, without its line feed: that of its number and its fields.
use Rattle.std.specs.Prelude.{ℕ, ◌+◌, ◌++◌, List, codes, decimal}
use Rattle.faults.specs.FaultTable.{line_of_fault}
use Rattle.faults.specs.declared.fields.Fields.{Fields}
use Rattle.faults.specs.declared.fields.Fields.TheVariants as fields
use Rattle.folders.specs.FaultNumber.{folder_fault_number}
use Rattle.ebpf_decode.specs.ImageFormat.{fault_fields, fault_number}
use Rattle.disasm.specs.FaultNumber.{text_fault_fields, text_fault_number}
use Rattle.source_form.specs.FaultNumber.{source_fault_fields, source_fault_number}
use Rattle.verifier.specs.Rejects.{reject_fields, reject_number}
use Rattle.wire.specs.FaultNumber.{capture_fault_fields, capture_fault_number, frame_fault_number}
use Rattle.map_rules.specs.OpenFaultNumber.{open_fault_number}
use Rattle.machine.specs.StopText.{stop_fields, stop_number}
use Rattle.journals.specs.FaultNumber.{file_fault_fields, file_fault_number}
use Rattle.audit.specs.FaultNumber.{audit_fault_fields, audit_fault_number}
use Rattle.conntrack.specs.FaultNumber.{steer_fault_number}
use Rattle.control.specs.FaultNumber.{control_fault_fields, control_fault_number}
use Rattle.actors.specs.FaultNumber.{replay_fault_fields, replay_fault_number}
use Rattle.map_updates.specs.Misfits.{misfit_text}
use Rattle.map_updates.specs.declared.misfit.Misfit.{Misfit}
use Rattle.xlb_commands.specs.declared.fault.Fault.{Fault}
use Rattle.xlb_commands.specs.declared.fault.Fault.TheVariants.{Folder, Decode, Text, Source, Program, Frame, Options, Run, Journals}
use Rattle.xlb_commands.specs.declared.fault.Fault.TheVariants.{Audit, Steering, Script, Capture, Replay, Output, Memory}

-- which update of the command line, counted from 1 there, the image's maps do not take, and why
abbrev pub mistake_text : ℕ → Misfit → List ℕ
mistake_text place misfit = codes "error: update " ++ (decimal (place + 1) ++ (codes ": " ++ (misfit_text misfit ++ codes "\n")))

-- the number of a command's fault: that of the crate that found it
abbrev pub number_of_fault : Fault → ℕ
number_of_fault (Folder fault) = folder_fault_number fault
number_of_fault (Decode fault) = fault_number fault
number_of_fault (Text fault) = text_fault_number fault
number_of_fault (Source fault) = source_fault_number fault
number_of_fault (Program fault) = reject_number fault
number_of_fault (Frame fault) = frame_fault_number fault
number_of_fault (Options fault) = open_fault_number fault
number_of_fault (Run fault) = stop_number fault
number_of_fault (Journals fault) = file_fault_number fault
number_of_fault (Audit fault) = audit_fault_number fault
number_of_fault (Steering fault) = steer_fault_number fault
number_of_fault (Script fault) = control_fault_number fault
number_of_fault (Capture fault) = capture_fault_number fault
number_of_fault (Replay fault) = replay_fault_number fault
number_of_fault Output = 7
number_of_fault Memory = 8

-- the numbers of its fields
abbrev pub fields_of : Fault → Fields
fields_of (Decode fault) = fault_fields fault
fields_of (Text fault) = text_fault_fields fault
fields_of (Source fault) = source_fault_fields fault
fields_of (Program fault) = reject_fields fault
fields_of (Run fault) = stop_fields fault
fields_of (Journals fault) = file_fault_fields fault
fields_of (Audit fault) = audit_fault_fields fault
fields_of (Script fault) = control_fault_fields fault
fields_of (Capture fault) = capture_fault_fields fault
fields_of (Replay fault) = replay_fault_fields fault
fields_of other = fields.Empty

abbrev pub fault_line : Fault → List ℕ
fault_line fault = line_of_fault (number_of_fault fault) (fields_of fault)
