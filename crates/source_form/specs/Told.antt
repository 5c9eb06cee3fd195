-- What a function that reads a part of a line answers.
use Rattle.std.specs.Prelude.{◌≡◌, ℕ, ◌+◌, List, [], Option, Some, None, Result, Ok, Err}
use Rattle.source_form.specs.declared.fault.Problem.{Problem}
use Rattle.source_form.specs.declared.fault.LineFault.{LineFault}
use Rattle.source_form.specs.declared.fault.LineFault.TheVariants as line_faults
use Rattle.source_form.specs.declared.fault.SourceFault.{SourceFault}
use Rattle.source_form.specs.declared.fault.SourceFault.TheVariants.{BadLine, Image, Memory}

-- the fault is the problem of what is read; that memory was refused says nothing of it
abbrev pub IsToldBy : Result (List ℕ) Problem → LineFault → Type 0
IsToldBy meaning (line_faults.Bad problem) = meaning ≡ Err problem
IsToldBy meaning line_faults.Memory = Unit {0}

-- the fault is that of a source
abbrev pub IsToldOf : Result (List ℕ) SourceFault → SourceFault → Type 0
IsToldOf meaning (BadLine line problem) = meaning ≡ Err (BadLine line problem)
IsToldOf meaning (Image fault) = ⊥
IsToldOf meaning Memory = Unit {0}

-- what a label means that has this problem
abbrev pub label_answer : Option Problem → Result (List ℕ) Problem
label_answer None = Ok []
label_answer (Some problem) = Err problem

-- the fault of the line at a place, which counts from 0
abbrev pub line_fault_at : ℕ → LineFault → SourceFault
line_fault_at place (line_faults.Bad problem) = BadLine (place + 1) problem
line_fault_at place line_faults.Memory = Memory
