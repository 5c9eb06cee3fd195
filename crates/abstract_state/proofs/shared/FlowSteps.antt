-- Every instruction: what flows out of it is sound, by what loads, stores, atomic operations, addresses in values and calls lead to.
use Rattle.std.proofs.Common.{◌≡◌, ℕ, ◌<◌, ◌^◌, ℤ, pos, negsuc, Ok, w32, arith}
use Rattle.std.specs.Prelude.{FitsSigned}
use Rattle.std.specs.List.{AllByRecursion}
use Rattle.isa.specs.Words.{twos_complement}
use Rattle.isa.specs.declared.operation.Width.{Width}
use Rattle.isa.specs.declared.operation.Size.{Size}
use Rattle.isa.specs.declared.operation.Extension.{Extension}
use Rattle.isa.specs.declared.operation.AluOp.{AluOp}
use Rattle.isa.specs.declared.operation.AtomicOp.{AtomicOp}
use Rattle.isa.specs.declared.operation.Test.{Test}
use Rattle.isa.specs.declared.operation.SourceOperand.{SourceOperand}
use Rattle.isa.specs.declared.operation.SourceOperand.TheVariants.{Imm, Reg}
use Rattle.isa.specs.declared.operation.Register.{Register}
use Rattle.ebpf_decode.specs.declared.insn.Insn.{Insn}
use Rattle.ebpf_decode.specs.declared.insn.Insn.TheVariants.{Alu, Neg, Movsx, Movsx32, End, Ja, Ja32, JumpIf, Ldx, Ldxs, St, Stx, AtomicUpdate, Lddw, Ldmap, Ldval, CallHelper, Exit}
use Rattle.ebpf_decode.specs.InstructionEncoding.{FieldsFit}
use Rattle.semantics.specs.MachineState.{MachineState}
use Rattle.semantics.specs.Program.{Program}
use Rattle.semantics.specs.PlanLimits.{HasImageSizes}
use Rattle.semantics.specs.Semantics.{instruction_step}
use Rattle.abstract_state.specs.declared.flow.Flow.{Flow}
use Rattle.abstract_state.specs.declared.state.State.{State}
use Rattle.abstract_state.specs.Flow.{flow_of}
use Rattle.abstract_state.specs.Abstraction.{Held, Abstracts}
use Rattle.abstract_state.specs.Soundness.{JumpsForward, Follows}
use Rattle.abstract_state.proofs.shared.Following.{SourceFits}
use Rattle.abstract_state.proofs.RegisterSteps.{alu_follows, neg_follows, movsx_follows, movsx32_follows, end_follows, lddw_follows, ldmap_follows, exit_follows, ja_follows, ja32_follows}
use Rattle.abstract_state.proofs.Branching.{jump_if_follows}

-- ---- the fields of an instruction

-- a number of 32 bits sign-extends to one of 64
pub immediate_fits : (immediate : ℤ) → FitsSigned w32 immediate → twos_complement 64 immediate < 2 ^ 64
immediate_fits (pos n) fits = let l : n < 2 ^ 31 = fits.sfits in omega arith
immediate_fits (negsuc n) fits = omega arith

alu_source : (width : Width) (op : AluOp) (dst : Register) (source : SourceOperand) → FieldsFit (Alu width op dst source) → SourceFits source
unfolding FieldsFit
alu_source width op dst (Imm immediate) fits = immediate_fits immediate fits
alu_source width op dst (Reg register) fits = tt

pub jump_source : (width : Width) (test : Test) (dst : Register) (source : SourceOperand) (distance : ℤ) → FieldsFit (JumpIf width test dst source distance) → SourceFits source
unfolding FieldsFit
jump_source width test dst (Imm immediate) distance fits = immediate_fits immediate fits.1
jump_source width test dst (Reg register) distance fits = tt

wide_value : (dst : Register) (value : ℕ) → FieldsFit (Lddw dst value) → value < 2 ^ 64
unfolding FieldsFit
wide_value dst value fits = fits

-- ---- every instruction

-- what loads, stores, atomic operations, addresses in values and calls lead to
pub record MemoryFollows (program : Program) (held : Held) (state : State) (machine : MachineState) (flow : Flow) : Type 0 where
  pub load : (size : Size) (dst src : Register) (offset : ℤ) → flow_of program.maps state machine.slot (Ldx size dst src offset) ≡ Ok flow →
      Follows program held flow machine (Ldx size dst src offset) (instruction_step program (Ldx size dst src offset) machine)
  pub signed_load : (extension : Extension) (dst src : Register) (offset : ℤ) →
      flow_of program.maps state machine.slot (Ldxs extension dst src offset) ≡ Ok flow →
      Follows program held flow machine (Ldxs extension dst src offset) (instruction_step program (Ldxs extension dst src offset) machine)
  pub store : (size : Size) (dst : Register) (offset immediate : ℤ) → FieldsFit (St size dst offset immediate) →
      flow_of program.maps state machine.slot (St size dst offset immediate) ≡ Ok flow →
      Follows program held flow machine (St size dst offset immediate) (instruction_step program (St size dst offset immediate) machine)
  pub store_register : (size : Size) (dst src : Register) (offset : ℤ) → flow_of program.maps state machine.slot (Stx size dst src offset) ≡ Ok flow →
      Follows program held flow machine (Stx size dst src offset) (instruction_step program (Stx size dst src offset) machine)
  pub atomic : (width : Width) (op : AtomicOp) (dst src : Register) (offset : ℤ) →
      flow_of program.maps state machine.slot (AtomicUpdate width op dst src offset) ≡ Ok flow →
      Follows program held flow machine (AtomicUpdate width op dst src offset) (instruction_step program (AtomicUpdate width op dst src offset) machine)
  pub address : (dst : Register) (map : ℤ) (offset : ℕ) → flow_of program.maps state machine.slot (Ldval dst map offset) ≡ Ok flow →
      Follows program held flow machine (Ldval dst map offset) (instruction_step program (Ldval dst map offset) machine)
  pub call : (number : ℤ) → flow_of program.maps state machine.slot (CallHelper number) ≡ Ok flow →
      Follows program held flow machine (CallHelper number) (instruction_step program (CallHelper number) machine)

pub flow_follows : (program : Program) (held : Held) (state : State) (machine : MachineState) (insn : Insn) (flow : Flow) →
    MemoryFollows program held state machine flow → Abstracts program.maps held state machine → AllByRecursion HasImageSizes program.maps → FieldsFit insn → JumpsForward insn →
    flow_of program.maps state machine.slot insn ≡ Ok flow → Follows program held flow machine insn (instruction_step program insn machine)
flow_follows program held state machine (Alu width op dst source) flow m a sizes fits forward e =
    alu_follows program held state machine width op dst source flow a sizes (alu_source width op dst source fits) e
flow_follows program held state machine (Neg width dst) flow m a sizes fits forward e = neg_follows program held state machine width dst flow a e
flow_follows program held state machine (Movsx extension dst src) flow m a sizes fits forward e = movsx_follows program held state machine extension dst src flow a e
flow_follows program held state machine (Movsx32 extension dst src) flow m a sizes fits forward e = movsx32_follows program held state machine extension dst src flow a e
flow_follows program held state machine (End order width dst) flow m a sizes fits forward e = end_follows program held state machine order width dst flow a e
flow_follows program held state machine (Ja distance) flow m a sizes fits forward e = ja_follows program held state machine distance flow a forward e
flow_follows program held state machine (Ja32 distance) flow m a sizes fits forward e = ja32_follows program held state machine distance flow a forward e
flow_follows program held state machine (JumpIf width test dst source distance) flow m a sizes fits forward e =
    jump_if_follows program held state machine width test dst source distance flow a (jump_source width test dst source distance fits) forward e
flow_follows program held state machine (Ldx size dst src offset) flow m a sizes fits forward e = m.load size dst src offset e
flow_follows program held state machine (Ldxs extension dst src offset) flow m a sizes fits forward e = m.signed_load extension dst src offset e
flow_follows program held state machine (St size dst offset immediate) flow m a sizes fits forward e =
    m.store size dst offset immediate fits e
flow_follows program held state machine (Stx size dst src offset) flow m a sizes fits forward e = m.store_register size dst src offset e
flow_follows program held state machine (AtomicUpdate width op dst src offset) flow m a sizes fits forward e = m.atomic width op dst src offset e
flow_follows program held state machine (Lddw dst value) flow m a sizes fits forward e =
    lddw_follows program held state machine dst value flow a (wide_value dst value fits) e
flow_follows program held state machine (Ldmap dst map) flow m a sizes fits forward e = ldmap_follows program held state machine dst map flow a e
flow_follows program held state machine (Ldval dst map offset) flow m a sizes fits forward e = m.address dst map offset e
flow_follows program held state machine (CallHelper number) flow m a sizes fits forward e = m.call number e
flow_follows program held state machine Exit flow m a sizes fits forward e = exit_follows program held state machine flow a e
