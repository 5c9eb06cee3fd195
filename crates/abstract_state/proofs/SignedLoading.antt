-- Sign-extending loads: what a register is then known to have.
use Rattle.std.proofs.Common.{◌≡◌, ℕ, ◌+◌, ◌/◌, ℤ, pos, List, take, drop, refl, sym, ◌∙◌, ap, subst}
use Rattle.std.specs.Prelude.{Ok, ◌+ℤ◌}
use Rattle.isa.specs.declared.operation.Size.TheVariants.{U64}
use Rattle.isa.specs.declared.operation.Extension.{Extension}
use Rattle.isa.specs.declared.operation.Extension.TheVariants.{I8, I16, I32}
use Rattle.isa.specs.declared.operation.Register.{Register}
use Rattle.isa.proofs.shared.Bounds.{movsx64-lt}
use Rattle.ebpf_decode.specs.declared.insn.Insn.{Insn}
use Rattle.ebpf_decode.specs.declared.insn.Insn.TheVariants.{Ldxs}
use Rattle.ebpf_decode.specs.declared.map.MapDef.{MapDef}
use Rattle.isa.specs.InstructionCodes.{extension_size, size_bytes}
use Rattle.ebpf_decode.specs.InstructionEncoding.{slot_count}
use Rattle.semantics.specs.RegisterValue.{RegisterValue, Number}
use Rattle.semantics.specs.MachineState.{MachineState, register_value}
use Rattle.semantics.specs.Program.{Program}
use Rattle.semantics.specs.Step.{Outcome, then_outcome}
use Rattle.semantics.specs.Memory.{spilled_or_number, stack_value, packet_value}
use Rattle.semantics.specs.Arithmetic.{changed_number}
use Rattle.semantics.specs.Semantics.{extended, load_signed_step, instruction_step}
use Rattle.abstract_scalar.specs.Intervals.{full_of}
use Rattle.abstract_state.specs.declared.kind.Kind.{Kind}
use Rattle.abstract_state.specs.declared.kind.Kind.TheVariants.{Unset, Scalar, Ctx, Stack, Packet, PacketEnd, Map, ValueOrNull, Value}
use Rattle.abstract_state.specs.declared.flow.Flow.{Flow}
use Rattle.abstract_state.specs.declared.state.State.{State}
use Rattle.abstract_state.specs.States.{◌>>=◌, kind_of, with_kind, word_of}
use Rattle.abstract_state.specs.Places.{stack_access, packet_access, value_access}
use Rattle.abstract_state.specs.Words.{loaded_number, narrow_loaded, spilled_loaded, word_loaded}
use Rattle.abstract_state.specs.Access.{loaded_kind, signed_loaded, signed_load_of}
use Rattle.abstract_state.specs.Flow.{writable, reads, load_flow, flow_of}
use Rattle.abstract_state.specs.Soundness.{FallsOn, Follows}
use Rattle.abstract_state.specs.Abstraction.{Held, KindScope, KindCovers, IsNumberIn, kind_scope_of, Abstracts}
use Rattle.abstract_state.proofs.shared.Checking.{ok_same, ok_then, falls_made}
use Rattle.abstract_state.proofs.shared.Accesses.{IsAligned, range_found, stack_found, value_found}
use Rattle.abstract_state.proofs.shared.LoadedNumbers.{Loads, LoadsThere, in_full, word_number, stack_value_is, packet_number}
use Rattle.abstract_state.proofs.Loading.{loads_follow, cell_follows}

narrow : (extension : Extension) (kind : Kind) → spilled_loaded (extension_size extension) kind ≡ narrow_loaded (extension_size extension) kind
narrow I8 kind = refl
narrow I16 kind = refl
narrow I32 kind = refl

signed_in_full : (extension : Extension) (n : ℕ) → IsNumberIn (full_of 64) (Number (extended extension n))
signed_in_full extension n = in_full U64 (extended extension n) (movsx64-lt extension n)

signed_loads : (s : KindScope) (extension : Extension) (outcome : Outcome RegisterValue) (n : ℕ) → outcome ≡ Ok (Number n) →
    Loads s (Scalar (full_of 64)) (then_outcome outcome (λ v. changed_number v (extended extension)))
signed_loads s extension outcome n is = record {
  value = Number (extended extension n);
  is = ap (λ o. then_outcome o (λ v. changed_number v (extended extension))) is;
  covered = signed_in_full extension n;
}

signed_by_kind : (program : Program) (held : Held) (state : State) (machine : MachineState) (a : Abstracts program.maps held state machine)
    (insn : Insn) (extension : Extension) (dst : Register) (done : Unit {0}) → writable dst ≡ Ok done → (src : Register) (offset : ℤ) (known : Kind) (v : RegisterValue) →
    KindCovers (kind_scope_of program.maps held a.ids machine) known v → (loaded : Kind) →
    loaded_kind program.maps state (extension_size extension) known offset src ≡ Ok loaded → (known ≡ Ctx → ⊥) →
    FallsOn program held (with_kind state dst (Scalar (full_of 64))) machine (machine.slot + slot_count insn) (load_signed_step program insn machine dst v offset extension)
signed_by_kind program held state machine a insn extension dst done w src offset Ctx v c loaded e other = absurd (other refl)
signed_by_kind program held state machine a insn extension dst done w src offset (Stack place) v c loaded e other =
    let parts = ok_then (stack_access place offset (size_bytes (extension_size extension))) (λ from. word_loaded state (extension_size extension) from (word_of state (from / 8))) loaded e
    in let found : IsAligned (pos place +ℤ offset) (size_bytes (extension_size extension)) 512 parts.0 = stack_found place offset (size_bytes (extension_size extension)) parts.0 parts.1.0
    in let there : LoadsThere (extension_size extension) loaded (spilled_or_number (take (size_bytes (extension_size extension)) (drop parts.0 machine.stack))) =
    word_number program.maps held state machine a (extension_size extension) (narrow extension) parts.0 (word_of state (parts.0 / 8)) loaded found.inside found.multiple refl parts.1.1
    in let same : stack_value machine.stack (c.at +ℤ offset) (size_bytes (extension_size extension)) ≡ spilled_or_number (take (size_bytes (extension_size extension)) (drop parts.0 machine.stack)) =
    stack_value_is machine.stack c.at offset place parts.0 (size_bytes (extension_size extension)) c.counted a.is_machine.stack_size found
    in subst (λ v. FallsOn program held (with_kind state dst (Scalar (full_of 64))) machine (machine.slot + slot_count insn) (load_signed_step program insn machine dst v offset extension)) (sym c.is)
    (loads_follow program held state machine a insn dst done w
    (then_outcome (stack_value machine.stack (c.at +ℤ offset) (size_bytes (extension_size extension))) (λ v. changed_number v (extended extension))) (Scalar (full_of 64))
    (signed_loads (kind_scope_of program.maps held a.ids machine) extension (stack_value machine.stack (c.at +ℤ offset) (size_bytes (extension_size extension))) there.number.number (same ∙ there.number.is)))
signed_by_kind program held state machine a insn extension dst done w src offset (Packet id off range) v c loaded e other =
    let parts = ok_then (packet_access off range offset (size_bytes (extension_size extension))) (λ from. Ok (loaded_number (extension_size extension))) loaded e
    in let found = range_found (pos off +ℤ offset) (size_bytes (extension_size extension)) range _ parts.0 parts.1.0
    in let n = packet_number program.maps held state machine a (extension_size extension) id off range parts.0 offset v c found.0 found.1
    in subst (λ v. FallsOn program held (with_kind state dst (Scalar (full_of 64))) machine (machine.slot + slot_count insn) (load_signed_step program insn machine dst v offset extension)) (sym c.is)
    (loads_follow program held state machine a insn dst done w
    (then_outcome (packet_value machine machine.generation (pos (a.ids.base id + off) +ℤ offset) (size_bytes (extension_size extension))) (λ v. changed_number v (extended extension))) (Scalar (full_of 64))
    (signed_loads (kind_scope_of program.maps held a.ids machine) extension (packet_value machine machine.generation (pos (a.ids.base id + off) +ℤ offset) (size_bytes (extension_size extension))) n.number n.is))
signed_by_kind program held state machine a insn extension dst done w src offset (Value map id off) v c loaded e other =
    let parts = ok_then (value_access program.maps map off offset (size_bytes (extension_size extension))) (λ from. Ok (loaded_number (extension_size extension))) loaded e
    in let there = value_found program.maps map off offset (size_bytes (extension_size extension)) parts.0 c.at c.least c.most parts.1.0
    in subst (λ v. FallsOn program held (with_kind state dst (Scalar (full_of 64))) machine (machine.slot + slot_count insn) (load_signed_step program insn machine dst v offset extension)) (sym c.is)
    (cell_follows program held state machine a insn dst done w map c.cell.shard c.cell.id (pos c.at +ℤ offset) there.from (extension_size extension) (extended extension) (full_of 64) there.found c.held
    (λ n h. signed_in_full extension n))
signed_by_kind program held state machine a insn extension dst done w src offset Unset v c loaded e other = cc
signed_by_kind program held state machine a insn extension dst done w src offset (Scalar i) v c loaded e other = cc
signed_by_kind program held state machine a insn extension dst done w src offset PacketEnd v c loaded e other = cc
signed_by_kind program held state machine a insn extension dst done w src offset (Map map) v c loaded e other = cc
signed_by_kind program held state machine a insn extension dst done w src offset (ValueOrNull map id) v c loaded e other = cc

pub record SignedMade (maps : List MapDef) (state : State) (extension : Extension) (known : Kind) (offset : ℤ) (src : Register) (kind : Kind) : Type 0 where
  pub loaded : Kind
  pub was : loaded_kind maps state (extension_size extension) known offset src ≡ Ok loaded
  pub number : kind ≡ Scalar (full_of 64)
  pub other : known ≡ Ctx → ⊥

made_from : (maps : List MapDef) (state : State) (extension : Extension) (known : Kind) (offset : ℤ) (src : Register) (kind : Kind) → (known ≡ Ctx → ⊥) →
    (loaded_kind maps state (extension_size extension) known offset src >>= (λ loaded. Ok (Scalar (full_of 64)))) ≡ Ok kind → SignedMade maps state extension known offset src kind
made_from maps state extension known offset src kind other e =
    let parts = ok_then (loaded_kind maps state (extension_size extension) known offset src) (λ loaded. Ok (Scalar (full_of 64))) kind e
    in record { loaded = parts.0; was = parts.1.0; number = ok_same (Ok (Scalar (full_of 64))) kind (Scalar (full_of 64)) parts.1.1 refl; other = other }

signed_made : (maps : List MapDef) (state : State) (extension : Extension) (known : Kind) (offset : ℤ) (src : Register) (kind : Kind) →
    signed_loaded maps state extension known offset src ≡ Ok kind → SignedMade maps state extension known offset src kind
signed_made maps state extension Ctx offset src kind e = cc
signed_made maps state extension (Stack place) offset src kind e = made_from maps state extension (Stack place) offset src kind (λ n. cc) e
signed_made maps state extension (Packet id off range) offset src kind e = made_from maps state extension (Packet id off range) offset src kind (λ n. cc) e
signed_made maps state extension (Value map id off) offset src kind e = made_from maps state extension (Value map id off) offset src kind (λ n. cc) e
signed_made maps state extension Unset offset src kind e = made_from maps state extension Unset offset src kind (λ n. cc) e
signed_made maps state extension (Scalar i) offset src kind e = made_from maps state extension (Scalar i) offset src kind (λ n. cc) e
signed_made maps state extension PacketEnd offset src kind e = made_from maps state extension PacketEnd offset src kind (λ n. cc) e
signed_made maps state extension (Map map) offset src kind e = made_from maps state extension (Map map) offset src kind (λ n. cc) e
signed_made maps state extension (ValueOrNull map id) offset src kind e = made_from maps state extension (ValueOrNull map id) offset src kind (λ n. cc) e

pub signed_load_sound : (program : Program) (held : Held) (state : State) (machine : MachineState) (extension : Extension) (dst src : Register) (offset : ℤ) (flow : Flow) →
    Abstracts program.maps held state machine → flow_of program.maps state machine.slot (Ldxs extension dst src offset) ≡ Ok flow →
    Follows program held flow machine (Ldxs extension dst src offset) (instruction_step program (Ldxs extension dst src offset) machine)
signed_load_sound program held state machine extension dst src offset flow a e =
    let made = falls_made (load_flow state dst src (signed_load_of program.maps state extension dst src offset)) flow e
    in let first = ok_then (writable dst) (λ _. reads state src >>= (λ _. signed_load_of program.maps state extension dst src offset)) made.0 made.1.0
    in let second = ok_then (reads state src) (λ _. signed_load_of program.maps state extension dst src offset) made.0 first.1.1
    in let third = ok_then (signed_loaded program.maps state extension (kind_of state src) offset src) (λ kind. Ok (with_kind state dst kind)) made.0 second.1.1
    in let same : with_kind state dst third.0 ≡ made.0 = ok_same (Ok made.0) (with_kind state dst third.0) made.0 (sym third.1.1) refl
    in let signed = signed_made program.maps state extension (kind_of state src) offset src third.0 third.1.0
    in let final : with_kind state dst (Scalar (full_of 64)) ≡ made.0 = ap (λ kind. with_kind state dst kind) (sym signed.number) ∙ same
    in subst (λ flow. Follows program held flow machine (Ldxs extension dst src offset) (instruction_step program (Ldxs extension dst src offset) machine)) (sym made.1.1)
    (subst (λ s. FallsOn program held s machine (machine.slot + slot_count (Ldxs extension dst src offset)) (instruction_step program (Ldxs extension dst src offset) machine)) final
    (signed_by_kind program held state machine a (Ldxs extension dst src offset) extension dst first.0 first.1.0 src offset
    (kind_of state src) (register_value machine src) (a.registers src) signed.loaded signed.was signed.other))
