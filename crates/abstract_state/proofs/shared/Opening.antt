-- The opening state is sound for the state in which a run begins.
use Rattle.std.proofs.Common.{◌≡◌, ℕ, false, List, length, zero-le, ⊎_elim, refl, sym, ◌∙◌, arith}
use Rattle.std.specs.Prelude.{pos, None}
use Rattle.std.proofs.lemmas.List.{get_or-replicate, get_or_past, length-replicate}
use Rattle.std.proofs.lemmas.Bool.{false≢true, cases_lt}
use Rattle.isa.specs.declared.operation.Register.{Register}
use Rattle.isa.specs.declared.operation.Register.TheVariants.{R0, R1, R2, R3, R4, R5, R6, R7, R8, R9, R10}
use Rattle.ebpf_decode.specs.declared.map.MapDef.{MapDef}
use Rattle.semantics.specs.MachineState.{StackByte, Unwritten, initial_state, register_value}
use Rattle.semantics.specs.System.{input_frame}
use Rattle.ebpf_decode.specs.declared.version.Version.{Version}
use Rattle.abstract_state.specs.declared.kind.Kind.TheVariants.{Unset}
use Rattle.abstract_state.specs.declared.kind.StackWord.TheVariants.{Spilled, Bytes}
use Rattle.abstract_state.specs.States.{no_bytes, opening_state, kind_of}
use Rattle.abstract_state.specs.Soundness.{OpeningIsSound}
use Rattle.abstract_state.specs.Abstraction.{Ids, Held, KindCovers, AreSetBytesWritten, places_of, kind_scope_of}

abbrev no_ids : Ids
no_ids = record { base = λ id. 0; found = λ id. None }

-- no byte is set
pub nothing_set : (places : List StackByte) → AreSetBytesWritten no_bytes places
nothing_set places k h = ⊎_elim
    (λ inside. absurd (false≢true (sym (get_or-replicate 8 k false false inside) ∙ h)))
    (λ past. absurd (false≢true (sym (get_or_past no_bytes k false (let l : length no_bytes ≡ 8 = length-replicate 8 false in omega arith)) ∙ h)))
    (cases_lt k 8)

opening_registers : (version : Version) (maps : List MapDef) (held : Held) (bytes : List ℕ) (worker now : ℕ) (register : Register) →
    KindCovers (kind_scope_of maps held no_ids (initial_state (input_frame bytes) worker now)) (kind_of (opening_state version) register)
    (register_value (initial_state (input_frame bytes) worker now) register)
opening_registers version maps held bytes worker now R0 = tt
opening_registers version maps held bytes worker now R1 = refl
opening_registers version maps held bytes worker now R2 = tt
opening_registers version maps held bytes worker now R3 = tt
opening_registers version maps held bytes worker now R4 = tt
opening_registers version maps held bytes worker now R5 = tt
opening_registers version maps held bytes worker now R6 = tt
opening_registers version maps held bytes worker now R7 = tt
opening_registers version maps held bytes worker now R8 = tt
opening_registers version maps held bytes worker now R9 = tt
opening_registers version maps held bytes worker now R10 = record { at = pos 0; is = refl; counted = refl }

pub opening_sound : OpeningIsSound
opening_sound version maps held bytes worker now frame small early = record {
  ids = no_ids;
  registers = opening_registers version maps held bytes worker now;
  stack = λ word h. rw (get_or-replicate 64 word (Bytes no_bytes) (Spilled Unset) h)
      (nothing_set (places_of word (initial_state (input_frame bytes) worker now).stack));
  start = λ h. absurd (omega arith);
  bases = λ id. zero-le;
  is_machine = record {
    eleven = refl;
    eleven_kinds = refl;
    stack_size = length-replicate 512 Unwritten;
    word_count = length-replicate 64 (Bytes no_bytes);
    worker = small;
    time = early;
    frame = frame.bytes;
  };
}
