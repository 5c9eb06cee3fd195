-- A store to the stack: what each word is then known to hold.
use Rattle.std.proofs.Common.{◌≡◌, ℕ, ◌+◌, ◌-◌, ◌*◌, ◌/◌, ◌%◌, ◌<◌, ◌≤◌, true, false, List, length, drop, replicate, refl, sym, ◌∙◌, ap, arith, subst}
use Rattle.std.specs.Prelude.{slice_index_or}
use Rattle.std.specs.List.{AllByRecursion}
use Rattle.std.proofs.lemmas.Grind.{get_or-set_at}
use Rattle.std.proofs.lemmas.List.{get_or-set_other, length-set, length-replicate, length-take-le, length-drop, ext_get_or, get_or_past}
use Rattle.std.proofs.lemmas.Bool.{cases_eq, cases_lt}
use Rattle.std.proofs.Math.Logic.{⊎_elim}
use Rattle.ebpf_decode.specs.declared.map.MapDef.{MapDef}
use Rattle.semantics.specs.MachineState.{MachineState, StackByte, Unwritten, register_value}
use Rattle.semantics.specs.Memory.{stack_with, as_written}
use Rattle.abstract_state.specs.declared.kind.Kind.TheVariants.{Unset}
use Rattle.abstract_state.specs.declared.kind.StackWord.{StackWord}
use Rattle.abstract_state.specs.declared.kind.StackWord.TheVariants.{Spilled}
use Rattle.abstract_state.specs.declared.state.State.{State}
use Rattle.abstract_state.specs.States.{kind_of, word_of, with_word}
use Rattle.abstract_state.specs.Join.{bytes_of_word}
use Rattle.abstract_state.specs.Words.{with_set}
use Rattle.abstract_state.specs.Abstraction.{Held, KindScope, IsByte, AreSetBytesWritten, WordCovers, places_of, kind_scope_of, Abstracts}
use Rattle.abstract_state.proofs.shared.Writing.{Extends, covers_later, word_later}
use Rattle.abstract_state.proofs.shared.Checking.{next_setting}
use Rattle.abstract_state.proofs.shared.ByteNumbers.{as_written_length, written_place}
use Rattle.abstract_state.proofs.shared.StackReading.{word_byte, place_at}
use Rattle.abstract_state.proofs.shared.Splicing.{length-spliced, before-spliced, after-spliced, inside-spliced}

places_length : (stack : List StackByte) (word : ℕ) → 8 * word + 8 ≤ length stack → length (places_of word stack) ≡ 8
places_length stack word h =
    let rest : length (drop (8 * word) stack) ≡ length stack - 8 * word = length-drop (8 * word) stack
    in length-take-le 8 (drop (8 * word) stack) (omega arith)

-- a store inside one word leaves the others
other_places : (stack places : List StackByte) (from word : ℕ) → length stack ≡ 512 → word < 64 → from + length places ≤ 512 → from % 8 + length places ≤ 8 →
    (word ≡ from / 8 → ⊥) → places_of word (stack_with stack from places) ≡ places_of word stack
other_places stack places from word long low inside part other =
    let room : from + length places ≤ length stack = omega arith
    in let same_length : length (stack_with stack from places) ≡ length stack = length-spliced stack places from (length places) refl room
    in let first : length (places_of word (stack_with stack from places)) ≡ 8 = places_length (stack_with stack from places) word (omega arith)
    in let second : length (places_of word stack) ≡ 8 = places_length stack word (omega arith)
    in ext_get_or Unwritten (places_of word (stack_with stack from places)) (places_of word stack) (first ∙ sym second)
    (λ k h. (let small : k < 8 = omega arith in
    place_at (stack_with stack from places) word k small
    ∙ ⊎_elim
    (λ below. before-spliced stack places from (length places) Unwritten refl room (8 * word + k) (omega arith))
    (λ above. after-spliced stack places from (length places) Unwritten refl room (8 * word + k) (omega arith))
    (cases_lt word (from / 8))
    ∙ sym (place_at stack word k small)))

-- a word that is stored whole
pub stored_word : (stack places : List StackByte) (from : ℕ) → length stack ≡ 512 → from + 8 ≤ 512 → from % 8 ≡ 0 → length places ≡ 8 →
    places_of (from / 8) (stack_with stack from places) ≡ places
stored_word stack places from long inside start eight =
    let room : from + length places ≤ length stack = omega arith
    in let same_length : length (stack_with stack from places) ≡ length stack = length-spliced stack places from (length places) refl room
    in let first : length (places_of (from / 8) (stack_with stack from places)) ≡ 8 = places_length (stack_with stack from places) (from / 8) (omega arith)
    in let at : 8 * (from / 8) ≡ from = omega arith
    in ext_get_or Unwritten (places_of (from / 8) (stack_with stack from places)) places (first ∙ sym eight)
    (λ k h. place_at (stack_with stack from places) (from / 8) k (omega arith)
    ∙ ap (λ at. slice_index_or (stack_with stack from places) (at + k) Unwritten) at
    ∙ inside-spliced stack places from (length places) Unwritten refl room k (omega arith))

-- bytes of a word that are stored: the others stay as they are known
pub stored_part : (s : KindScope) (word : StackWord) (stack : List StackByte) (from count : ℕ) (bytes : List ℕ) → length stack ≡ 512 → from + count ≤ 512 → from % 8 + count ≤ 8 →
    length bytes ≡ count → AllByRecursion (λ byte. byte < 256) bytes → length (bytes_of_word word) ≡ 8 → WordCovers s word (places_of (from / 8) stack) →
    AreSetBytesWritten (with_set (bytes_of_word word) (from % 8) count) (places_of (from / 8) (stack_with stack from (as_written bytes)))
stored_part s word stack from count bytes long inside part size small eight c k t =
    let places_size : length (as_written bytes) ≡ count = as_written_length bytes ∙ size
    in let room : from + length (as_written bytes) ≤ length stack = omega arith
    in let whole : 8 * (from / 8) + from % 8 ≡ from = omega arith
    in let trues : length (replicate count true) ≡ count = length-replicate count true
    in let set_room : from % 8 + count ≤ length (bytes_of_word word) = omega arith
    in let old : k < 8 → slice_index_or (bytes_of_word word) k false ≡ true → IsByte (slice_index_or stack (8 * (from / 8) + k) Unwritten) =
    (λ h set. subst IsByte (place_at stack (from / 8) k h) (word_byte s word (places_of (from / 8) stack) k h c set))
    in let new : (h : k < 8) → IsByte (slice_index_or (stack_with stack from (as_written bytes)) (8 * (from / 8) + k) Unwritten) →
    IsByte (slice_index_or (places_of (from / 8) (stack_with stack from (as_written bytes))) k Unwritten) =
    (λ h byte. subst IsByte (sym (place_at (stack_with stack from (as_written bytes)) (from / 8) k h)) byte)
    in ⊎_elim
    (λ below.
    (let set : slice_index_or (bytes_of_word word) k false ≡ true =
    sym (before-spliced (bytes_of_word word) (replicate count true) (from % 8) count false trues set_room k below) ∙ t
    in new (omega arith) (subst IsByte (sym (before-spliced stack (as_written bytes) from (length (as_written bytes)) Unwritten refl room (8 * (from / 8) + k) (omega arith)))
    (old (omega arith) set))))
    (λ above. ⊎_elim
    (λ within.
    (let at : from + (k - from % 8) ≡ 8 * (from / 8) + k = omega arith
    in let byte : IsByte (slice_index_or (as_written bytes) (k - from % 8) Unwritten) = written_place bytes (k - from % 8) small (omega arith)
    in let there : slice_index_or (stack_with stack from (as_written bytes)) (8 * (from / 8) + k) Unwritten ≡ slice_index_or (as_written bytes) (k - from % 8) Unwritten =
    ap (λ at. slice_index_or (stack_with stack from (as_written bytes)) at Unwritten) (sym at)
    ∙ inside-spliced stack (as_written bytes) from (length (as_written bytes)) Unwritten refl room (k - from % 8) (omega arith)
    in new (omega arith) (subst IsByte (sym there) byte)))
    (λ past.
    (let set : slice_index_or (bytes_of_word word) k false ≡ true =
    sym (after-spliced (bytes_of_word word) (replicate count true) (from % 8) count false trues set_room k past) ∙ t
    in ⊎_elim
    (λ h. new h (subst IsByte (sym (after-spliced stack (as_written bytes) from (length (as_written bytes)) Unwritten refl room (8 * (from / 8) + k) (omega arith)))
    (old h set)))
    (λ far. absurd (let none : slice_index_or (bytes_of_word word) k false ≡ false = get_or_past (bytes_of_word word) k false (omega arith) in let both : true ≡ false = sym set ∙ none in cc))
    (cases_lt k 8)))
    (cases_lt k (from % 8 + count)))
    (cases_lt k (from % 8))

-- ---- the state

pub stack_stored_sound : (maps : List MapDef) (held : Held) (state : State) (machine : MachineState) (a : Abstracts maps held state machine)
    (from slots : ℕ) (places : List StackByte) (word : StackWord) → from + length places ≤ 512 → from % 8 + length places ≤ 8 → from / 8 < 64 →
    WordCovers (next_setting maps held a.ids machine slots) word (places_of (from / 8) (stack_with machine.stack from places)) →
    Abstracts maps held (with_word state (from / 8) word)
    (record machine { stack = stack_with machine.stack from places; slot = machine.slot + slots; steps = machine.steps + 1 })
stack_stored_sound maps held state machine a from slots places word inside part low now =
    let long : length machine.stack ≡ 512 = a.is_machine.stack_size
    in let extends : Extends (kind_scope_of maps held a.ids machine) (next_setting maps held a.ids machine slots) =
    record { maps = refl; held = λ map shard cell h. h; base = λ id h. refl; found = λ id h. refl; slot = omega arith; generation = refl; size = refl }
    in let long : length machine.stack ≡ 512 = a.is_machine.stack_size
    in let words : length state.stack ≡ 64 = a.is_machine.word_count
    in record {
      ids = a.ids;
      registers = λ register. covers_later (kind_scope_of maps held a.ids machine) (next_setting maps held a.ids machine slots) extends
          (kind_of state register) (register_value machine register) (a.registers register);
      stack = λ other h. ⊎_elim
          (λ same. rw (get_or-set_at state.stack (from / 8) other word (Spilled Unset) same (omega arith), same) now)
          (λ differs. rw (
            get_or-set_other state.stack (from / 8) other word (Spilled Unset) differs,
            other_places machine.stack places from other long h inside part differs,
          )
          (word_later (kind_scope_of maps held a.ids machine) (next_setting maps held a.ids machine slots) extends
          (word_of state other) (places_of other machine.stack) (a.stack other h)))
          (cases_eq other (from / 8));
      start = a.start;
      bases = a.bases;
      is_machine = record {
        eleven = a.is_machine.eleven;
        eleven_kinds = a.is_machine.eleven_kinds;
        stack_size = length-spliced machine.stack places from (length places) refl (omega arith) ∙ long;
        word_count = length-set state.stack (from / 8) word ∙ words;
        worker = a.is_machine.worker;
        time = a.is_machine.time;
        frame = a.is_machine.frame;
      };
    }
