-- The joint state is sound for a run for which either state is.
use Rattle.std.proofs.Common.{◌≡◌, inl, inr, ℕ, zero, suc, ◌<◌, ◌≤◌, List, [], ◌∷◌, length, refl, sym, ◌∙◌, arith}
use Rattle.std.specs.Prelude.{slice_index_or}
use Rattle.isa.specs.InstructionCodes.{register_number}
use Rattle.semantics.specs.MachineState.{register_value}
use Rattle.abstract_state.specs.declared.kind.Kind.TheVariants.{Unset}
use Rattle.abstract_state.specs.declared.kind.StackWord.TheVariants.{Spilled}
use Rattle.abstract_state.specs.States.{kind_of, word_of}
use Rattle.abstract_state.specs.Join.{zip_with, join_kind, join_word}
use Rattle.abstract_state.specs.Soundness.{JoinIsSound}
use Rattle.abstract_state.specs.Abstraction.{places_of, kind_scope_of}
use Rattle.abstract_state.proofs.shared.Writing.{number_below}
use Rattle.abstract_state.proofs.JoinKinds.{join_left, join_right}
use Rattle.abstract_state.proofs.JoinWords.{word_left, word_right}

pub at_place : {A B C : Type 0} (f : A → B → C) (xs : List A) (ys : List B) (k : ℕ) (x : A) (y : B) (z : C) → k < length xs → k < length ys →
    slice_index_or (zip_with f xs ys) k z ≡ f (slice_index_or xs k x) (slice_index_or ys k y)
at_place f [] ys k x y z h l = absurd (omega arith)
at_place f (a ∷ xs) [] k x y z h l = absurd (omega arith)
at_place f (a ∷ xs) (b ∷ ys) zero x y z h l = refl
at_place f (a ∷ xs) (b ∷ ys) (suc k) x y z h l = at_place f xs ys k x y z (omega arith) (omega arith)

pub length-zip_with : {A B C : Type 0} (f : A → B → C) (xs : List A) (ys : List B) → length xs ≡ length ys → length (zip_with f xs ys) ≡ length xs
length-zip_with f [] ys e = refl
length-zip_with f (a ∷ xs) [] e = absurd (omega arith)
length-zip_with f (a ∷ xs) (b ∷ ys) e = let i : length (zip_with f xs ys) ≡ length xs = length-zip_with f xs ys (omega arith) in omega arith

pub join_sound : JoinIsSound
join_sound maps held a b machine m n p q (inl c) = record {
  ids = c.ids;
  registers = λ register. let l : register_number register < 11 = number_below register
      in rw (at_place (join_kind a.version) a.registers b.registers (register_number register) Unset Unset Unset (omega arith) (omega arith))
      (join_left (kind_scope_of maps held c.ids machine) a.version (kind_of a register) (kind_of b register) (register_value machine register) (c.registers register));
  stack = λ word h.
      rw (at_place (join_word a.version) a.stack b.stack word (Spilled Unset) (Spilled Unset) (Spilled Unset) (omega arith) (omega arith))
      (word_left (kind_scope_of maps held c.ids machine) a.version (word_of a word) (word_of b word) (places_of word machine.stack) (c.stack word h));
  start = λ h. let l : a.start_range ≤ length machine.frame.bytes = c.start (omega arith) in omega arith;
  bases = c.bases;
  is_machine = record {
    eleven = c.is_machine.eleven;
    eleven_kinds = length-zip_with (join_kind a.version) a.registers b.registers (m ∙ sym n) ∙ m;
    stack_size = c.is_machine.stack_size;
    word_count = length-zip_with (join_word a.version) a.stack b.stack (p ∙ sym q) ∙ p;
    worker = c.is_machine.worker;
    time = c.is_machine.time;
    frame = c.is_machine.frame;
  };
}
join_sound maps held a b machine m n p q (inr c) = record {
  ids = c.ids;
  registers = λ register. let l : register_number register < 11 = number_below register
      in rw (at_place (join_kind a.version) a.registers b.registers (register_number register) Unset Unset Unset (omega arith) (omega arith))
      (join_right (kind_scope_of maps held c.ids machine) a.version (kind_of a register) (kind_of b register) (register_value machine register) (c.registers register));
  stack = λ word h.
      rw (at_place (join_word a.version) a.stack b.stack word (Spilled Unset) (Spilled Unset) (Spilled Unset) (omega arith) (omega arith))
      (word_right (kind_scope_of maps held c.ids machine) a.version (word_of a word) (word_of b word) (places_of word machine.stack) (c.stack word h));
  start = λ h. let l : b.start_range ≤ length machine.frame.bytes = c.start (omega arith) in omega arith;
  bases = c.bases;
  is_machine = record {
    eleven = c.is_machine.eleven;
    eleven_kinds = length-zip_with (join_kind a.version) a.registers b.registers (m ∙ sym n) ∙ m;
    stack_size = c.is_machine.stack_size;
    word_count = length-zip_with (join_word a.version) a.stack b.stack (p ∙ sym q) ∙ p;
    worker = c.is_machine.worker;
    time = c.is_machine.time;
    frame = c.is_machine.frame;
  };
}
