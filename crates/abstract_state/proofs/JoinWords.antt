-- The joint word of the stack represents what either word represents.
use Rattle.std.proofs.Common.{◌≡◌, ℕ, zero, suc, ◌<◌, ◌/◌, ◌%◌, Bool, true, false, ◌&&◌, List, [], ◌∷◌, length, Ok, Err, ⊎_elim, refl, sym, ◌∙◌, ap, arith}
use Rattle.std.specs.Prelude.{slice_index_or}
use Rattle.std.proofs.lemmas.Bool.{and_parts, false≢true, cases_lt}
use Rattle.std.proofs.lemmas.List.{get_or_past, length-replicate}
use Rattle.std.proofs.lemmas.Nat.{mod_below}
use Rattle.isa.specs.declared.operation.Size.TheVariants.{U64}
use Rattle.semantics.specs.LittleEndian.{bytes_of_number}
use Rattle.semantics.specs.RegisterValue.{RegisterValue}
use Rattle.semantics.specs.MachineState.{StackByte, Unwritten}
use Rattle.semantics.specs.Memory.{as_written}
use Rattle.semantics.specs.Semantics.{stored_places}
use Rattle.semantics.specs.Step.{Outcome}
use Rattle.abstract_scalar.specs.declared.interval.Interval.{Interval}
use Rattle.ebpf_decode.specs.declared.version.Version.{Version}
use Rattle.abstract_state.specs.declared.kind.Kind.{Kind}
use Rattle.abstract_state.specs.declared.kind.Kind.TheVariants.{Unset, Scalar, Ctx, Stack, Packet, PacketEnd, Map, ValueOrNull, Value}
use Rattle.abstract_state.specs.declared.kind.StackWord.{StackWord}
use Rattle.abstract_state.specs.declared.kind.StackWord.TheVariants.{Spilled, Bytes}
use Rattle.abstract_state.specs.States.{all_bytes}
use Rattle.abstract_state.specs.Join.{zip_with, spilled, bytes_of_kind, bytes_of_word, join_kind, join_word}
use Rattle.abstract_state.specs.Abstraction.{KindScope, IsNumberIn, IsByte, IsSpilled, AreSetBytesWritten, WordCovers}
use Rattle.abstract_state.proofs.shared.Opening.{nothing_set}
use Rattle.abstract_state.proofs.JoinKinds.{join_left, join_right}

-- ---- bytes

-- a byte that is set in both is set in each
set_in_both : (a b : List Bool) (k : ℕ) → slice_index_or (zip_with (λ x y. x && y) a b) k false ≡ true →
    (slice_index_or a k false ≡ true) × (slice_index_or b k false ≡ true)
set_in_both [] b zero h = absurd (false≢true h)
set_in_both [] b (suc k) h = absurd (false≢true h)
set_in_both (x ∷ a) [] zero h = absurd (false≢true h)
set_in_both (x ∷ a) [] (suc k) h = absurd (false≢true h)
set_in_both (x ∷ a) (y ∷ b) zero h = let parts = and_parts x y h in (parts.0, parts.1)
set_in_both (x ∷ a) (y ∷ b) (suc k) h = set_in_both a b k h

-- the bytes of a number
number_bytes : (count n k : ℕ) → k < count → IsByte (slice_index_or (as_written (bytes_of_number count n)) k Unwritten)
number_bytes zero n k h = absurd (omega arith)
number_bytes (suc count) n zero h = record { byte = n % 256; is = refl; small = mod_below n 256 (omega arith) }
number_bytes (suc count) n (suc k) h = number_bytes count (n / 256) k (omega arith)

-- a place past the end of the list is not set
set_within : (k : ℕ) → slice_index_or all_bytes k false ≡ true → k < 8
set_within k h = ⊎_elim
    (λ inside. inside)
    (λ past. absurd (false≢true (sym (get_or_past all_bytes k false (let l : length all_bytes ≡ 8 = length-replicate 8 true in omega arith)) ∙ h)))
    (cases_lt k 8)

stored_of_ok : {A : Type 0} (a b : A) → ◌≡◌ {A = Outcome A} (Ok a) (Ok b) → a ≡ b
stored_of_ok {A = A} a b e = ap held e
  where
    held : Outcome A → A
    held (Ok x) = x
    held (Err cause) = a

number_written : (i : Interval) (v : RegisterValue) (places : List StackByte) → IsNumberIn i v → stored_places v U64 ≡ Ok places →
    AreSetBytesWritten all_bytes places
number_written i v places c stored k h =
    let e : as_written (bytes_of_number 8 c.number) ≡ places =
    stored_of_ok (as_written (bytes_of_number 8 c.number)) places (sym (ap (λ x. stored_places x U64) c.is) ∙ stored)
    in rw (sym e) (number_bytes 8 c.number k (set_within k h))

kind_written : (s : KindScope) (kind : Kind) (places : List StackByte) → IsSpilled s kind places → AreSetBytesWritten (bytes_of_kind kind) places
kind_written s Unset places c = nothing_set places
kind_written s (Scalar i) places c = number_written i c.value places c.covered c.stored
kind_written s Ctx places c = nothing_set places
kind_written s (Stack place) places c = nothing_set places
kind_written s (Packet id off range) places c = nothing_set places
kind_written s PacketEnd places c = nothing_set places
kind_written s (Map map) places c = nothing_set places
kind_written s (ValueOrNull map id) places c = nothing_set places
kind_written s (Value map id off) places c = nothing_set places

-- the bytes of a word that are set were written
pub word_written : (s : KindScope) (word : StackWord) (places : List StackByte) → WordCovers s word places → AreSetBytesWritten (bytes_of_word word) places
word_written s (Spilled kind) places c = kind_written s kind places c
word_written s (Bytes set) places c = c

both_written_left : (a b : List Bool) (places : List StackByte) → AreSetBytesWritten a places → AreSetBytesWritten (zip_with (λ x y. x && y) a b) places
both_written_left a b places c k h = c k (set_in_both a b k h).0

both_written_right : (a b : List Bool) (places : List StackByte) → AreSetBytesWritten b places → AreSetBytesWritten (zip_with (λ x y. x && y) a b) places
both_written_right a b places c k h = c k (set_in_both a b k h).1

-- ---- words

-- a spilled register of a kind that may not be read says nothing
pub spilled_covers : (s : KindScope) (kind : Kind) (places : List StackByte) → IsSpilled s kind places → WordCovers s (spilled kind) places
spilled_covers s Unset places c = nothing_set places
spilled_covers s (Scalar i) places c = c
spilled_covers s Ctx places c = c
spilled_covers s (Stack place) places c = c
spilled_covers s (Packet id off range) places c = c
spilled_covers s PacketEnd places c = c
spilled_covers s (Map map) places c = c
spilled_covers s (ValueOrNull map id) places c = c
spilled_covers s (Value map id off) places c = c

pub word_left : (s : KindScope) (version : Version) (a b : StackWord) (places : List StackByte) → WordCovers s a places → WordCovers s (join_word version a b) places
word_left s version (Spilled kind) (Spilled other) places c =
    spilled_covers s (join_kind version kind other) places (record { value = c.value; covered = join_left s version kind other c.value c.covered; stored = c.stored })
word_left s version (Spilled kind) (Bytes set) places c = both_written_left (bytes_of_kind kind) set places (kind_written s kind places c)
word_left s version (Bytes set) (Spilled other) places c = both_written_left set (bytes_of_kind other) places c
word_left s version (Bytes set) (Bytes other) places c = both_written_left set other places c

pub word_right : (s : KindScope) (version : Version) (a b : StackWord) (places : List StackByte) → WordCovers s b places → WordCovers s (join_word version a b) places
word_right s version (Spilled kind) (Spilled other) places c =
    spilled_covers s (join_kind version kind other) places (record { value = c.value; covered = join_right s version kind other c.value c.covered; stored = c.stored })
word_right s version (Spilled kind) (Bytes set) places c = both_written_right (bytes_of_kind kind) set places c
word_right s version (Bytes set) (Spilled other) places c = both_written_right set (bytes_of_kind other) places (kind_written s other places c)
word_right s version (Bytes set) (Bytes other) places c = both_written_right set other places c
