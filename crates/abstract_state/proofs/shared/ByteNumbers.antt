-- Numbers and their bytes, and bytes that lie on the stack.
use Rattle.std.proofs.Common.{◌≡◌, ℕ, zero, suc, ◌+◌, ◌*◌, ◌/◌, ◌%◌, ◌^◌, ◌<◌, ◌≤◌, true, List, [], ◌∷◌, length, take, drop, refl, sym, ◌∙◌, ap, arith, lit<}
use Rattle.std.specs.Prelude.{Ok, slice_index_or}
use Rattle.std.specs.List.{AllByRecursion}
use Rattle.std.proofs.lemmas.List.{drop_more}
use Rattle.std.proofs.Math.Nat.{pow-suc}
use Rattle.semantics.specs.LittleEndian.{number_of_bytes, bytes_of_number, reaches}
use Rattle.semantics.specs.MachineState.{StackByte, Unwritten, Written, SpilledPart}
use Rattle.semantics.specs.RegisterValue.{Number}
use Rattle.semantics.specs.Step.{then_outcome}
use Rattle.semantics.specs.Memory.{written_bytes, spilled_or_number, as_written}
use Rattle.semantics.proofs.shared.LittleEndianLemmas.{below-more, number_of_bytes-cons}
use Rattle.abstract_state.specs.Abstraction.{IsByte}

pub reaches_within : {A : Type 0} → (count : ℕ) (items : List A) → count ≤ length items → reaches count items ≡ true
reaches_within zero items within = refl
reaches_within (suc count) [] within = absurd (omega arith)
reaches_within (suc count) (item ∷ items) within = reaches_within count items (omega arith)

-- ---- numbers

pub bytes_below : (bytes : List ℕ) → AllByRecursion (λ byte. byte < 256) bytes → number_of_bytes bytes < 256 ^ length bytes
bytes_below [] each = lit< tt
bytes_below (byte ∷ higher) each =
    rw (number_of_bytes-cons byte higher) (below-more (number_of_bytes higher) byte (length higher) (bytes_below higher each.1) each.0)

pub bytes_length : (count n : ℕ) → length (bytes_of_number count n) ≡ count
bytes_length zero n = refl
bytes_length (suc count) n = ap suc (bytes_length count (n / 256))

pub bytes_small : (count n : ℕ) → AllByRecursion (λ byte. byte < 256) (bytes_of_number count n)
bytes_small zero n = tt
bytes_small (suc count) n = (omega arith, bytes_small count (n / 256))

-- the number of a number's bytes
pub bytes_back : (count n : ℕ) → n < 256 ^ count → number_of_bytes (bytes_of_number count n) ≡ n
bytes_back zero n small = omega arith
bytes_back (suc count) n small =
    let p : 256 ^ suc count ≡ 256 ^ count * 256 = pow-suc 256 count
    in let below : n / 256 < 256 ^ count = omega arith
    in let rest : number_of_bytes (bytes_of_number count (n / 256)) ≡ n / 256 = bytes_back count (n / 256) below
    in number_of_bytes-cons (n % 256) (bytes_of_number count (n / 256)) ∙ omega arith

-- ---- places of the stack

-- places that all hold bytes
pub record Reads (places : List StackByte) (count : ℕ) : Type 0 where
  pub bytes : List ℕ
  pub are : written_bytes places ≡ Ok bytes
  pub count_is : length bytes ≡ count
  pub small : AllByRecursion (λ byte. byte < 256) bytes

front_read : (place : StackByte) (rest : List StackByte) (count : ℕ) → IsByte place → Reads rest count → Reads (place ∷ rest) (suc count)
front_read place rest count first more = record {
  bytes = first.byte ∷ more.bytes;
  are = rw (first.is, more.are) refl;
  count_is = ap suc more.count_is;
  small = (first.small, more.small);
}

pub range_read : (stack : List StackByte) (count from : ℕ) → from + count ≤ length stack →
    ((k : ℕ) → k < count → IsByte (slice_index_or stack (from + k) Unwritten)) → Reads (take count (drop from stack)) count
range_read stack zero from inside each = record { bytes = []; are = refl; count_is = refl; small = tt }
range_read stack (suc count) from inside each =
    let first : IsByte (slice_index_or stack from Unwritten) = (let e : from + 0 ≡ from = omega arith in rw (sym e) (each 0 (omega arith)))
    in let rest : Reads (take count (drop (from + 1) stack)) count =
    range_read stack count (from + 1) (omega arith) (λ k h. (let e : (from + 1) + k ≡ from + suc k = omega arith in rw e (each (suc k) (omega arith))))
    in rw (drop_more stack from Unwritten (omega arith)) (front_read (slice_index_or stack from Unwritten) (take count (drop (from + 1) stack)) count first rest)

-- bytes are read as their number
pub number_read : (places : List StackByte) (bytes : List ℕ) → written_bytes places ≡ Ok bytes →
    spilled_or_number places ≡ Ok (Number (number_of_bytes bytes))
number_read [] bytes e = ap (λ o. then_outcome o (λ bytes. Ok (Number (number_of_bytes bytes)))) e
number_read (Written byte ∷ rest) bytes e = ap (λ o. then_outcome o (λ bytes. Ok (Number (number_of_bytes bytes)))) e
number_read (Unwritten ∷ rest) bytes e = ap (λ o. then_outcome o (λ bytes. Ok (Number (number_of_bytes bytes)))) e
number_read (SpilledPart pointer part ∷ rest) bytes e = cc

pub written_back : (bytes : List ℕ) → written_bytes (as_written bytes) ≡ Ok bytes
written_back [] = refl
written_back (byte ∷ bytes) = rw (written_back bytes) refl

pub as_written_length : (bytes : List ℕ) → length (as_written bytes) ≡ length bytes
as_written_length [] = refl
as_written_length (byte ∷ bytes) = ap suc (as_written_length bytes)

-- each place of bytes that were written is a byte
pub written_place : (bytes : List ℕ) (k : ℕ) → AllByRecursion (λ byte. byte < 256) bytes → k < length bytes → IsByte (slice_index_or (as_written bytes) k Unwritten)
written_place [] k each inside = absurd (omega arith)
written_place (byte ∷ bytes) zero each inside = record { byte = byte; is = refl; small = each.0 }
written_place (byte ∷ bytes) (suc k) each inside = written_place bytes k each.1 (omega arith)
