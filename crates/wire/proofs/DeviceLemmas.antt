-- What several writes leave in a device, where its bytes are known.
use Rattle.std.proofs.Common.{◌≡◌, ℕ, ◌+◌, List, ◌++◌, take, drop, Option, None, Some, refl, sym, ap, ◌∙◌, append_assoc, length, arith, Result, Ok, Err, OnOk, OnErr}
use Rattle.std.specs.List.{between}
use Rattle.std.proofs.lemmas.Slice.{between_to_end}
use Rattle.std.proofs.Math.Seq.{take-add}
use Rattle.std.proofs.lemmas.List.{take-append-drop}
use Rattle.std.specs.Io.KnownBytes.{append_known}
use Rattle.wire.specs.Device.{AppendsFront}

-- one write after another
pub append_known-append : (known : Option (List ℕ)) (first second : List ℕ) → append_known (append_known known first) second ≡ append_known known (first ++ second)
append_known-append None first second = refl
append_known-append (Some bytes) first second = ap (λ (xs : List ℕ). Some xs) (append_assoc bytes first second)

-- a front of the bytes was written, and then more of them
pub written_more : (old now new : Option (List ℕ)) (bytes : List ℕ) (at count : ℕ) → now ≡ append_known old (take at bytes) → new ≡ append_known now (take count (between at (length bytes) bytes)) → new ≡ append_known old (take (at + count) bytes)
written_more old now new bytes at count so_far more =
    more
    ∙ ap (λ rest. append_known now (take count rest)) (between_to_end bytes at (length bytes) (omega arith))
    ∙ ap (λ known. append_known known (take count (drop at bytes))) so_far
    ∙ append_known-append old (take at bytes) (take count (drop at bytes))
    ∙ ap (append_known old) (sym (take-add at count bytes))

-- a front of the bytes was written
pub front_written : (old new : Option (List ℕ)) (bytes : List ℕ) (at : ℕ) → new ≡ append_known old (take at bytes) → AppendsFront old new bytes
front_written old new bytes at written = record {
  front = take at bytes;
  back = drop at bytes;
  parts = sym (take-append-drop at bytes);
  appended = written;
}

-- both parts were written
pub written_both : (old now new : Option (List ℕ)) (first second : List ℕ) → now ≡ append_known old first → new ≡ append_known now second → new ≡ append_known old (first ++ second)
written_both old now new first second at_first at_second =
    at_second ∙ ap (λ known. append_known known second) at_first ∙ append_known-append old first second

-- the first part was cut short
pub front_of_first : (old new : Option (List ℕ)) (first second : List ℕ) → AppendsFront old new first → AppendsFront old new (first ++ second)
front_of_first old new first second cut = record {
  front = cut.front;
  back = cut.back ++ second;
  parts = ap (λ xs. xs ++ second) cut.parts ∙ append_assoc cut.front cut.back second;
  appended = cut.appended;
}

-- the second part was cut short
pub front_of_second : (old now new : Option (List ℕ)) (first second : List ℕ) → now ≡ append_known old first → AppendsFront now new second → AppendsFront old new (first ++ second)
front_of_second old now new first second at_first cut = record {
  front = first ++ cut.front;
  back = cut.back;
  parts = ap (λ xs. first ++ xs) cut.parts ∙ sym (append_assoc first cut.front cut.back);
  appended = written_both old now new first cut.front at_first cut.appended;
}

-- a fact that holds anyway holds at that variant
pub on_err : {T E : Type 0} (P : Type 0) (r : Result T E) → P → OnErr r P
on_err P (Ok x) holds = tt
on_err P (Err e) holds = holds

pub on_ok_by : {T E : Type 0} (P Q : Type 0) (r : Result T E) → (P → Q) → OnOk r P → OnOk r Q
on_ok_by P Q (Ok x) by holds = by holds
on_ok_by P Q (Err e) by holds = tt

pub on_err_by : {T E : Type 0} (P Q : Type 0) (r : Result T E) → (P → Q) → OnErr r P → OnErr r Q
on_err_by P Q (Ok x) by holds = tt
on_err_by P Q (Err e) by holds = by holds
