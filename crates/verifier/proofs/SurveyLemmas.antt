-- What a survey keeps is what is known, of each instruction that was looked at.
use Rattle.std.proofs.Common.{◌≡◌, ℕ, zero, suc, ◌<◌, Bool, true, false, List, [], ◌∷◌, ◌++◌, length, length-append, Option, None, Result, Ok, Err, refl, sym, ap, ◌∙◌, arith}
use Rattle.std.specs.Prelude.{slice_index_or, IfOk, IfErr}
use Rattle.ebpf_decode.specs.declared.version.Version.{Version}
use Rattle.ebpf_decode.specs.declared.insn.Insn.{Insn}
use Rattle.ebpf_decode.specs.declared.map.MapDef.{MapDef}
use Rattle.abstract_state.specs.declared.state.State.{State}
use Rattle.verifier.specs.declared.reject.Reject.{Reject}
use Rattle.verifier.specs.declared.reject.Reject.TheVariants.{Memory}
use Rattle.verifier.specs.declared.resolved.Memory.{Memory as Touched}
use Rattle.verifier.specs.Dataflow.{known_at, states_of}
use Rattle.verifier.specs.Surveys.{slot_of_index, known_along, EndsSo}
use Rattle.verifier.specs.Swept.{PassesSweep, KeepsRefused, FailsSweep, lacks_memory}

-- one more at the end of a list whose places are known
noted : (f : ℕ → Option State) (items : List (Option State)) (one : Option State) →
    ((index : ℕ) → index < length items → slice_index_or items index None ≡ f index) → one ≡ f (length items) →
    (index : ℕ) → index < length (items ++ one ∷ []) → slice_index_or (items ++ one ∷ []) index None ≡ f index
noted f [] one each last zero h = last
noted f [] one each last (suc index) h = absurd (omega arith)
noted f (x ∷ items) one each last zero h = each 0 (omega arith)
noted f (x ∷ items) one each last (suc index) h =
    noted (λ i. f (suc i)) items one (λ i lt. each (suc i) (omega arith)) last index (omega arith)

along_count : (version : Version) (maps : List MapDef) (code : List Insn) (count : ℕ) → length (known_along version maps code count) ≡ count
unfolding known_along
along_count version maps code zero = refl
along_count version maps code (suc index) =
    let before = along_count version maps code index
    in let more = length-append (known_along version maps code index) (known_at (states_of version maps code) (slot_of_index code index) ∷ [])
    in let next : length (known_along version maps code index ++ known_at (states_of version maps code) (slot_of_index code index) ∷ []) ≡ suc index = omega (arith, more, before)
    in next

each_along : (version : Version) (maps : List MapDef) (code : List Insn) (count index : ℕ) → index < length (known_along version maps code count) →
    slice_index_or (known_along version maps code count) index None ≡ known_at (states_of version maps code) (slot_of_index code index)
unfolding known_along
each_along version maps code zero index h = absurd (omega arith)
each_along version maps code (suc last) index h =
    noted (λ i. known_at (states_of version maps code) (slot_of_index code i)) (known_along version maps code last)
    (known_at (states_of version maps code) (slot_of_index code last)) (each_along version maps code last)
    (ap (λ i. known_at (states_of version maps code) (slot_of_index code i)) (sym (along_count version maps code last))) index h

-- what is kept, by the index of an instruction
pub record IsKept (version : Version) (maps : List MapDef) (code : List Insn) (items : List (Option State)) (verdict : Result Bool Reject) : Type 0 where
  pub known : (index : ℕ) → index < length items → slice_index_or items index None ≡ known_at (states_of version maps code) (slot_of_index code index)
  pub ends : EndsSo version maps code (length items) verdict

counted : (version : Version) (maps : List MapDef) (code : List Insn) (items : List (Option State)) (count : ℕ) → items ≡ known_along version maps code count →
    length items ≡ count
counted version maps code items count is = ap length is ∙ along_count version maps code count

known_of : (version : Version) (maps : List MapDef) (code : List Insn) (items : List (Option State)) (count : ℕ) → items ≡ known_along version maps code count →
    (index : ℕ) → index < length items → slice_index_or items index None ≡ known_at (states_of version maps code) (slot_of_index code index)
known_of version maps code items count is index h = rw is (each_along version maps code count index (let same = ap length is in omega arith))

no_lack : (reject : Reject) → reject ≡ Memory → lacks_memory (Err reject) ≡ false → ⊥
no_lack reject e other = let lack : lacks_memory (Err reject) ≡ true = rw e refl in absurd cc

-- a sweep of which all was kept
pub kept_all : (version : Version) (maps : List MapDef) (code : List Insn) (memories : List Touched) (items : List (Option State)) (verdict : Result Bool Reject)
    (is_refused : Bool) → is_refused ≡ false → lacks_memory verdict ≡ false →
    IfOk verdict (PassesSweep (λ known. is_refused ≡ false → items ≡ known) version maps code memories) →
    IfErr verdict (FailsSweep (λ known. is_refused ≡ false → items ≡ known) version maps code) →
    IsKept version maps code items verdict
kept_all version maps code memories items (Ok reads) is_refused whole other passed refused = record {
  known = known_of version maps code items (length code) (passed.kept whole);
  ends = (passed.accepted, (counted version maps code items (length code) (passed.kept whole), passed.reader));
}
kept_all version maps code memories items (Err reject) is_refused whole other passed refused =
    let keeps : KeepsRefused (λ known. is_refused ≡ false → items ≡ known) version maps code reject = refused.kept (λ e. no_lack reject e other)
    in record {
      known = known_of version maps code items keeps.count (keeps.kept whole);
      ends = rw (counted version maps code items keeps.count (keeps.kept whole)) keeps.refused;
    }
