-- The sweep that says whether a program only reads.
use Rattle.std.proofs.Common.{◌≡◌, ℕ, ◌+◌, ◌<◌, ◌≤◌, Bool, true, false, List, Option, Some, None, refl, sym, ap, ◌∙◌, ⊎_elim, arith}
use Rattle.std.specs.Prelude.{IsTrue, ◌&&◌, ◌↔◌}
use Rattle.std.proofs.lemmas.Bool.{cases_lt}
use Rattle.ebpf_decode.specs.declared.insn.Insn.{Insn}
use Rattle.ebpf_decode.specs.InstructionEncoding.{slot_count, total_slots}
use Rattle.semantics.specs.Program.{instruction_at}
use Rattle.image_shape.proofs.shared.SlotLemmas.{past_end, some_slots}
use Rattle.abstract_state.specs.declared.state.State.{State}
use Rattle.verifier.specs.Dataflow.{known_at}
use Rattle.verifier.specs.Readers.{only_reads, reads_known, IsReader}
use Rattle.verifier.proofs.SweepLemmas.{slots_on}

-- the instruction at a slot only reads
abbrev pub ReadsAt : List Insn → List (Option State) → ℕ → Type 0
ReadsAt code states slot = (insn : Insn) (state : State) → instruction_at code slot ≡ Some insn → known_at states slot ≡ Some state →
    IsTrue (only_reads state insn)

-- the mark says whether the instructions below a slot only read
pub record IsMark (code : List Insn) (states : List (Option State)) (end : ℕ) (reads : Bool) : Type 0 where
  pub sound : reads ≡ true → (slot : ℕ) → slot < end → ReadsAt code states slot
  pub exact : ((slot : ℕ) → slot < end → ReadsAt code states slot) → reads ≡ true

pub mark_at_start : (code : List Insn) (states : List (Option State)) → IsMark code states 0 true
mark_at_start code states = record { sound = λ e slot h. absurd (omega arith); exact = λ all. refl }

both_true : (a b : Bool) → (a && b) ≡ true → (a ≡ true) × (b ≡ true)
both_true true true e = (refl, refl)
both_true true false e = absurd cc
both_true false b e = absurd cc

-- the mark of the instruction at the slot, in what is known there
here_reads : (insn : Insn) (known : Option State) → reads_known insn known ≡ true → (state : State) → known ≡ Some state → IsTrue (only_reads state insn)
here_reads insn (Some state) e other is = let same : other ≡ state = cc in rw same e
here_reads insn None e other is = absurd cc

reads_here : (insn : Insn) (known : Option State) → ((state : State) → known ≡ Some state → IsTrue (only_reads state insn)) → reads_known insn known ≡ true
reads_here insn (Some state) all = all state refl
reads_here insn None all = refl

pub mark_next : (code : List Insn) (states : List (Option State)) (slot : ℕ) (insn : Insn) (before more : Bool) (known : Option State) → instruction_at code slot ≡ Some insn →
    ((k : ℕ) → slot < k → k < slot + slot_count insn → instruction_at code k ≡ None) → more ≡ reads_known insn known → known ≡ known_at states slot →
    IsMark code states slot before → IsMark code states (slot + slot_count insn) (before && more)
mark_next code states slot insn before more known found inside is at mark = record {
  sound = λ e. let two = both_true before more e
      in slots_on code slot insn (ReadsAt code states) inside (mark.sound two.0)
      (λ other state begins here. let it : other ≡ insn = (let first : instruction_at code slot ≡ Some other = begins in cc)
      in rw it (here_reads insn (known_at states slot) (sym (ap (reads_known insn) at) ∙ sym is ∙ two.1) state here))
      (λ k none other state begins here. absurd cc);
  exact = λ all. let some : 1 ≤ slot_count insn = some_slots insn
      in let below : before ≡ true = mark.exact (λ k h. all k (omega arith))
      in let here : reads_known insn (known_at states slot) ≡ true =
      reads_here insn (known_at states slot) (λ state knows. all slot (omega arith) insn state found knows)
      in let reads : more ≡ true = is ∙ ap (reads_known insn) at ∙ here in rw (below, reads) refl;
}

pub mark_whole : (code : List Insn) (states : List (Option State)) (slot : ℕ) (reads : Bool) → slot ≡ total_slots code → IsMark code states slot reads →
    IsTrue reads ↔ IsReader code states
mark_whole code states slot reads end mark = (
  (λ e. record {
    reads = λ k insn state found known. ⊎_elim
        (λ below. mark.sound e k below insn state found known)
        (λ above. let none : instruction_at code k ≡ None = past_end code k (omega arith) in absurd cc)
        (cases_lt k slot);
  }),
  (λ reader. mark.exact (λ k h insn state found known. reader.reads k insn state found known)),
)
