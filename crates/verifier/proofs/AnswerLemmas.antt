-- An accepted program can be rejected only for lack of memory: entry states are the only ones.
use Rattle.std.proofs.Common.{◌≡◌, ℕ, zero, suc, ◌+◌, ◌<◌, ◌≤◌, List, Option, Some, None, true, false, Ok, Err, sym, ap, subst, ◌∙◌, ⊎_elim, arith}
use Rattle.std.specs.Prelude.{IsOk}
use Rattle.std.proofs.lemmas.Bool.{cases_lt}
use Rattle.ebpf_decode.specs.declared.version.Version.{Version}
use Rattle.ebpf_decode.specs.declared.insn.Insn.{Insn}
use Rattle.ebpf_decode.specs.Jumps.{jump_distance}
use Rattle.ebpf_decode.specs.declared.map.MapDef.{MapDef}
use Rattle.ebpf_decode.specs.InstructionEncoding.{total_slots}
use Rattle.semantics.specs.Program.{instruction_at}
use Rattle.image_shape.proofs.shared.LawLemmas.{no_fault, one_fault}
use Rattle.image_shape.proofs.shared.SlotLemmas.{past_end}
use Rattle.abstract_state.specs.declared.flow.Flow.{Flow}
use Rattle.abstract_state.specs.declared.broken_rule.BrokenRule.{BrokenRule}
use Rattle.abstract_state.specs.declared.state.State.{State}
use Rattle.abstract_state.specs.States.{Checked}
use Rattle.abstract_state.specs.Flow.{flow_of}
use Rattle.verifier.specs.Dataflow.{known_at, jumps, AreEntryStates, Accepts, MayAskMemory, passed_jump, passed_all, IsFirstBroken, has_no_shape, breaks_rule, wants_memory}
use Rattle.verifier.specs.Rejects.{reject_of_shape, reject_of_rule}
use Rattle.verifier.specs.Answers.{HasOneAnswer, FirstRejectIsOne, RuleBeforeJumpsIsTold}
use Rattle.verifier.proofs.Distances.{stays}
use Rattle.verifier.proofs.shared.EntryStates.{agree}

-- at the slots where both are entry states, they are the same
same_below : (version : Version) (maps : List MapDef) (code : List Insn) (one other : List (Option State)) (end bound : ℕ) → AreEntryStates version maps code one end → AreEntryStates version maps code other end → bound ≤ end →
    (slot : ℕ) → slot < bound → known_at one slot ≡ known_at other slot
same_below version maps code one other end zero first second h slot k = absurd (omega arith)
same_below version maps code one other end (suc bound) first second h slot k =
    first slot (omega arith) ∙ agree version maps code one other slot slot (λ below g. same_below version maps code one other end bound first second (omega arith) below (omega arith))
    ∙ sym (second slot (omega arith))

no_break : (after : Checked Flow) (why : BrokenRule) → IsOk after → after ≡ Err why → ⊥
no_break (Ok flow) why ok e = absurd cc
no_break (Err other) why ok e = absurd cc

not_broken : (version : Version) (maps : List MapDef) (code : List Insn) (states : List (Option State)) (slot : ℕ) (why : BrokenRule) → Accepts version maps code states → IsFirstBroken version maps code slot why → ⊥
not_broken version maps code states slot why accepted broken =
    let within : slot < total_slots code = ⊎_elim (λ below. below) (λ past. let none : instruction_at code slot ≡ None = past_end code slot past in let some : instruction_at code slot ≡ Some broken.insn = broken.here in absurd cc) (cases_lt slot (total_slots code))
    in let same : known_at states slot ≡ known_at broken.states slot =
    same_below version maps code states broken.states (slot + 1) (slot + 1) (λ k h. accepted.entry k (omega arith)) broken.entry (omega arith) slot (omega arith)
    in no_break (flow_of maps broken.state slot broken.insn) why (accepted.passes slot broken.insn broken.state broken.here (same ∙ broken.known)) broken.breaks

pub one_answer : HasOneAnswer
one_answer version maps code states reject accepted (has_no_shape fault is e) = absurd (no_fault code fault accepted.shape is)
one_answer version maps code states reject accepted (breaks_rule slot why broken e) = absurd (not_broken version maps code states slot why accepted broken)
one_answer version maps code states reject accepted (wants_memory shape asked e) = e

-- ---- one first reject

-- of two broken rules that are each the first, neither comes before the other
not_before : (version : Version) (maps : List MapDef) (code : List Insn) (slot later : ℕ) (why other : BrokenRule) → IsFirstBroken version maps code slot why → IsFirstBroken version maps code later other → slot < later → ⊥
not_before version maps code slot later why other first second h =
    let same : known_at first.states slot ≡ known_at second.states slot =
    same_below version maps code first.states second.states (slot + 1) (slot + 1) first.entry (λ k g. second.entry k (omega arith)) (omega arith) slot (omega arith)
    in no_break (flow_of maps first.state slot first.insn) why
    (second.earlier slot h first.insn first.state first.here (sym same ∙ first.known)) first.breaks

same_rule : (version : Version) (maps : List MapDef) (code : List Insn) (slot : ℕ) (why other : BrokenRule) → IsFirstBroken version maps code slot why → IsFirstBroken version maps code slot other → why ≡ other
same_rule version maps code slot why other first second =
    let states : known_at first.states slot ≡ known_at second.states slot =
    same_below version maps code first.states second.states (slot + 1) (slot + 1) first.entry second.entry (omega arith) slot (omega arith)
    in let insn : first.insn ≡ second.insn = (let one : instruction_at code slot ≡ Some first.insn = first.here in let two : instruction_at code slot ≡ Some second.insn = second.here in cc)
    in let state : first.state ≡ second.state = (let one : known_at first.states slot ≡ Some first.state = first.known in let two : known_at second.states slot ≡ Some second.state = second.known in cc)
    in let here : flow_of maps first.state slot first.insn ≡ Err why = first.breaks
    in let there : flow_of maps first.state slot first.insn ≡ Err other = rw (state, insn) second.breaks
    in cc

same_slot : (version : Version) (maps : List MapDef) (code : List Insn) (slot later : ℕ) (why other : BrokenRule) → IsFirstBroken version maps code slot why → IsFirstBroken version maps code later other → slot ≡ later
same_slot version maps code slot later why other first second = ⊎_elim
    (λ less. absurd (not_before version maps code slot later why other first second less))
    (λ more. ⊎_elim
    (λ less. absurd (not_before version maps code later slot other why second first less))
    (λ least. omega arith)
    (cases_lt later slot))
    (cases_lt slot later)

one_rule : (version : Version) (maps : List MapDef) (code : List Insn) (slot later : ℕ) (why other : BrokenRule) → IsFirstBroken version maps code slot why → IsFirstBroken version maps code later other →
    reject_of_rule slot why ≡ reject_of_rule later other
one_rule version maps code slot later why other first second =
    let at : slot ≡ later = same_slot version maps code slot later why other first second
    in let here : IsFirstBroken version maps code slot other = subst (λ k. IsFirstBroken version maps code k other) (sym at) second
    in ap (λ rule. reject_of_rule slot rule) (same_rule version maps code slot why other first here) ∙ ap (λ k. reject_of_rule k other) at

pub first_reject_is_one : FirstRejectIsOne
first_reject_is_one version maps code one other (has_no_shape fault is e) (has_no_shape fault2 is2 e2) neither nor = e ∙ ap reject_of_shape (one_fault code fault fault2 is is2) ∙ sym e2
first_reject_is_one version maps code one other (has_no_shape fault is e) (breaks_rule slot why broken e2) neither nor = absurd (no_fault code fault broken.shape is)
first_reject_is_one version maps code one other (has_no_shape fault is e) (wants_memory shape asked e2) neither nor = absurd (nor e2)
first_reject_is_one version maps code one other (breaks_rule slot why broken e) (has_no_shape fault is e2) neither nor = absurd (no_fault code fault broken.shape is)
first_reject_is_one version maps code one other (breaks_rule slot why broken e) (breaks_rule slot2 why2 broken2 e2) neither nor = e ∙ one_rule version maps code slot slot2 why why2 broken broken2 ∙ sym e2
first_reject_is_one version maps code one other (breaks_rule slot why broken e) (wants_memory shape asked e2) neither nor = absurd (nor e2)
first_reject_is_one version maps code one other (wants_memory shape asked e) second neither nor = absurd (neither e)

-- ---- no memory is asked for before the first jump

not_asked : (version : Version) (maps : List MapDef) (code : List Insn) (slot : ℕ) (why : BrokenRule) → IsFirstBroken version maps code slot why →
    ((before : ℕ) (insn : Insn) → before < slot → instruction_at code before ≡ Some insn → jump_distance insn ≡ None) → MayAskMemory version maps code → ⊥
not_asked version maps code slot why broken none (passed_all states accepted) = not_broken version maps code states slot why accepted broken
not_asked version maps code slot why broken none (passed_jump at jump) = ⊎_elim
    (λ below. let quiet : jumps jump.flow ≡ false = stays maps jump.state at jump.insn jump.flow (none at jump.insn below jump.here) jump.flows
    in let loud : jumps jump.flow ≡ true = jump.is_jump in absurd cc)
    (λ past. let same : known_at jump.states slot ≡ known_at broken.states slot =
    same_below version maps code jump.states broken.states (slot + 1) (slot + 1) (λ k h. jump.entry k (omega arith)) broken.entry (omega arith) slot (omega arith)
    in no_break (flow_of maps broken.state slot broken.insn) why (jump.passes slot (omega arith) broken.insn broken.state broken.here (same ∙ broken.known)) broken.breaks)
    (cases_lt at slot)

pub rule_before_jumps_is_told : RuleBeforeJumpsIsTold
rule_before_jumps_is_told version maps code slot why reject broken none (has_no_shape fault is e) = absurd (no_fault code fault broken.shape is)
rule_before_jumps_is_told version maps code slot why reject broken none (breaks_rule other rule is e) = e ∙ one_rule version maps code other slot rule why is broken
rule_before_jumps_is_told version maps code slot why reject broken none (wants_memory shape asked e) = absurd (not_asked version maps code slot why broken none asked)
