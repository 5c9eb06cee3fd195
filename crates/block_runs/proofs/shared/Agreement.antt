-- Plans that no run can distinguish, as long as replies have their calls' form, have the same outcomes.
use Rattle.std.proofs.Common.{◌≡◌, ◌∙◌, ℕ, Bool, true, false, List, [], ◌∷◌, refl, sym, subst}
use Rattle.semantics.specs.declared.call.Call.{Call}
use Rattle.semantics.specs.declared.call.Call.TheVariants.{Lookup, Load, Atomic, Update}
use Rattle.semantics.specs.declared.call.Reply.{Reply}
use Rattle.semantics.specs.declared.call.Reply.TheVariants.{Cell, Null, Word, Answer}
use Rattle.semantics.specs.MachineState.{MachineState}
use Rattle.semantics.specs.Memory.{cell_ref}
use Rattle.semantics.specs.Program.{Program}
use Rattle.semantics.specs.RunTrace.{IsReplyTo, trace_of, AreReplies}
use Rattle.block_runs.specs.Plan.{Plan, Asks, Ends, plan_outcome, asked, Ended, Waiting, Does, RunOutcome, outcome_of, either}
use Rattle.block_runs.proofs.shared.Blocks.{ForReplies}
use Rattle.block_runs.proofs.shared.BlockLaw.{every_reply}

-- the same calls on all replies that have their form, and the same ends
abbrev pub Agrees : Program → Plan → Plan → Type 0
Agrees program (Ends verdict frame) (Ends other left) = (verdict ≡ other) × (frame ≡ left)
Agrees program (Asks call onward) (Asks other on) = (call ≡ other) × ForReplies program call (λ reply. Agrees program (onward reply) (on reply))
Agrees program _ _ = ⊥

-- each reply has the form of the plan's call
abbrev pub Fitting : Program → Plan → List Reply → Type 0
Fitting program (Ends verdict frame) replies = Unit {0}
Fitting program (Asks call onward) [] = Unit {0}
Fitting program (Asks call onward) (reply ∷ replies) = IsReplyTo program call reply × Fitting program (onward reply) replies

for_all : (program : Program) (call : Call) (holds : Reply → Type 0) → ((reply : Reply) → holds reply) → ForReplies program call holds
for_all program (Lookup shard key) holds each = (λ id. each (Cell (cell_ref shard id)), each Null)
for_all program (Load cell offset size) holds each = λ word fits. each (Word word)
for_all program (Atomic cell offset size op value expected) holds each = λ word fits. each (Word word)
for_all program (Update shard key value flags) holds each = λ code fits. each (Answer code)
for_all program _ holds each = λ reply fits. each reply

pub agrees_with_itself : (program : Program) (plan : Plan) → Agrees program plan plan
agrees_with_itself program (Ends verdict frame) = (refl, refl)
agrees_with_itself program (Asks call onward) = (refl, for_all program call (λ reply. Agrees program (onward reply) (onward reply)) (λ reply. agrees_with_itself program (onward reply)))

pub agrees_same : (program : Program) (plan other : Plan) → plan ≡ other → Agrees program plan other
agrees_same program plan other same = subst (λ p. Agrees program plan p) same (agrees_with_itself program plan)

pub agree_forks : (program : Program) (test other_test : Bool) (one two other_one other_two : Plan) → test ≡ other_test →
    (other_test ≡ true → Agrees program one other_one) → (other_test ≡ false → Agrees program two other_two) →
    Agrees program (either test one two) (either other_test other_one other_two)
agree_forks program test true one two other_one other_two same on_one on_two = subst (λ t. Agrees program (either t one two) other_one) (sym same) (on_one refl)
agree_forks program test false one two other_one other_two same on_one on_two = subst (λ t. Agrees program (either t one two) other_two) (sym same) (on_two refl)

pub same_outcome : (program : Program) (plan other : Plan) → Agrees program plan other → (replies : List Reply) → Fitting program plan replies →
    plan_outcome plan replies ≡ plan_outcome other replies
same_outcome program (Ends verdict frame) (Ends other left) agree replies fit = (λ i. record { calls = []; ending = Ended (agree.0 i) (agree.1 i) })
same_outcome program (Ends verdict frame) (Asks _ _) agree replies fit = absurd agree
same_outcome program (Asks call onward) (Ends _ _) agree replies fit = absurd agree
same_outcome program (Asks call onward) (Asks other on) agree [] fit = (λ i. record { calls = agree.0 i ∷ []; ending = Waiting })
same_outcome program (Asks call onward) (Asks other on) agree (reply ∷ replies) fit =
    let later = same_outcome program (onward reply) (on reply) (every_reply program call (λ r. Agrees program (onward r) (on r)) agree.1 reply fit.0) replies fit.1 in
    (λ i. asked (agree.0 i) (later i))

-- the plan's own calls are answered
pub answered : (program : Program) (plan : Plan) (replies : List Reply) → AreReplies program (plan_outcome plan replies).calls replies → Fitting program plan replies
answered program (Ends verdict frame) replies are = tt
answered program (Asks call onward) [] are = tt
answered program (Asks call onward) (reply ∷ replies) are = (are.0, answered program (onward reply) replies are.1)

-- what does a plan does each plan that agrees with it
pub does_agreeing : (most : ℕ) (program : Program) (state : MachineState) (plan other : Plan) → Agrees program plan other →
    Does most program state plan → Does most program state other
does_agreeing most program state plan other agree does count enough replies fit =
    let done : outcome_of (trace_of count program state replies) ≡ plan_outcome plan replies = does count enough replies fit in
    let own : AreReplies program (plan_outcome plan replies).calls replies = subst (λ (outcome : RunOutcome). AreReplies program outcome.calls replies) done fit in
    done ∙ same_outcome program plan other agree replies (answered program plan replies own)
