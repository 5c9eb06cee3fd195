-- What holds at each end of a plan holds of each of its runs that is over.
use Rattle.std.proofs.Common.{◌≡◌, Bool, true, false, List, [], ◌∷◌, refl, ap, subst}
use Rattle.wire.specs.FrameView.{FrameView}
use Rattle.semantics.specs.declared.call.Call.{Call}
use Rattle.semantics.specs.declared.call.Reply.{Reply}
use Rattle.semantics.specs.declared.verdict.Verdict.{Verdict}
use Rattle.block_runs.specs.Plan.{Plan, Asks, Ends, RunOutcome, Ended, plan_outcome, either}
use Rattle.map_port.specs.Exchanges.{Exchange, calls_in, replies_in}

abbrev pub Said : Type 1
Said = List Exchange → Verdict → FrameView → Type 0

-- at each end of the plan this holds of the exchanges, verdict and frame
abbrev pub AtEnds : Said → Plan → Type 0
AtEnds said (Ends verdict frame) = said [] verdict frame
AtEnds said (Asks call onward) = (reply : Reply) → AtEnds (λ later verdict frame. said ((record { call = call; reply = reply }) ∷ later) verdict frame) (onward reply)

pub at_end : (said : Said) (plan : Plan) → AtEnds said plan → (exchanges : List Exchange) (verdict : Verdict) (left : FrameView) →
    plan_outcome plan (replies_in exchanges) ≡ record { calls = calls_in exchanges; ending = Ended verdict left } → said exchanges verdict left
at_end said (Ends planned frame) holds [] verdict left is =
    let ending : Ended planned frame ≡ Ended verdict left = ap (λ (o : RunOutcome). o.ending) is in
    let same_verdict : planned ≡ verdict = cc in
    let same_frame : frame ≡ left = cc in
    subst (λ v. said [] v left) same_verdict (subst (λ f. said [] planned f) same_frame holds)
at_end said (Ends planned frame) holds (exchange ∷ later) verdict left is =
    let none : [] ≡ exchange.call ∷ calls_in later = ap (λ (o : RunOutcome). o.calls) is in absurd cc
at_end said (Asks call onward) holds [] verdict left is =
    let none : call ∷ [] ≡ [] = ap (λ (o : RunOutcome). o.calls) is in absurd cc
at_end said (Asks call onward) holds (exchange ∷ later) verdict left is =
    let all : call ∷ (plan_outcome (onward exchange.reply) (replies_in later)).calls ≡ exchange.call ∷ calls_in later = ap (λ (o : RunOutcome). o.calls) is in
    let first : call ≡ exchange.call = cc in
    let others : (plan_outcome (onward exchange.reply) (replies_in later)).calls ≡ calls_in later = cc in
    subst (λ (c : Call). said ((record { call = c; reply = exchange.reply }) ∷ later) verdict left) first
    (at_end (λ rest v f. said ((record { call = call; reply = exchange.reply }) ∷ rest) v f) (onward exchange.reply) (holds exchange.reply) later verdict left
    (λ i. record { calls = others i; ending = (is i).ending }))

-- what follows at each end
pub weaker : (said other : Said) → ((exchanges : List Exchange) (verdict : Verdict) (frame : FrameView) → said exchanges verdict frame → other exchanges verdict frame) →
    (plan : Plan) → AtEnds said plan → AtEnds other plan
weaker said other follows (Ends verdict frame) holds = follows [] verdict frame holds
weaker said other follows (Asks call onward) holds = λ reply.
    weaker (λ later v f. said ((record { call = call; reply = reply }) ∷ later) v f) (λ later v f. other ((record { call = call; reply = reply }) ∷ later) v f)
    (λ later v f. follows ((record { call = call; reply = reply }) ∷ later) v f) (onward reply) (holds reply)

-- by a test, each side where the test says so
pub at_either : (said : Said) (test : Bool) (one other : Plan) → (test ≡ true → AtEnds said one) → (test ≡ false → AtEnds said other) →
    AtEnds said (either test one other)
at_either said true one other on_one on_other = on_one refl
at_either said false one other on_one on_other = on_other refl
