use Rattle.std.proofs.Common.{true, false, refl, arith}
use Rattle.std.proofs.lemmas.Bool.Decides.{nat_tests}
use Rattle.replay.specs.TurnStates.{state_in}
use Rattle.replay.proofs.TurnLemmas.{round_in_time}
use Rattle.replay.proofs.single_thread.Turns.round_at.Goals as goal

pub returns-then-number-eq0-clause-turns : goal.returns-then-number-eq0-clause-turns
returns-then-number-eq0-clause-turns c = λ program script records workers.
    round_in_time program script records workers c.args.number (state_in c.args.self.now) (state_in c.round.new.self) true
    (let is = c.if-number-eq0.true in grind (arith, nat_tests, is)) (state_in c.round.new.self, c.round.ensures.turn, refl)

pub returns-else-number-eq0-clause-turns : goal.returns-else-number-eq0-clause-turns
returns-else-number-eq0-clause-turns c = λ program script records workers.
    round_in_time program script records workers c.args.number (state_in c.args.self.now) (state_in c.args.self.now) false
    (let is = c.if-number-eq0.false in grind (arith, nat_tests, is)) refl
