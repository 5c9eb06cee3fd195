use Rattle.std.proofs.Common.{◌≡◌, ℕ, List, refl, sym, ◌∙◌, subst, arith}
use Rattle.replay.specs.Turns.{Turn, TheCommand, commands_between}
use Rattle.replay.specs.InTurn.{AreTurns}
use Rattle.replay.specs.TurnStates.{state_in}
use Rattle.replay.proofs.TurnLemmas.{between_none, between_more, turns_more, setting_stays, setting_more, still_serves}
use Rattle.replay.proofs.single_thread.Turns.commands.Goals as goal

pub commands-init : goal.commands-init
commands-init c = record {
  up = omega arith;
  within = c.requires.up;
  turns = λ program records workers.
      subst (λ (turns : List Turn). AreTurns program c.args.script.now records workers turns (state_in c.args.self.now) (state_in c.args.self.now)) (sym (between_none c.args.from)) refl;
  same = setting_stays (state_in c.args.self.now);
  ends = record { sent = refl; ends = refl };
  counted = refl;
}

pub command-requires-clause-serves : goal.command-requires-clause-serves
command-requires-clause-serves c = still_serves c.args.script.now (state_in c.args.self.now) (state_in c.commands.self) c.commands.invariant.same c.requires.serves

pub commands-preserved : goal.commands-preserved
commands-preserved c =
    let i = c.commands.invariant in
    let number = c.commands.number in
    let after = (state_in c.command.new.self) in
    record {
      up = (let up = i.up in omega (arith, up));
      within = (let below = c.commands-test.true in omega (arith, below));
      turns = λ program records workers.
          subst (λ (turns : List Turn). AreTurns program c.args.script.now records workers turns (state_in c.args.self.now) after) (sym (between_more c.args.from number i.up))
          (turns_more program c.args.script.now records workers (commands_between c.args.from number) (TheCommand number) (state_in c.args.self.now) (state_in c.commands.self) after
          (i.turns program records workers) c.in_ok-command.ensures.turn);
      same = setting_more (state_in c.args.self.now) (state_in c.commands.self) after i.same c.in_ok-command.ensures.same;
      ends = record { sent = c.in_ok-command.ensures.turn.sent ∙ i.ends.sent; ends = c.in_ok-command.ensures.turn.ends ∙ i.ends.ends };
      counted = c.in_ok-command.ensures.counted ∙ i.counted;
    }

pub returns-clause-turns : goal.returns-clause-turns
returns-clause-turns c = λ program records workers.
    let within = c.commands.invariant.within in
    let past = c.commands-test.false in
    let at : c.commands.number ≡ c.args.end = omega (arith, within, past) in
    subst (λ (n : ℕ). AreTurns program c.args.script.now records workers (commands_between c.args.from n) (state_in c.args.self.now) (state_in c.commands.self)) at
    (c.commands.invariant.turns program records workers)
