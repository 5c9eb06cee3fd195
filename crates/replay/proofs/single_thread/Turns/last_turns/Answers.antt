use Rattle.std.proofs.Common.{◌≡◌, length, refl, ap, ◌∙◌, arith}
use Rattle.std.proofs.lemmas.List.{length-map}
use Rattle.control.specs.declared.command.Command.{Command}
use Rattle.replay.specs.TurnStates.{state_in, with_earlier}
use Rattle.replay.specs.Turns.{TheRound, commands_between}
use Rattle.replay.proofs.PieceLemmas.{turn_with, turns_with}
use Rattle.replay.proofs.TurnLemmas.{all_taken, setting_more}
use Rattle.replay.proofs.single_thread.Turns.last_turns.Goals as goal

pub commands-requires-clause-within : goal.commands-requires-clause-within
commands-requires-clause-within c =
    let count : length c.args.starts.now ≡ length c.args.script.now =
    ap (λ l. length l) c.requires.starts ∙ length-map c.args.script.now (λ (line : Command). line.frame) in
    omega (arith, count)

pub returns-clause-same : goal.returns-clause-same
returns-clause-same c = setting_more (state_in c.args.self.now) (state_in c.commands.new.self) (state_in c.round.new.self) c.in_ok-commands.ensures.same c.round.ensures.same

pub returns-clause-turns : goal.returns-clause-turns
returns-clause-turns c = λ program records sent ends workers first were.
    let script = c.args.script.now in
    let starts = c.args.starts.now in
    let before = state_in c.args.self.now in
    let one = state_in c.commands.new.self in
    let after = state_in c.round.new.self in
    all_taken program script records workers starts c.args.count c.args.next (length starts) first (with_earlier sent ends before)
    (with_earlier sent ends one) (with_earlier sent ends after) c.requires.next.0 refl were
    (turns_with program script workers records sent ends (commands_between c.args.next (length starts)) before one
    (c.in_ok-commands.ensures.turns program records workers))
    (turn_with program script workers records sent ends TheRound one after c.round.ensures.turn)

pub returns-clause-ends : goal.returns-clause-ends
returns-clause-ends c =
    let before = c.in_ok-commands.ensures.ends in
    record { sent = c.round.ensures.turn.sent ∙ before.sent; ends = c.round.ensures.turn.ends ∙ before.ends }
