use Rattle.std.proofs.Common.{List, subst}
use Rattle.ebpf_decode.specs.declared.map.MapDef.{MapDef}
use Rattle.wire.specs.declared.records.Sent.{Sent}
use Rattle.semantics.specs.declared.options.Options.{Options}
use Rattle.semantics.specs.Program.{Program}
use Rattle.semantics.specs.ShardPlan.{AreOptions, recorded}
use Rattle.machine.specs.Running.{program_of}
use Rattle.control.specs.declared.command.Command.{Command}
use Rattle.actors.specs.declared.outcome.Outcome.{Outcome}
use Rattle.actors.specs.Accounted.{IsAccounted}
use Rattle.replay.proofs.replaying.replay.Goals as goal

-- the options of a replay fit its program's maps, since those of its journals do
options_fit : (program : Program) (script : List Command) (options : Options) (records : List Sent) (outcome : Outcome) →
    AreOptions outcome.journals.maps outcome.journals.options → IsAccounted program script options records outcome → AreOptions program.maps options
options_fit program script options records outcome fit account =
    subst (λ (one : Options). AreOptions program.maps one) account.options_are
    (subst (λ (maps : List MapDef). AreOptions maps outcome.journals.options) account.maps fit)

pub returns-clause-one_list : goal.returns-clause-one_list
returns-clause-one_list g c = λ account.
    let options = recorded c.args.recording c.args.options in
    let records = c.args.capture.now.records.items in
    let outcome = c.in_ok-outcome.outcome in
    c.headline.ensures c.args.script.now options records outcome
    (options_fit (program_of c.args.verified.now c.args.options.shards) c.args.script.now options records outcome c.options.ensures.fit account)
    c.all_are_captured.ensures c.commands_fit.ensures account

pub returns-clause-headline : goal.returns-clause-headline
returns-clause-headline g c =
    let options = recorded c.args.recording c.args.options in
    let records = c.args.capture.now.records.items in
    let outcome = c.in_ok-outcome.outcome in
    let account = c.in_ok-outcome.ensures.accounted in
    (c.headline.ensures c.args.script.now options records outcome
    (options_fit (program_of c.args.verified.now c.args.options.shards) c.args.script.now options records outcome c.options.ensures.fit account)
    c.all_are_captured.ensures c.commands_fit.ensures account).headline
