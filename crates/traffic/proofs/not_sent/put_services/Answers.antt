use Rattle.std.proofs.Common.{◌∙◌, ◌+◌, ap, get_or}
use Rattle.traffic.proofs.TallyLemmas.{one_line}
use Rattle.traffic.proofs.not_sent.put_services.Goals as goal

pub commands-preserved : goal.commands-preserved
commands-preserved c = (
  ap (λ n. n + 1) c.commands.invariant.0,
  (λ long. one_line _ _ _ c.args.script.now c.args.counts.now c.commands.command-index _ c.count_at.result c.commands-test.true long
      (c.commands.invariant.1 long) (c.count_at.ensures ∙ ap (λ n. get_or c.args.counts.now n 0) c.commands.invariant.0)
      c.in_ok-put_command.ensures),
)
