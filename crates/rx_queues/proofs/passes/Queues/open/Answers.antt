use Rattle.std.proofs.Common.{◌≡◌, ◌+◌, [], length, replicate, rules, sym, ◌∙◌, ap}
use Rattle.rx_queues.proofs.OpeningLemmas.{put_passes_push, take_passes_push, nothing_put_push, empty_lists, all_take_at_their_places}
use Rattle.std.proofs.Common.{subst}
use Rattle.rx_queues.specs.Passes.{IsPutPassFor, IsTakePassFor, purpose_at}
use Rattle.rx_queues.proofs.passes.Queues.open.Goals as goal

pub queues-preserved : goal.queues-preserved
queues-preserved c =
    let i = c.queues.invariant in
    let queues_as_puts = i.0 ∙ sym i.1 in
    let queues_as_takes = i.0 ∙ sym i.2 in
    let purposes = purpose_at c.args.workers c.args.records c.args.commands in
    let put = subst (λ place. IsPutPassFor (purposes place) c.in_ok-line.line c.in_ok-line.put) (sym i.0) c.in_ok-line.ensures.put.0 in
    let take = subst (λ place. IsTakePassFor (purposes place) c.in_ok-line.line c.in_ok-line.take) (sym i.0) c.in_ok-line.ensures.take.0 in (
      search rules,
      search rules,
      search rules,
      rw (c.in_ok-push.ensures.items, c.in_ok-push-2.ensures.items) (put_passes_push purposes _ _ _ c.in_ok-line.put queues_as_puts i.3 put),
      rw c.in_ok-push-2.ensures.items (nothing_put_push _ c.in_ok-line.put i.4 c.in_ok-line.ensures.put.1),
      rw (c.in_ok-push.ensures.items, c.in_ok-push-3.ensures.items)
          (take_passes_push purposes _ _ _ (record { queue = c.queues.queue; pass = c.in_ok-line.take; questions = 0 }) queues_as_takes i.5 (sym i.2) take c.in_ok-line.ensures.take.1),
    )

pub returns-clause-put : goal.returns-clause-put
returns-clause-put c =
    let i = c.queues.invariant in
    let as_many : length c.queues.puts.items ≡ c.args.workers + 2 = search rules in
    ((i.1 ∙ sym i.0, i.3), empty_lists c.queues.puts.items i.4 ∙ ap (λ n. replicate n []) as_many)

pub returns-clause-take : goal.returns-clause-take
returns-clause-take c =
    let i = c.queues.invariant in
    (search rules, all_take_at_their_places (record { queues = c.queues.queues; workers = c.args.workers; records = c.args.records; commands = c.args.commands; bell = c.new-bell.result; sized = search rules }) c.queues.takes.items (i.2 ∙ sym i.0) i.5)
