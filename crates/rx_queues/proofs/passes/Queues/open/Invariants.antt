use Rattle.std.proofs.Common.{◌≡◌, length}
use Rattle.rx_queues.specs.Passes.{ArePutPasses, purpose_at}
use Rattle.rx_queues.proofs.OpeningLemmas.{HavePutNothing, TakeFromTheirs}
use Rattle.rx_queues.proofs.passes.Queues.open.Given as goal

abbrev pub invariant-queues : goal.invariant-queues
invariant-queues l = (length l.queues.items ≡ l.queue) × (length l.puts.items ≡ l.queue) × (length l.takes.items ≡ l.queue)
    × ArePutPasses (purpose_at l.workers l.records l.commands) l.queues.items l.puts.items × HavePutNothing l.puts.items
    × TakeFromTheirs (purpose_at l.workers l.records l.commands) l.queues.items l.takes.items
