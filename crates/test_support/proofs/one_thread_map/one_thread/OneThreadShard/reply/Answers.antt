use Rattle.std.proofs.Common.{reverse}
use Rattle.test_support.proofs.SizeLemmas.{IsSized-meets}
use Rattle.test_support.proofs.one_thread_map.one_thread.OneThreadShard.reply.Goals as goal

pub reply_of-requires-clause-sized : goal.reply_of-requires-clause-sized
reply_of-requires-clause-sized c = IsSized-meets c.self.inside.plan (reverse c.self.inside.entries.items) c.args.who.now c.args.call.now c.self.invariant.plan_is.limits (rw (← c.self.view_is) at c.requires)
