use Rattle.std.proofs.Common.{◌<◌, ◌^◌, ℕ, List, length, sym, ap, ◌∙◌, subst}
use Rattle.semantics.specs.declared.call.Entry.{Entry}
use Rattle.shards.proofs.RoomLemmas.{few_entries}
use Rattle.shards.proofs.guarded_shard.entries.Goals as goal

pub returns-clause-few : goal.returns-clause-few
returns-clause-few c =
    subst (λ (n : ℕ). n < 2 ^ 32) (sym (c.len.ensures ∙ ap (λ (l : List Entry). length l) c.journal.ensures.entries))
    (few_entries c.leave_has_room.ensures c.args.shard.now.plan c.plan-plan.ensures.limits c.args.shard.now.journal c.journal.ensures.legal)
