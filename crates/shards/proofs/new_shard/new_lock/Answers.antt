use Rattle.std.proofs.Common.{◌≡◌, ap, sym, ◌∙◌, subst, refl, ◌++◌, [], ◌∷◌, List, arith}
use Rattle.atomic_table.specs.Table.{opening}
use Rattle.shard_core.specs.JournaledShard.{JournaledShard}
use Rattle.shards.specs.GuardedView.{GuardedView, keyed}
use Rattle.shards.specs.LockRule.{dealer_of, IsLockRuleKept}
use Rattle.shards.proofs.Moves.{begins}
use Rattle.shards.proofs.new_shard.new_lock.Goals as goal

pub new-requires-clause-unused : goal.new-requires-clause-unused
new-requires-clause-unused c = ap (λ (s : JournaledShard). s.journal) c.requires.unused

pub new-requires-2 : goal.new-requires-2
new-requires-2 c =
    let guarded = c.new.result in
    let items : c.push_reserved.new.self.items ≡ guarded ∷ [] = c.push_reserved.ensures.items ∙ ap (λ (l : List GuardedView). l ++ guarded ∷ []) c.in_ok-slots.ensures.items in
    let planned : guarded.key ≡ c.new-key.result =
    ap (λ (l : GuardedView). l.key) c.new.ensures
    ∙ (λ i. keyed (sym c.plan.ensures.plan i) ((c.requires.fresh.table_is ∙ sym c.visitor.ensures.0 ∙ sym c.into_badge.ensures.0) i)) ∙ sym c.new-key.ensures in
    subst (λ (l : List GuardedView). IsLockRuleKept c.new-key.result (opening _ l (dealer_of c.new-key.result 0))) (sym items)
    (begins c.new-key.result _ guarded (omega arith) refl planned (ap (λ (l : GuardedView). l.journal) c.new.ensures))
