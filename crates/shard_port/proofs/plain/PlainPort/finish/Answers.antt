use Rattle.std.specs.Coded.{Coded-set, coded_bool}
use Rattle.std.specs.List.{AllByRecursion-prop}
use Rattle.std.proofs.Math.Logic.{∥∥₁_map, ∥∥₁_elim}
use Rattle.shard_port.specs.Asking.{IsWorkerOf}
use Rattle.shard_port.specs.PortView.{IsPortReady}
use Rattle.shard_port.proofs.shared.ReadyLemmas.{shards_left, ready_workers, ready_with}
use Rattle.shard_port.proofs.plain.PlainPort.finish.Goals as goal

pub leave_all-requires-clause-worker : goal.leave_all-requires-clause-worker
leave_all-requires-clause-worker c =
    ∥∥₁_elim c.args.self.ready (AllByRecursion-prop (IsWorkerOf c.args.self.worker) (λ shard. Coded-set coded_bool _ _)
    c.args.self.shards.now)
    (λ (ready : IsPortReady c.args.self.image.now.maps c.args.self.options c.args.self.worker c.args.self.shards.now). ready_workers _ _ _
    c.args.self.shards.now ready)

pub invariant_of-self-2 : goal.invariant_of-self-2
invariant_of-self-2 c = record {
  ready = ∥∥₁_map c.args.self.ready
      (λ (ready : IsPortReady c.args.self.image.now.maps c.args.self.options c.args.self.worker c.args.self.shards.now). ready_with _ _ _
      c.args.self.shards.now _ (λ are. rw c.leave_all.ensures (shards_left _ _ _ c.args.self.shards.now ready)) ready);
}

pub returns-clause-shards : goal.returns-clause-shards
returns-clause-shards c = ∥∥₁_map c.args.self.ready
    (λ (ready : IsPortReady c.args.self.image.now.maps c.args.self.options c.args.self.worker c.args.self.shards.now). rw c.leave_all.ensures
    (shards_left _ _ _ c.args.self.shards.now ready))
