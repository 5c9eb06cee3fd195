use Rattle.std.proofs.Common.{◌≡◌, ◌++◌, take, drop, add-one, ap, ◌∙◌, sym}
use Rattle.std.specs.Prelude.{Some, slice_get}
use Rattle.shard_port.specs.Asking.{all_left}
use Rattle.shard_port.proofs.LeavingLemmas.{left_one_more}
use Rattle.shard_port.proofs.plain.leave_all.Goals as goal

pub loop-number-preserved : goal.loop-number-preserved
loop-number-preserved c =
    let at : slice_get (all_left c.args.worker (take c.loop-number.number c.args.shards.now) ++ drop c.loop-number.number c.args.shards.now)
    c.loop-number.number ≡ Some c.shard.result.now =
    ap (λ shards. slice_get shards c.loop-number.number) (sym c.loop-number.invariant) ∙ c.shard.ensures.value in
    rw (add-one, c.loop-number.invariant, c.leave.ensures)
    (left_one_more c.args.worker c.args.shards.now c.loop-number.number c.shard.result.now at)
