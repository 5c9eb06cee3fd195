-- The rows represent what the operation returns, as the definition does.
use Rattle.std.proofs.Common.{rules, arith, ◌≡◌, ◌<◌, ◌≤◌, ◌^◌}
use Rattle.abstract_scalar.specs.Transfer.{transfer_of}
use Rattle.abstract_scalar.proofs.shared.Soundness.{transfer_covers}
use Rattle.abstract_scalar.proofs.transfers.transfer.Goals as goal

pub returns-else-is_constant-clause-sound : goal.returns-else-is_constant-clause-sound
returns-else-is_constant-clause-sound c =
    let e : c.row.result ≡ transfer_of c.args.width c.args.operation c.args.first c.args.second = search rules
    in let p : c.args.first.high < 2 ^ 64 = search rules
    in let q : c.args.second.high < 2 ^ 64 = search rules
    in λ a b r s.
    let l : a ≤ c.args.first.high = r.below in let m : b ≤ c.args.second.high = s.below
    in rw e (transfer_covers c.args.width c.args.operation c.args.first c.args.second a b (omega arith) (omega arith) r s)
