use Rattle.guarantees.proofs.Merge.{one_order_is_one_list}
use Rattle.guarantees.proofs.one_order_is_one_list.Goals as goal

pub returns : goal.returns
returns c = one_order_is_one_list
