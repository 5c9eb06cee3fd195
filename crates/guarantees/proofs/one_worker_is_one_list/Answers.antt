use Rattle.guarantees.proofs.OneWorker.{one_worker_is_one_list}
use Rattle.guarantees.proofs.one_worker_is_one_list.Goals as goal

pub returns : goal.returns
returns c = one_worker_is_one_list
