use Rattle.std.proofs.Common.{rules}
use Rattle.traffic.specs.Applied.{is_refused}
use Rattle.traffic.proofs.applying.apply.Goals as goal

pub returns-in-Err : goal.returns-in-Err
returns-in-Err c = record {
  applied = is_refused c.in-Err._fault (search rules) c.in-Err.ensures.left;
  serves = c.in-Err.ensures.stays.1;
}
