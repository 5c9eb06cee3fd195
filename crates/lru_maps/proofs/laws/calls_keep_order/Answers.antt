use Rattle.lru_maps.proofs.shared.ByUse.{by_use_on, by_use_touched, by_use_new, by_use_removed, by_use_evicted}
use Rattle.lru_maps.proofs.laws.calls_keep_order.Goals as goal

pub returns : goal.returns
returns c = record {
  others = λ entry older present entries before none. by_use_on entry older present entries before none;
  used = λ entry older present entries key id before of_key there. by_use_touched entry older present entries before key of_key id there;
  new = λ entry older present entries key id before of_key absent other_cells. by_use_new entry older present entries before key of_key id absent other_cells;
  removed = λ history present entries key gone before found. by_use_removed history present entries before key gone found;
  evicted = λ history present entries key id before last. by_use_evicted history present entries before key id last;
}
