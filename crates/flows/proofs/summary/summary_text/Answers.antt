use Rattle.flows.proofs.RankLemmas.{with_lines}
use Rattle.flows.proofs.summary.summary_text.Goals as goal

pub returns : goal.returns
returns c = with_lines _ _ _ _ _ _ c.in_ok-put_ranked_lines.ensures c.in_ok-text.ensures c.deref.ensures.value c.in_ok-best.ensures
