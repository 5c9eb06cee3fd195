use Rattle.std.proofs.Common.{◌∙◌, ◌++◌, List, ℕ, ap, string_bytes, subst, sym}
use Rattle.traffic.specs.SummaryText.{IsSummaryOfSent, kinds}
use Rattle.traffic.specs.Tallies.{kind_lines}
use Rattle.traffic.proofs.MoveLemmas.{count_of}
use Rattle.traffic.proofs.TallyLemmas.{kinds_said}
use Rattle.traffic.proofs.frame_tally.FrameTally.text.Goals as goal

pub returns : goal.returns
returns c = λ captured sent tally.
    subst (λ (before : List ℕ). IsSummaryOfSent sent before (string_bytes c.put_sent.new.text))
    (c.in_ok-put_kinds.ensures
    ∙ (ap (λ (before : List ℕ). before ++ kind_lines c.deref.result.now kinds) c.new-text.ensures.bytes
    ∙ kinds_said captured c.deref.result.now (c.deref.ensures.value ∙ tally.kinds)))
    (c.in_ok-put_sent.ensures sent tally.targets (c.count.ensures ∙ (tally.moves.count ∙ sym (count_of sent))))
