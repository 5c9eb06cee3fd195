use Rattle.std.proofs.Common.{◌∙◌, string_bytes}
use Rattle.traffic.proofs.TallyLemmas.{both_said}
use Rattle.traffic.proofs.record_tally.RecordTally.services.Goals as goal

pub returns : goal.returns
returns c = λ frames verdicts tally.
    both_said (string_bytes c.new-text.result) (string_bytes c.put_services.new.text) (string_bytes c.put_reasons.new.text) c.commands.result.now
    c.args.script.now frames verdicts c.deref.result.now c.deref-2.result.now c.new-text.ensures.bytes c.commands.ensures
    (c.deref.ensures.value ∙ tally.services) (c.deref-2.ensures.value ∙ tally.reasons) c.in_ok-put_services.ensures c.in_ok-put_reasons.ensures
