use Rattle.std.proofs.Common.{◌∙◌, List, ap}
use Rattle.std.proofs.lemmas.List.{with_items_is}
use Rattle.control.specs.declared.command.Command.{Command}
use Rattle.traffic.specs.NotSent.{ends, reasons}
use Rattle.traffic.specs.Tallies.{service_counts}
use Rattle.traffic.proofs.TallyLemmas.{as_many_sums, ends_noted, reasons_noted, services_noted}
use Rattle.traffic.proofs.record_tally.RecordTally.note.Goals as goal

pub returns : goal.returns
returns c = λ past list long tally.
    let more = c.args.frames.now in
    let rest = c.args.verdicts.now in
    record {
      services =
          with_items_is c.args.self.now.services c.add_counts.new.counts
          (as_many_sums c.args.self.now.services.len c.args.self.now.services.items c.deref_mut.result.now c.deref.result.now
          c.add_counts.new.counts c.args.self.now.services.ok.0 c.deref_mut.ensures.value c.in_ok-add_counts.ensures)
          ∙ services_noted c.args.script.now past more c.deref_mut.result.now c.deref.result.now c.add_counts.new.counts
          (c.deref_mut.ensures.value ∙ tally.services)
          (c.deref.ensures.value ∙ (c.in_ok-services.ensures ∙ ap (λ (script : List Command). service_counts more script) c.commands.ensures))
          c.in_ok-add_counts.ensures;
      reasons =
          with_items_is c.args.self.now.reasons c.add_counts-2.new.counts
          (as_many_sums c.args.self.now.reasons.len c.args.self.now.reasons.items c.deref_mut-2.result.now c.deref-2.result.now
          c.add_counts-2.new.counts c.args.self.now.reasons.ok.0 c.deref_mut-2.ensures.value c.in_ok-add_counts-2.ensures)
          ∙ reasons_noted reasons past more list rest c.deref_mut-2.result.now c.deref-2.result.now c.add_counts-2.new.counts long
          (c.deref_mut-2.ensures.value ∙ tally.reasons) (c.deref-2.ensures.value ∙ c.in_ok-reasons.ensures) c.in_ok-add_counts-2.ensures;
      ends =
          with_items_is c.args.self.now.ends c.add_counts-3.new.counts
          (as_many_sums c.args.self.now.ends.len c.args.self.now.ends.items c.deref_mut-3.result.now c.deref-3.result.now
          c.add_counts-3.new.counts c.args.self.now.ends.ok.0 c.deref_mut-3.ensures.value c.in_ok-add_counts-3.ensures)
          ∙ ends_noted ends list rest c.deref_mut-3.result.now c.deref-3.result.now c.add_counts-3.new.counts
          (c.deref_mut-3.ensures.value ∙ tally.ends) (c.deref-3.ensures.value ∙ c.in_ok-ends.ensures) c.in_ok-add_counts-3.ensures;
    }
