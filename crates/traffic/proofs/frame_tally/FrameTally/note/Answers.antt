use Rattle.std.proofs.Common.{◌∙◌, ◌+◌, ap, sym}
use Rattle.std.proofs.lemmas.List.{with_items_is}
use Rattle.traffic.specs.Counting.{how_many_to, leads_to}
use Rattle.traffic.specs.SummaryText.{kinds}
use Rattle.traffic.proofs.TallyLemmas.{as_many_sums, count-append, kinds_noted}
use Rattle.traffic.proofs.frame_tally.FrameTally.note.Goals as goal

pub returns-clause-tally : goal.returns-clause-tally
returns-clause-tally c = λ past past_sent tally. record {
  kinds =
      with_items_is c.args.self.now.kinds c.add_counts.new.counts
      (as_many_sums c.args.self.now.kinds.len c.args.self.now.kinds.items c.deref_mut.result.now c.deref.result.now c.add_counts.new.counts
      c.args.self.now.kinds.ok.0 c.deref_mut.ensures.value c.in_ok-add_counts.ensures)
      ∙ kinds_noted kinds past c.args.captured.now c.deref_mut.result.now c.deref.result.now c.add_counts.new.counts
      (c.deref_mut.ensures.value ∙ tally.kinds) (c.deref.ensures.value ∙ c.in_ok-kinds.ensures) c.in_ok-add_counts.ensures;
  targets = λ address.
      c.in_ok-note_all.ensures address
      ∙ (ap (λ n. n + how_many_to address c.args.sent.now) (tally.targets address)
      ∙ sym (count-append (leads_to address) past_sent c.args.sent.now));
  moves = c.in_ok-places.ensures.moves past_sent tally.moves;
}
