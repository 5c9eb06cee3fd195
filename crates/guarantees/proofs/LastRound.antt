-- The events of a replay end with those of the reclaimer's last round.
use Rattle.std.proofs.Common.{◌≡◌, ℕ, List, [], ◌∷◌, ◌++◌, reverse, refl, sym, ap, ◌∙◌, subst}
use Rattle.std.proofs.lemmas.List.{reverse-append, reverse-reverse}
use Rattle.semantics.specs.declared.call.Entry.{Entry}
use Rattle.semantics.specs.declared.plan.ShardPlan.{ShardPlan}
use Rattle.semantics.specs.System.{Setting, SystemEvent, SystemState, after_event, opening_system, after_all}
use Rattle.shards.specs.declared.deeds.Deed.{Deed}
use Rattle.shards.specs.Deeds.{entries_made}
use Rattle.actors.specs.Rounds.{EndsWithRound}
use Rattle.guarantees.specs.LastRound.{EndWithRound}
use Rattle.guarantees.specs.Merging.{AreWrittenInOrder}
use Rattle.actors.proofs.shared.DeedLemmas.{entries_append}

-- events that write these entries, and then those
record AreSplit (setting : Setting) (before : SystemState) (events : List SystemEvent) (first second : List Entry) : Type 0 where
  earlier : List SystemEvent
  later : List SystemEvent
  events_are : events ≡ earlier ++ later
  written : AreWrittenInOrder setting before earlier first
  last : AreWrittenInOrder setting (after_all setting before earlier) later second

same_head : (entry one : Entry) (xs ys : List Entry) → entry ∷ xs ≡ one ∷ ys → (entry ≡ one) × (xs ≡ ys)
same_head entry one xs ys is = (cc, cc)

split : (setting : Setting) (before : SystemState) (events : List SystemEvent) (first second : List Entry) → AreWrittenInOrder setting before events (first ++ second) →
    AreSplit setting before events first second
split setting before events [] second written = record { earlier = []; later = events; events_are = refl; written = refl; last = written }
split setting before [] (entry ∷ first) second written = absurd cc
split setting before (event ∷ events) (entry ∷ first) second ([], more, is, next, rest) =
    let parts = split setting (after_event setting before event) events (entry ∷ first) second (subst (AreWrittenInOrder setting (after_event setting before event) events) (sym is) rest) in
    record {
      earlier = event ∷ parts.earlier;
      later = parts.later;
      events_are = ap (λ (list : List SystemEvent). event ∷ list) parts.events_are;
      written = ([], entry ∷ first, refl, next, parts.written);
      last = parts.last;
    }
split setting before (event ∷ events) (entry ∷ first) second (one ∷ [], more, is, next, rest) =
    let heads = same_head entry one (first ++ second) more is in
    let parts = split setting (after_event setting before event) events first second (subst (AreWrittenInOrder setting (after_event setting before event) events) (sym heads.1) rest) in
    record {
      earlier = event ∷ parts.earlier;
      later = parts.later;
      events_are = ap (λ (list : List SystemEvent). event ∷ list) parts.events_are;
      written = (one ∷ [], first, ap (λ (e : Entry). e ∷ first) heads.0, next, parts.written);
      last = parts.last;
    }
split setting before (event ∷ events) (entry ∷ first) second (one ∷ other ∷ others, more, is, next, rest) = absurd next

pub ends_with_round : (setting : Setting) (plan : ℕ → ShardPlan) (count : ℕ) (order : List Deed) (events : List SystemEvent) → EndsWithRound plan count order →
    AreWrittenInOrder setting (opening_system setting) events (entries_made (reverse order)) → EndWithRound setting plan count order events
ends_with_round setting plan count order events ends written =
    let made : List Deed = ends.last.made in
    let turned : reverse order ≡ reverse ends.others ++ made =
    ap (λ (l : List Deed). reverse l) ends.last.deeds_are ∙ reverse-append (reverse made) ends.others
    ∙ ap (λ (l : List Deed). reverse ends.others ++ l) (reverse-reverse made) in
    let entries : entries_made (reverse order) ≡ entries_made (reverse ends.others) ++ entries_made made =
    ap (λ (l : List Deed). entries_made l) turned ∙ entries_append (reverse ends.others) made in
    let parts = split setting (opening_system setting) events (entries_made (reverse ends.others)) (entries_made made)
    (subst (AreWrittenInOrder setting (opening_system setting) events) entries written) in
    record {
      ends = ends;
      earlier = parts.earlier;
      later = parts.later;
      events_are = parts.events_are;
      written = parts.written;
      last = parts.last;
    }
