use Rattle.std.proofs.Common.{◌≡◌, Bool, true, false, true≢false, not, refl, sym, ◌∙◌}
use Rattle.actors.proofs.shared.RunLemmas.{one_run}
use Rattle.actors.proofs.worker.work.Goals as goal

not_false : (b : Bool) → not b ≡ true → b ≡ false
not_false true e = absurd (true≢false (sym e))
not_false false e = refl

not_true : (b : Bool) → not b ≡ false → b ≡ true
not_true true e = refl
not_true false e = absurd (true≢false e)

pub jobs-preserved-then-not-is_refused : goal.jobs-preserved-then-not-is_refused
jobs-preserved-then-not-is_refused g c =
    let i = c.jobs.invariant in (
      c.next_record.ensures.take.0,
      c.next_record.ensures.take.1 ∙ i.1,
      c.ran-is_refused.ensures.state,
      λ ok. one_run _ _ _ _ c.in-Some-next_record.number _ _ _ _ (i.3 c.if-not-is_refused.true) c.in-Some-next_record.ensures.taken.1
          (c.ran-is_refused.ensures.ran (not_true _ ok)),
    )
