-- One round more, shard by shard.
use Rattle.std.proofs.Common.{◌≡◌, ◌≢◌, ◌<◌, ◌≤◌, ℕ, zero, suc, ◌+◌, Bool, true, false, List, [], ◌∷◌, ◌++◌, length, refl, sym, ap, ◌∙◌, subst, arith, inl, inr}
use Rattle.std.specs.Prelude.{◌==◌, reverse, if◌then◌else◌}
use Rattle.std.specs.List.{AllByRecursion}
use Rattle.std.proofs.lemmas.Bool.Decides.{nat_tests}
use Rattle.std.proofs.lemmas.List.{append_assoc, append-nil, reverse-append, reverse-reverse}
use Rattle.ebpf_decode.specs.declared.map.MapKind.{MapKind}
use Rattle.ebpf_decode.specs.declared.map.MapKind.TheVariants.{Array, Hash, LruHash}
use Rattle.semantics.specs.declared.call.Caller.TheVariants.{Reclaimer}
use Rattle.semantics.specs.declared.call.Call.TheVariants.{Reclaim}
use Rattle.semantics.specs.declared.call.Reply.TheVariants.{Freed}
use Rattle.semantics.specs.declared.call.Entry.{Entry}
use Rattle.semantics.specs.declared.plan.ShardPlan.{ShardPlan}
use Rattle.semantics.specs.History.{IsJournalFull}
use Rattle.shards.specs.CallerView.{CallerView, BeginsWith}
use Rattle.shards.specs.declared.deeds.Deed.{Deed}
use Rattle.shards.specs.Passes.{PassView, view_at, own_at, seen_at, IsElsewhereSame}
use Rattle.shards.specs.Asked.{PassIsServed, PassIsRefused}
use Rattle.actors.specs.Actors.{IsUnused}
use Rattle.actors.specs.Rounds.{IsReclaim, IsReclaimed, IsReclaimedBy, IsReclaimedAt, AreReclaimed, IsReclaimAsked}
use Rattle.semantics.specs.Replay.{is_keyed}
use Rattle.actors.specs.Rounds.{keyed_below, IsReclaimDeed, AreReclaimDeeds, IsRoundDone, AreRoundsDone, HasAsked, HasTurned}
use Rattle.actors.proofs.shared.Moving.{did_more}
use Rattle.actors.proofs.shared.FullStays.{full_stays}

-- a round that has come to the shard of this number: those below have had one more than the others
pub record IsInRound (plan : ℕ → ShardPlan) (count rounds number : ℕ) (pass : PassView) : Type 0 where
  pub below : (other : ℕ) → other < number → other < count → IsReclaimedAt plan (rounds + 1) pass other
  pub from : (other : ℕ) → number ≤ other → other < count → IsReclaimedAt plan rounds pass other

later_full : (plan : ShardPlan) (number : ℕ) (after before : List Entry) → BeginsWith after before → IsJournalFull plan before (Reclaim number) →
    IsJournalFull plan after (Reclaim number)
later_full plan number after before (later, is) full =
    subst (λ seen. IsJournalFull plan seen (Reclaim number)) (sym is) (full_stays plan later before (Reclaim number) full)

after_one : (after earlier before : List Entry) (entry : Entry) → after ≡ entry ∷ earlier → BeginsWith earlier before → BeginsWith after before
after_one after earlier before entry is (later, was) = (entry ∷ later, is ∙ ap (λ rest. entry ∷ rest) was)

served : (plan : ShardPlan) (number rounds : ℕ) (before after : PassView) (freed : ℕ) → before.who ≡ Reclaimer →
    PassIsServed plan number before after (Reclaim number) (Freed freed) → IsReclaimed plan number rounds (own_at before number) (seen_at before number) →
    IsReclaimed plan number (rounds + 1) (own_at after number) (seen_at after number)
served plan number rounds before after freed who answered was =
    let entry : Entry = record { who = before.who; call = Reclaim number; reply = Freed freed } in
    let is : own_at after number ≡ entry ∷ own_at before number = answered.own in
    let long : length (own_at after number) ≡ suc (length (own_at before number)) = ap length is in
    let most : length (own_at before number) ≤ rounds = was.one_a_round in
    let grown : BeginsWith (seen_at after number) (seen_at before number) = after_one _ _ _ entry answered.seen answered.begins in
    record {
      each = subst (λ own. AllByRecursion (IsReclaim number) own) (sym is)
          ((freed, ap (λ one. record { who = one; call = Reclaim number; reply = Freed freed }) who), was.each);
      one_a_round = omega (arith, long, most);
      fewer_if_full = λ fewer. later_full plan number (seen_at after number) (seen_at before number) grown
          (was.fewer_if_full (omega (arith, long, fewer)));
    }

passed_over : (plan : ShardPlan) (number rounds : ℕ) (before after : PassView) → PassIsRefused plan number before after (Reclaim number) →
    IsReclaimed plan number rounds (own_at before number) (seen_at before number) →
    IsReclaimed plan number (rounds + 1) (own_at after number) (seen_at after number)
passed_over plan number rounds before after refused was =
    let long : length (own_at after number) ≡ length (own_at before number) = ap length refused.own in
    let most : length (own_at before number) ≤ rounds = was.one_a_round in
    record {
      each = subst (λ own. AllByRecursion (IsReclaim number) own) (sym refused.own) was.each;
      one_a_round = omega (arith, long, most);
      fewer_if_full = λ fewer. refused.full;
    }

asked_once : (plan : ShardPlan) (number rounds : ℕ) (before after : PassView) → before.who ≡ Reclaimer → IsReclaimAsked plan number before after →
    IsReclaimed plan number rounds (own_at before number) (seen_at before number) →
    IsReclaimed plan number (rounds + 1) (own_at after number) (seen_at after number)
asked_once plan number rounds before after who (inl (freed, answered)) was = served plan number rounds before after freed who answered was
asked_once plan number rounds before after who (inr refused) was = passed_over plan number rounds before after refused was

pub keyed_turn : (kind : MapKind) (plan : ShardPlan) (number rounds : ℕ) (before after : PassView) → is_keyed kind ≡ true → before.who ≡ Reclaimer →
    IsReclaimAsked plan number before after → IsReclaimedBy kind plan number rounds (own_at before number) (seen_at before number) →
    IsReclaimedBy kind plan number (rounds + 1) (own_at after number) (seen_at after number)
keyed_turn Array plan number rounds before after keyed who asked was = absurd cc
keyed_turn Hash plan number rounds before after keyed who asked was = asked_once plan number rounds before after who asked was
keyed_turn LruHash plan number rounds before after keyed who asked was = asked_once plan number rounds before after who asked was

pub array_turn : (kind : MapKind) (plan : ShardPlan) (number rounds : ℕ) (own seen : List Entry) → is_keyed kind ≡ false →
    IsReclaimedBy kind plan number rounds own seen → IsReclaimedBy kind plan number (rounds + 1) own seen
array_turn Array plan number rounds own seen keyed was = was
array_turn Hash plan number rounds own seen keyed was = absurd cc
array_turn LruHash plan number rounds own seen keyed was = absurd cc

pub same_elsewhere : (number : ℕ) (pass : PassView) → IsElsewhereSame number pass pass
same_elsewhere number pass = record { who = refl; count = refl; others = λ other apart. refl }

-- ---- the round

same_at : (plan : ℕ → ShardPlan) (rounds number : ℕ) (before after : PassView) → view_at after number ≡ view_at before number →
    IsReclaimedAt plan rounds before number → IsReclaimedAt plan rounds after number
same_at plan rounds number before after same was =
    subst (λ (view : CallerView). IsReclaimedBy (plan number).definition.kind (plan number) number rounds view.own view.seen) (sym same) was

below_test : (other number : ℕ) → other < number + 1 → (other == number) ≡ false → other < number
below_test other number below apart = grind (arith, nat_tests)

equal_test : (other number : ℕ) → (other == number) ≡ true → number ≡ other
equal_test other number is = grind (arith, nat_tests)

unequal : (other number : ℕ) → other < number → other ≢ number
unequal other number below same = omega (arith, below, same)

above : (other number : ℕ) → number + 1 ≤ other → other ≢ number
above other number up same = omega (arith, up, same)

pub next_turn : (plan : ℕ → ShardPlan) (count rounds number : ℕ) (before after : PassView) → IsInRound plan count rounds number before →
    number < count → IsElsewhereSame number before after →
    (IsReclaimedAt plan rounds before number → IsReclaimedAt plan (rounds + 1) after number) → IsInRound plan count rounds (number + 1) after
next_turn plan count rounds number before after was inside elsewhere turn = record {
  below = λ other below within. by_test other below within (other == number) refl;
  from = λ other up within. same_at plan rounds other before after (elsewhere.others other (above other number up)) (was.from other (omega (arith, up)) within);
}
  where
    here : IsReclaimedAt plan (rounds + 1) after number
    here = turn (was.from number (omega arith) inside)

    by_test : (other : ℕ) → other < number + 1 → other < count → (test : Bool) → (other == number) ≡ test → IsReclaimedAt plan (rounds + 1) after other
    by_test other below within true is = subst (λ n. IsReclaimedAt plan (rounds + 1) after n) (equal_test other number is) here
    by_test other below within false is =
        let lower : other < number = below_test other number below is in
        same_at plan (rounds + 1) other before after (elsewhere.others other (unequal other number lower)) (was.below other lower within)

pub first_turn : (plan : ℕ → ShardPlan) (count rounds : ℕ) (pass : PassView) → AreReclaimed plan count rounds pass → IsInRound plan count rounds 0 pass
first_turn plan count rounds pass are = record {
  below = λ other below within. absurd (omega (arith, below));
  from = λ other up within. are.each other within;
}

pub all_turns : (plan : ℕ → ShardPlan) (count rounds number : ℕ) (pass : PassView) → count ≤ number → IsInRound plan count rounds number pass →
    (other : ℕ) → other < count → IsReclaimedAt plan (rounds + 1) pass other
all_turns plan count rounds number pass past was other within = was.below other (omega (arith, past, within)) within

nothing_by : (kind : MapKind) (plan : ShardPlan) (number : ℕ) → IsReclaimedBy kind plan number 0 [] []
nothing_by Array plan number = refl
nothing_by Hash plan number = record { each = tt; one_a_round = omega arith; fewer_if_full = λ fewer. absurd (omega (arith, fewer)) }
nothing_by LruHash plan number = record { each = tt; one_a_round = omega arith; fewer_if_full = λ fewer. absurd (omega (arith, fewer)) }

-- ---- the deeds of a round

pub keyed_did : (kind : MapKind) (number : ℕ) (before after : PassView) → is_keyed kind ≡ true → HasAsked number before after →
    HasTurned (is_keyed kind) number before after
keyed_did kind number before after keyed asked = subst (λ test. HasTurned test number before after) (sym keyed) asked

pub array_did : (kind : MapKind) (number : ℕ) (pass : PassView) → is_keyed kind ≡ false → HasTurned (is_keyed kind) number pass pass
array_did kind number pass array = subst (λ test. HasTurned test number pass pass) (sym array) refl

-- the part of a round on the shards below this number
pub record IsPartDone (plan : ℕ → ShardPlan) (number : ℕ) (before after : List Deed) : Type 0 where
  pub made : List Deed
  pub asked : AreReclaimDeeds (keyed_below plan number) made
  pub deeds_are : after ≡ reverse made ++ before

pub first_part : (plan : ℕ → ShardPlan) (deeds : List Deed) → IsPartDone plan 0 deeds deeds
first_part plan deeds = record { made = []; asked = tt; deeds_are = refl }

asked_more : (numbers : List ℕ) (deeds : List Deed) (number : ℕ) (deed : Deed) → AreReclaimDeeds numbers deeds → IsReclaimDeed number deed →
    AreReclaimDeeds (numbers ++ number ∷ []) (deeds ++ deed ∷ [])
asked_more [] [] number deed are is = (is, tt)
asked_more [] (first ∷ deeds) number deed are is = absurd are
asked_more (first ∷ numbers) [] number deed are is = absurd are
asked_more (first ∷ numbers) (one ∷ deeds) number deed (here, are) is = (here, asked_more numbers deeds number deed are is)

one_over : (n : ℕ) → suc n ≡ n + 1
one_over n = omega arith

keyed_more : (plan : ℕ → ShardPlan) (number : ℕ) (test : Bool) → is_keyed (plan number).definition.kind ≡ test →
    keyed_below plan (number + 1) ≡ (if test then keyed_below plan number ++ number ∷ [] else keyed_below plan number)
keyed_more plan number test is =
    ap (keyed_below plan) (sym (one_over number)) ∙ ap (λ (one : Bool). if one then keyed_below plan number ++ number ∷ [] else keyed_below plan number) is

part_by : (plan : ℕ → ShardPlan) (number : ℕ) (start : List Deed) (before after : PassView) → IsPartDone plan number start before.deeds →
    (test : Bool) → is_keyed (plan number).definition.kind ≡ test → HasTurned test number before after → IsPartDone plan (number + 1) start after.deeds
part_by plan number start before after part true keyed (deed, is, did) = record {
  made = part.made ++ deed ∷ [];
  asked = subst (λ numbers. AreReclaimDeeds numbers (part.made ++ deed ∷ [])) (sym (keyed_more plan number true keyed))
      (asked_more (keyed_below plan number) part.made number deed part.asked is);
  deeds_are = did_more start before.deeds after.deeds part.made (deed ∷ []) part.deeds_are did;
}
part_by plan number start before after part false array did = record {
  made = part.made;
  asked = subst (λ numbers. AreReclaimDeeds numbers part.made) (sym (keyed_more plan number false array)) part.asked;
  deeds_are = did ∙ part.deeds_are;
}

pub next_part : (plan : ℕ → ShardPlan) (number : ℕ) (start : List Deed) (before after : PassView) → IsPartDone plan number start before.deeds →
    HasTurned (is_keyed (plan number).definition.kind) number before after → IsPartDone plan (number + 1) start after.deeds
next_part plan number start before after part turned =
    part_by plan number start before after part (is_keyed (plan number).definition.kind) refl turned

rounds_more : (plan : ℕ → ShardPlan) (count rounds : ℕ) (deeds last : List Deed) → AreRoundsDone plan count rounds deeds → IsRoundDone plan count last →
    AreRoundsDone plan count (suc rounds) (deeds ++ last)
rounds_more plan count zero deeds last none one = (last, [], ap (λ all. all ++ last) none ∙ sym (append-nil last), one, refl)
rounds_more plan count (suc rounds) deeds last (first, later, is, done, rest) one =
    (first, later ++ last, ap (λ all. all ++ last) is ∙ append_assoc first later last, done, rounds_more plan count rounds later last rest one)

pub round_done : (plan : ℕ → ShardPlan) (count rounds : ℕ) (before after : List Deed) → AreRoundsDone plan count rounds (reverse before) →
    IsPartDone plan count before after → AreRoundsDone plan count (rounds + 1) (reverse after)
round_done plan count rounds before after done part =
    let turned : reverse after ≡ reverse before ++ part.made =
    ap reverse part.deeds_are ∙ reverse-append (reverse part.made) before ∙ ap (λ made. reverse before ++ made) (reverse-reverse part.made) in
    subst (λ n. AreRoundsDone plan count n (reverse after)) (one_over rounds)
    (subst (λ deeds. AreRoundsDone plan count (suc rounds) deeds) (sym turned) (rounds_more plan count rounds (reverse before) part.made done part.asked))

-- ---- before the first round

pub no_round : (plan : ℕ → ShardPlan) (count : ℕ) (pass : PassView) → IsUnused pass → AreReclaimed plan count 0 pass
no_round plan count pass unused = record {
  each = λ number within.
      subst (λ (view : CallerView). IsReclaimedBy (plan number).definition.kind (plan number) number 0 view.own view.seen) (sym (unused.0 number))
      (nothing_by (plan number).definition.kind (plan number) number);
  did = ap reverse unused.1;
}
