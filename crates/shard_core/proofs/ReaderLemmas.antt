-- What the counts of a book say of the workers inside: that there is room for one more, and which of them entered after a stamp.
use Rattle.std.proofs.Common.{◌≡◌, ℕ, ◌+◌, ◌<◌, Bool, true, cond, nat_lt, List, [], ◌∷◌, length, get_or, set, eq-eqb, Option, Some, None, arith, refl, sym, ◌∙◌, ap, inl, inr}
use Rattle.std.specs.Prelude.{◌==◌, ◌↔◌, count_by, is_some}
use Rattle.std.specs.List.{list_all}
use Rattle.std.proofs.lemmas.Bool.{cases_Bool, cases_lt, eqb-true, lt-ltb, le-ltb, ltb-true}
use Rattle.std.proofs.lemmas.List.{length-set}
use Rattle.std.proofs.lemmas.List.Sums.{sum_by-set, sum_by-cons, count_by-le-length}
use Rattle.semantics.specs.Reclamation.{began_after}
use Rattle.semantics.proofs.shared.ConditionLemmas.{first_true, second_true}
use Rattle.epochs.specs.EpochCounts.{EpochCounts, run_count, AllEnteredAfter}
use Rattle.shard_core.specs.Sections.{is_of_epoch, one_where, IsCounted}

-- with a worker outside there is room for a run more
pub room_for_one : (book : EpochCounts) (epochs : List (Option ℕ)) (count worker : ℕ) → IsCounted book epochs count → worker < length epochs → length epochs ≡ 8 → get_or epochs worker None ≡ None → run_count book < 8
room_for_one book epochs count worker counted within long outside =
    let changed = sum_by-set (λ one. cond (is_some one) 1 0) epochs worker (Some 0) None within in
    let none : one_where (is_some (get_or epochs worker None)) ≡ 0 = ap (λ (one : Option ℕ). one_where (is_some one)) outside in
    let most = count_by-le-length is_some (set epochs worker (Some 0)) in
    let same = length-set epochs worker (Some 0) in
    let all = counted.all in
    omega (arith, changed, none, most, same, all, long)

-- ---- the floor

one_more : (test : Option ℕ → Bool) (epoch : Option ℕ) (epochs : List (Option ℕ)) → count_by test (epoch ∷ epochs) ≡ cond (test epoch) 1 0 + count_by test epochs
one_more test epoch epochs = sum_by-cons (λ one. cond (test one) 1 0) epoch epochs

all_began : (stamp : ℕ) (epochs : List (Option ℕ)) → ((epoch : ℕ) → 0 < count_by (is_of_epoch epoch) epochs → stamp < epoch) → list_all (began_after stamp) epochs ≡ true
all_began stamp [] after = refl
all_began stamp (None ∷ rest) after = all_began stamp rest (λ epoch some. after epoch (let more = one_more (is_of_epoch epoch) None rest in omega (arith, some, more)))
all_began stamp (Some entered ∷ rest) after =
    let more = one_more (is_of_epoch entered) (Some entered) rest in
    let own : one_where (entered == entered) ≡ 1 = ap one_where (eq-eqb entered entered refl) in
    let here : stamp < entered = after entered (omega (arith, more, own)) in
    rw (lt-ltb stamp entered here) (all_began stamp rest (λ epoch some. after epoch (let more = one_more (is_of_epoch epoch) (Some entered) rest in omega (arith, some, more))))

each_began : (stamp : ℕ) (epochs : List (Option ℕ)) → list_all (began_after stamp) epochs ≡ true → (epoch : ℕ) → 0 < count_by (is_of_epoch epoch) epochs → stamp < epoch
each_began stamp [] all epoch some = absurd (omega (arith, some))
each_began stamp (None ∷ rest) all epoch some = each_began stamp rest all epoch (let more = one_more (is_of_epoch epoch) None rest in omega (arith, some, more))
each_began stamp (Some entered ∷ rest) all epoch some = elim (cases_Bool (entered == epoch)) [
  | inl same ↦ (let here : stamp < entered = ltb-true stamp entered (first_true (nat_lt stamp entered) (list_all (began_after stamp) rest) all) in
      let is : entered ≡ epoch = eqb-true entered epoch same in
      omega (arith, here, is))
  | inr apart ↦ (let more = one_more (is_of_epoch epoch) (Some entered) rest in
      let none : one_where (entered == epoch) ≡ 0 = ap one_where apart in
      each_began stamp rest (second_true (nat_lt stamp entered) (list_all (began_after stamp) rest) all) epoch (omega (arith, more, none, some)))
]

-- what the book says of a stamp is what all workers' epochs say
pub floor_counts : (book : EpochCounts) (epochs : List (Option ℕ)) (count stamp floor : ℕ) → IsCounted book epochs count → (stamp < floor ↔ AllEnteredAfter book stamp) →
    nat_lt stamp floor ≡ list_all (began_after stamp) epochs
floor_counts book epochs count stamp floor counted exact = elim (cases_lt stamp floor) [
  | inl below ↦ (let after : AllEnteredAfter book stamp = exact.0 below in
      lt-ltb stamp floor below ∙ sym (all_began stamp epochs (λ epoch some. after epoch (let was = counted.runs epoch in omega (arith, some, was)))))
  | inr above ↦ (elim (cases_Bool (list_all (began_after stamp) epochs)) [
    | inl all ↦ (let below : stamp < floor = exact.1 (λ epoch some. each_began stamp epochs all epoch (let was = counted.runs epoch in omega (arith, some, was))) in
        absurd (omega (arith, below, above)))
    | inr other ↦ le-ltb stamp floor above ∙ sym other
  ])
]
