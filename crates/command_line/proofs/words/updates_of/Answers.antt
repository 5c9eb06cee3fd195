use Rattle.std.proofs.Common.{arith, ◌≡◌, ◌<◌, ◌≤◌, ◌+◌, ◌/◌, ℕ, suc, List, [], ◌∷◌, length, Some, refl, sym, ap, ◌∙◌, subst, length-append}
use Rattle.std.specs.Prelude.{slice_get}
use Rattle.std.specs.Borrow.{Bor}
use Rattle.clap.specs.Walk.{Text, texts}
use Rattle.map_updates.specs.declared.update.MapUpdate.{MapUpdate}
use Rattle.command_line.specs.Reading.{IsUpdateAt}
use Rattle.command_line.proofs.Pushed.{each_pushed, member_at}
use Rattle.command_line.proofs.words.updates_of.Goals as goal

length_texts : (words : List (Bor Text)) → length (texts words) ≡ length words
length_texts [] = refl
length_texts (word ∷ words) = ap suc (length_texts words)

within_texts : (words : List (Bor Text)) (place : ℕ) → place < length words / 3 → place < length (texts words) / 3
within_texts words place inside = subst (λ n. place < n / 3) (sym (length_texts words)) inside

-- the updates that were read are those of the places before the next one
earlier_updates : (words : List Text) (updates : List MapUpdate) (place : ℕ) → length updates ≡ place
    → ((at : ℕ) (update : MapUpdate) → slice_get updates at ≡ Some update → IsUpdateAt words at update)
    → (before : ℕ) → before < place → (update : MapUpdate) × IsUpdateAt words before update
earlier_updates words updates place count each before inside =
    let found = member_at updates before (subst (λ n. before < n) (sym count) inside) in
    (found.0, each before found.0 found.1)

pub returns-in-Err-push-clause-mistaken : goal.returns-in-Err-push-clause-mistaken
returns-in-Err-push-clause-mistaken c = record {
  within = within_texts c.args.words.now c.updates.place c.updates-test.true;
  earlier = earlier_updates (texts c.args.words.now) c.updates.updates.items c.updates.place c.updates.invariant.count c.updates.invariant.each;
  mistaken = tt;
}

pub returns-in-Err-clause-mistaken : goal.returns-in-Err-clause-mistaken
returns-in-Err-clause-mistaken c = record {
  within = within_texts c.args.words.now c.updates.place c.updates-test.true;
  earlier = earlier_updates (texts c.args.words.now) c.updates.updates.items c.updates.place c.updates.invariant.count c.updates.invariant.each;
  mistaken = c.in-Err.ensures.mistaken;
}

-- the places that were read are all of them
all_places : (words : List (Bor Text)) (place : ℕ) → length words / 3 ≤ place → place ≤ length words / 3 → place ≡ length (texts words) / 3
all_places words place out most =
    let here : place ≡ length words / 3 = omega (arith, out, most) in
    here ∙ ap (λ n. n / 3) (sym (length_texts words))

pub returns-clause-read : goal.returns-clause-read
returns-clause-read c = record {
  count = c.updates.invariant.count ∙ all_places c.args.words.now c.updates.place c.updates-test.false c.updates.auto.place-end;
  each = c.updates.invariant.each;
}

pub updates-preserved : goal.updates-preserved
updates-preserved c =
    let i = c.updates.invariant in
    let words = texts c.args.words.now in
    let old = c.updates.updates.items in
    let update = c.in-Ok.update in
    let items = c.in-Ok-push.ensures.items in
    record {
      count = ap (λ (xs : List MapUpdate). length xs) items ∙ length-append old (update ∷ []) ∙ ap (λ n. n + 1) i.count;
      each = subst (λ (xs : List MapUpdate). (place : ℕ) (one : MapUpdate) → slice_get xs place ≡ Some one → IsUpdateAt words place one) (sym items)
          (each_pushed (IsUpdateAt words) old update i.each (subst (λ n. IsUpdateAt words n update) (sym i.count) c.in-Ok.ensures.read));
    }
