-- The flows with the most changes, ten at a time.
use Rattle.std.proofs.Common.{◌≡◌, ◌∙◌, ℕ, zero, suc, ◌+◌, ◌<◌, ◌++◌, Bool, true, false, cond, List, [], ◌∷◌, refl, ap, subst, sym, arith, get_or, length, map, take, String, string_bytes}
use Rattle.std.proofs.lemmas.List.{take_more}
use Rattle.std.proofs.lemmas.List.Folds.{flat_map-map}
use Rattle.std.proofs.lemmas.List.Sums.{fold-append}
use Rattle.std.specs.Prelude.{nat_lt}
use Rattle.std.specs.List.{flat_map, insert, position_or_len, take-map}
use Rattle.flows.specs.Ranking.{line_view, ranked_view}
use Rattle.flows.specs.Stories.{Story}
use Rattle.flows.specs.SummaryText.{story_placed, placed_if_moved, ranked, ranked_line, was_moved}
use Rattle.flows.proofs.MapLemmas.{first_of_map, insert_of_map}

one_plus : (n : ℕ) → suc n ≡ 1 + n
one_plus n = omega arith

-- a story with fewer changes than these
abbrev has_fewer : ℕ → Story → Bool
has_fewer changes story = nat_lt story.changes changes

-- a story is placed before the first that has fewer changes
pub placed_is : (story : Story) (best : List Story) → insert best (position_or_len (has_fewer story.changes) best) story ≡ story_placed story best
placed_is story [] = refl
placed_is story (first ∷ others) = by_test (nat_lt first.changes story.changes) refl (placed_is story others) where
  by_test : (test : Bool) → nat_lt first.changes story.changes ≡ test
      → insert others (position_or_len (has_fewer story.changes) others) story ≡ story_placed story others
      → insert (first ∷ others) (position_or_len (has_fewer story.changes) (first ∷ others)) story ≡ story_placed story (first ∷ others)
  by_test true is later = rw is refl
  by_test false is later = rw is
      (subst (λ (n : ℕ). insert (first ∷ others) n story ≡ first ∷ story_placed story others)
      (one_plus (position_or_len (has_fewer story.changes) others)) (ap (λ (it : List Story). first ∷ it) later))

take_again : {X : Type 0} (n : ℕ) (x : X) (xs : List X) → take n (x ∷ take n xs) ≡ take n (x ∷ xs)
take_again zero x xs = refl
take_again (suc n) x [] = refl
take_again (suc n) x (y ∷ xs) = ap (λ it. x ∷ it) (take_again n y xs)

-- the first ones of a list decide which are the first ones with a story more
pub placed_in_first : (n : ℕ) (story : Story) (best : List Story) → take n (story_placed story (take n best)) ≡ take n (story_placed story best)
placed_in_first zero story best = refl
placed_in_first (suc n) story [] = refl
placed_in_first (suc n) story (first ∷ others) =
    by_test (nat_lt first.changes story.changes) refl (placed_in_first n story others)
  where
    by_test : (test : Bool) → nat_lt first.changes story.changes ≡ test → take n (story_placed story (take n others)) ≡ take n (story_placed story others)
        → take (suc n) (story_placed story (take (suc n) (first ∷ others))) ≡ take (suc n) (story_placed story (first ∷ others))
    by_test true is later = rw is (ap (λ (it : List Story). story ∷ it) (take_again n first others))
    by_test false is later = rw is (ap (λ (it : List Story). first ∷ it) later)

-- one story more
pub ranked_more : (stories : List Story) (i : ℕ) (d : Story) → i < length stories
    → ranked (take (i + 1) stories) ≡ placed_if_moved (ranked (take i stories)) (get_or stories i d)
ranked_more stories i d inside =
    ap ranked (take_more stories i d inside) ∙ fold-append placed_if_moved [] (take i stories) (get_or stories i d ∷ [])

-- the list that the code keeps, with a line more
pub kept_more : {Y : Type 0} (best after : List (ℕ × String Y)) (stories : List Story) (i : ℕ) (story : Story) (line : String Y)
    → i < length stories → story ≡ get_or stories i story
    → map line_view best ≡ map ranked_view (take 10 (ranked (take i stories))) → was_moved story ≡ true
    → string_bytes line ≡ ranked_line story
    → after ≡ take 10 (insert best (position_or_len (λ other. nat_lt other.0 story.changes) best) (story.changes, line))
    → map line_view after ≡ map ranked_view (take 10 (ranked (take (i + 1) stories)))
kept_more best after stories i story line inside read before moved line_is put =
    ap (map line_view) put
    ∙ (sym (take-map line_view 10 (insert best (position_or_len (λ other. nat_lt other.0 story.changes) best) (story.changes, line)))
    ∙ (ap (take 10) (insert_of_map line_view best (position_or_len (λ other. nat_lt other.0 story.changes) best) (story.changes, line)
    ∙ (ap (λ (n : ℕ). insert (map line_view best) n (story.changes, string_bytes line)) (sym (first_of_map line_view (λ other. nat_lt other.0 story.changes) best))
    ∙ (ap (λ (it : List (ℕ × List ℕ)). insert it (position_or_len (λ other. nat_lt other.0 story.changes) it) (story.changes, string_bytes line)) before
    ∙ (ap (λ (it : List ℕ). insert (map ranked_view so_far) (position_or_len (λ other. nat_lt other.0 story.changes) (map ranked_view so_far)) (story.changes, it)) line_is
    ∙ (ap (λ (n : ℕ). insert (map ranked_view so_far) n (ranked_view story)) (first_of_map ranked_view (λ other. nat_lt other.0 story.changes) so_far)
    ∙ (sym (insert_of_map ranked_view so_far (position_or_len (has_fewer story.changes) so_far) story)
    ∙ ap (map ranked_view) (placed_is story so_far)))))))
    ∙ (take-map ranked_view 10 (story_placed story so_far)
    ∙ ap (map ranked_view) (placed_in_first 10 story (ranked (take i stories)) ∙ ap (take 10) (sym next)))))
  where
    so_far : List Story
    so_far = take 10 (ranked (take i stories))

    next : ranked (take (i + 1) stories) ≡ story_placed story (ranked (take i stories))
    next =
        ranked_more stories i story inside
        ∙ (ap (placed_if_moved (ranked (take i stories))) (sym read)
        ∙ ap (λ (test : Bool). cond test (story_placed story (ranked (take i stories))) (ranked (take i stories))) moved)

-- an unmoved flow changes nothing
pub kept_same : (best : List (ℕ × List ℕ)) (stories : List Story) (i : ℕ) (story : Story) → i < length stories → story ≡ get_or stories i story
    → best ≡ map ranked_view (take 10 (ranked (take i stories))) → was_moved story ≡ false
    → best ≡ map ranked_view (take 10 (ranked (take (i + 1) stories)))
kept_same best stories i story inside read before unmoved = before ∙ ap (λ (it : List Story). map ranked_view (take 10 it)) (sym next) where
  next : ranked (take (i + 1) stories) ≡ ranked (take i stories)
  next =
      ranked_more stories i story inside
      ∙ (ap (placed_if_moved (ranked (take i stories))) (sym read)
      ∙ ap (λ (test : Bool). cond test (story_placed story (ranked (take i stories))) (ranked (take i stories))) unmoved)

-- a text with the lines that are kept
pub with_lines : {Y : Type 0} (text before counts : List ℕ) (kept items : List (ℕ × String Y)) (stories : List Story)
    → text ≡ before ++ flat_map (λ line. string_bytes line.1) kept → before ≡ counts → kept ≡ items
    → map line_view items ≡ map ranked_view stories → text ≡ counts ++ flat_map ranked_line stories
with_lines {Y} text before counts kept items stories text_is before_is kept_is same =
    text_is
    ∙ (ap (λ (it : List ℕ). it ++ flat_map (λ (line : ℕ × String Y). string_bytes line.1) kept) before_is
    ∙ ap (λ (it : List ℕ). counts ++ it)
    (ap (λ (it : List (ℕ × String Y)). flat_map (λ (line : ℕ × String Y). string_bytes line.1) it) kept_is
    ∙ (sym (flat_map-map (λ (line : ℕ × List ℕ). line.1) line_view items)
    ∙ (ap (λ (it : List (ℕ × List ℕ)). flat_map (λ (line : ℕ × List ℕ). line.1) it) same
    ∙ flat_map-map (λ (line : ℕ × List ℕ). line.1) ranked_view stories))))
