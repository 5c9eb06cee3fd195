-- What each worker made and its state, apart.
use Rattle.std.proofs.Common.{◌≡◌, ℕ, zero, suc, ◌+◌, ◌<◌, List, [], ◌∷◌, ◌++◌, length, refl, sym, ap, ◌∙◌, arith, Bool, true, false, length-append}
use Rattle.std.specs.Prelude.{Vec, remove, nat_lt}
use Rattle.std.proofs.lemmas.Bool.Decides.{nat_tests}
use mathlib.Core.Option.{some, some-injective, some-ne-none}
use lib.ListN.{get_elem?}
use Rattle.replay.specs.declared.crew.Handled.{Handled}
use Rattle.actors.specs.declared.runner.Ran.{Ran}
use Rattle.actors.specs.Accounts.{lists_of, runs_at}
use Rattle.replay.specs.Crews.{IsPart}
use Rattle.semantics.proofs.shared.EachLemmas.{or_push_else, or_push_here}

module _ {A : Type 0} where
  pub rest_there : (l : List A) (j : ℕ) → get_elem? (remove l 0) j ≡ get_elem? l (suc j)
  rest_there [] j = refl
  rest_there (x ∷ xs) j = refl

  pub found_longer : (l : List A) (last x : A) (j : ℕ) → get_elem? l j ≡ some x → get_elem? (l ++ last ∷ []) j ≡ some x
  found_longer [] last x j e = absurd (some-ne-none x (sym e))
  found_longer (y ∷ ys) last x zero e = e
  found_longer (y ∷ ys) last x (suc j) e = found_longer ys last x j e

  pub found_last : (l : List A) (last : A) (j : ℕ) → length l ≡ j → get_elem? (l ++ last ∷ []) j ≡ some last
  found_last [] last zero e = refl
  found_last [] last (suc j) e = absurd (omega (arith, e))
  found_last (y ∷ ys) last zero e = absurd (omega (arith, e))
  found_last (y ∷ ys) last (suc j) e = found_last ys last j (omega (arith, e))

lists_push : {A : Type 0} (runs : List (Vec Ran A)) (list : Vec Ran A) → lists_of (runs ++ list ∷ []) ≡ lists_of runs ++ list.items ∷ []
lists_push [] list = refl
lists_push {A} (first ∷ later) list = ap (λ lists. first.items ∷ lists) (lists_push later list)

lists_count : {A : Type 0} (runs : List (Vec Ran A)) → length (lists_of runs) ≡ length runs
lists_count [] = refl
lists_count (first ∷ later) = ap suc (lists_count later)

-- N were taken apart
pub record ArePartedTo {S A : Type 0} (all : List (Handled S)) (done : ℕ) (left : List (Handled S)) (runs : List (Vec Ran A)) (states : List S) : Type 0
  where
    pub counted : length runs ≡ done
    pub states_counted : length states ≡ done
    pub together : done + length left ≡ length all
    pub moved : (j : ℕ) → get_elem? left j ≡ get_elem? all (done + j)
    pub parts : (place : ℕ) (it : Handled S) → get_elem? all place ≡ some it → place < done → IsPart (lists_of runs) states place it

pub one_parted : {S A : Type 0} (all left : List (Handled S)) (done : ℕ) (first : Handled S) (list : Vec Ran A) (runs : List (Vec Ran A)) (states : List S)
    → get_elem? left 0 ≡ some first → list.items ≡ first.runs.items → ArePartedTo all done left runs states → length (remove left 0) + 1 ≡ length left
    → ArePartedTo all (done + 1) (remove left 0) (runs ++ list ∷ []) (states ++ first.state ∷ [])
one_parted {S} {A} all left done first list runs states is same were shorter = record {
  counted = length-append runs (list ∷ []) ∙ ap (λ n. n + 1) were.counted;
  states_counted = length-append states (first.state ∷ []) ∙ ap (λ n. n + 1) were.states_counted;
  together = (let t = were.together in omega (arith, t, shorter));
  moved = λ j. rest_there left j ∙ were.moved (suc j) ∙ ap (λ n. get_elem? all n) (omega arith);
  parts = λ place it there below. by_test place it there below (nat_lt place done) refl;
} where
  by_test : (place : ℕ) (it : Handled S) → get_elem? all place ≡ some it → place < done + 1 → (test : Bool) → nat_lt place done ≡ test
      → IsPart (lists_of (runs ++ list ∷ [])) (states ++ first.state ∷ []) place it
  by_test place it there below true test =
      let earlier : place < done = grind (arith, nat_tests) in
      let old = were.parts place it there earlier in
      let count = lists_count runs ∙ were.counted in
      record {
        runs = ap (λ l. runs_at l place) (lists_push runs list) ∙ or_push_else (lists_of runs) list.items [] place (omega (arith, earlier, count)) ∙ old.runs;
        state = found_longer states first.state it.state place old.state;
      }
  by_test place it there below false test =
      let past : done < place + 1 = grind (arith, nat_tests) in
      let here : place ≡ done = omega (arith, past, below) in
      let first_is : some first ≡ some it = sym is ∙ were.moved 0 ∙ ap (λ n. get_elem? all n) (omega (arith, here)) ∙ there in
      let one : first ≡ it = some-injective first it first_is in
      record {
        runs = ap (λ l. runs_at l place) (lists_push runs list)
            ∙ or_push_here (lists_of runs) list.items [] place (lists_count runs ∙ were.counted ∙ sym here) ∙ same ∙ ap (λ (h : Handled S). h.runs.items) one;
        state = found_last states first.state place (were.states_counted ∙ sym here) ∙ ap (λ (h : Handled S). some h.state) one;
      }
