-- A list in which a key is there twice, found by looking at what is before each element.
use Rattle.std.proofs.Common.{◌≡◌, ◌≢◌, ℕ, ◌+◌, ◌<◌, ◌≤◌, List, Some, length, get_or, take, map, ⊎_elim, sym, ap, ◌∙◌, arith}
use Rattle.std.specs.Prelude.{Any, slice_get}
use Rattle.std.proofs.lemmas.Bool.{cases_eq}
use Rattle.std.proofs.lemmas.List.{length-map, length-take-le, get_or-take, get_or-map, get_or_default}
use Rattle.std.proofs.lemmas.Option.{slice_get-get_or}
use Rattle.maglev.specs.Refusals.{HasRepeat}

module _ {X Y : Type 0} (key : X → Y) (xs : List X) where
  -- the key of an element, read in the list of keys
  key_at : (k : ℕ) (x : X) → k < length xs → slice_get (map key xs) k ≡ Some (key (get_or xs k x))
  key_at k x below =
      let long : length (map key xs) ≡ length xs = length-map xs key in
      slice_get-get_or (map key xs) k (key x) (omega (arith, long)) ∙ ap Some (get_or-map key xs k x (key x) below)

  -- no two of the first elements have one key
  abbrev pub NoneBelow : ℕ → Type 0
  NoneBelow n = (i j : ℕ) → i < j → j < n → slice_get (map key xs) i ≢ slice_get (map key xs) j

  pub HasRepeat-found : (later : ℕ) (d : X) → later < length xs → Any (λ e. key e ≡ key (get_or xs later d)) (take later xs) → HasRepeat (map key xs)
  HasRepeat-found later d below found =
      let x : X = get_or xs later d in
      let read : x ≡ get_or xs later x = get_or_default xs later d x below in
      let front : length (take later xs) ≡ later = length-take-le later xs (omega arith) in
      let before : found.0 < later = let inside = found.2 in omega (arith, front, inside) in
      let same_element : get_or xs found.0 found.1 ≡ found.1 = sym (get_or-take later xs found.0 found.1 before) ∙ found.3 in
      let long : length (map key xs) ≡ length xs = length-map xs key in
      record {
        first = found.0;
        later = later;
        before = before;
        within = omega (arith, long);
        same = key_at found.0 found.1 (omega arith) ∙ ap (λ z. Some (key z)) same_element ∙ ap Some found.4
            ∙ ap (λ z. Some (key z)) read ∙ sym (key_at later x below);
      }

  pub NoneBelow-start : NoneBelow 0
  NoneBelow-start i j before below = absurd (omega arith)

  -- an element whose key is nowhere before it
  pub NoneBelow-next : (later : ℕ) (d : X) → later < length xs → ¬ Any (λ e. key e ≡ key (get_or xs later d)) (take later xs)
      → NoneBelow later → NoneBelow (later + 1)
  NoneBelow-next later d inside none so_far i j before below same =
      let x : X = get_or xs later d in
      let read : x ≡ get_or xs later x = get_or_default xs later d x inside in
      ⊎_elim
      (λ here.
      let e : X = get_or xs i x in
      let front : length (take later xs) ≡ later = length-take-le later xs (omega arith) in
      let sooner : i < later = omega arith in
      let kept : get_or (take later xs) i e ≡ e = get_or-take later xs i e sooner ∙ get_or_default xs i e x (omega arith) in
      let first_key : slice_get (map key xs) i ≡ Some (key e) = key_at i x (omega arith) in
      let later_key : slice_get (map key xs) later ≡ Some (key x) = key_at later x inside ∙ ap (λ z. Some (key z)) (sym read) in
      let same_here : slice_get (map key xs) i ≡ slice_get (map key xs) later = same ∙ ap (slice_get (map key xs)) here in
      let same_key : key e ≡ key x = cc (first_key, later_key, same_here) in
      none (i, e, omega (arith, front), kept, same_key))
      (λ elsewhere. so_far i j before (omega arith) same)
      (cases_eq j later)

  pub no_repeat : (n : ℕ) → length xs ≤ n → NoneBelow n → ¬ HasRepeat (map key xs)
  no_repeat n all none repeat =
      let long : length (map key xs) ≡ length xs = length-map xs key in
      let within : repeat.later < length (map key xs) = repeat.within in
      none repeat.first repeat.later repeat.before (omega (arith, long, within)) repeat.same
