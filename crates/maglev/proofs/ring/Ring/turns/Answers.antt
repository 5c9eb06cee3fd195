use Rattle.std.proofs.Common.{ℕ, map, ap, ◌∙◌, rules}
use Rattle.maglev.specs.Population.{preference_numbers}
use Rattle.maglev.specs.RingSize.{IsRingSize}
use Rattle.maglev.specs.Refusals.{HasRepeat}
use Rattle.maglev.proofs.Rings.{given_fit, numbers_of-given, owned_by, balanced_by, all_permutations}
use Rattle.maglev.proofs.ring.Ring.turns.Goals as goal

pub populate-requires-clause-fits : goal.populate-requires-clause-fits
populate-requires-clause-fits c =
    rw c.in_ok-preferences.ensures (given_fit c.args.size c.args.backends.now c.requires.offsets c.requires.skips)

pub returns-clause-only_one : goal.returns-clause-only_one
returns-clause-only_one c = rw c.in_ok-preferences.ensures at c.in_ok-owners.ensures.only_one

pub returns-clause-owned : goal.returns-clause-owned
returns-clause-owned c =
    owned_by (preference_numbers c.in_ok-preferences.preferences.items) (map (λ (backend : ℕ × ℕ × ℕ). backend.0) c.args.backends.now) c.in_ok-owners.owners.items
    (ap preference_numbers c.in_ok-preferences.ensures ∙ numbers_of-given c.args.backends.now) c.in_ok-owners.ensures.owned

pub returns-clause-balanced : goal.returns-clause-balanced
returns-clause-balanced c =
    let none : ¬ HasRepeat (map (λ (backend : ℕ × ℕ × ℕ). backend.0) c.args.backends.now) = search rules in
    balanced_by (preference_numbers c.in_ok-preferences.preferences.items) (map (λ (backend : ℕ × ℕ × ℕ). backend.0) c.args.backends.now) c.in_ok-owners.owners.items
    (ap preference_numbers c.in_ok-preferences.ensures ∙ numbers_of-given c.args.backends.now)
    none c.in_ok-owners.ensures.balanced

pub returns-clause-permutations : goal.returns-clause-permutations
returns-clause-permutations c =
    let served : IsRingSize c.args.size = search rules in
    all_permutations c.args.size _ served (given_fit c.args.size c.args.backends.now c.requires.offsets c.requires.skips)
