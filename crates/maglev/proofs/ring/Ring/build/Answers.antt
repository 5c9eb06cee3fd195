use Rattle.std.proofs.Common.{map, inl, ap, ◌∙◌, rules}
use Rattle.maglev.specs.declared.backend.Backend.{Backend}
use Rattle.maglev.specs.Population.{preference_numbers}
use Rattle.maglev.specs.RingSize.{IsRingSize}
use Rattle.maglev.specs.Refusals.{HaveRepeat}
use Rattle.maglev.proofs.Rings.{hashed_fit, numbers_of-hashed, owned_by, balanced_by, all_permutations}
use Rattle.maglev.proofs.ring.Ring.build.Goals as goal

pub populate-requires-clause-fits : goal.populate-requires-clause-fits
populate-requires-clause-fits c =
    let served : IsRingSize c.args.size = search rules in
    rw c.in_ok-preferences.ensures (hashed_fit c.args.size c.args.backends.now served)

pub returns-clause-only_one : goal.returns-clause-only_one
returns-clause-only_one c = rw c.in_ok-preferences.ensures at c.in_ok-owners.ensures.only_one

pub returns-clause-owned : goal.returns-clause-owned
returns-clause-owned c =
    owned_by (preference_numbers c.in_ok-preferences.preferences.items) (map (λ (backend : Backend). backend.number) c.args.backends.now) c.in_ok-owners.owners.items
    (ap preference_numbers c.in_ok-preferences.ensures ∙ numbers_of-hashed c.args.size c.args.backends.now) c.in_ok-owners.ensures.owned

pub returns-clause-balanced : goal.returns-clause-balanced
returns-clause-balanced c =
    let none : ¬ HaveRepeat c.args.backends.now = search rules in
    balanced_by (preference_numbers c.in_ok-preferences.preferences.items) (map (λ (backend : Backend). backend.number) c.args.backends.now) c.in_ok-owners.owners.items
    (ap preference_numbers c.in_ok-preferences.ensures ∙ numbers_of-hashed c.args.size c.args.backends.now)
    (λ repeat. none (inl repeat)) c.in_ok-owners.ensures.balanced

pub returns-clause-permutations : goal.returns-clause-permutations
returns-clause-permutations c =
    let served : IsRingSize c.args.size = search rules in
    all_permutations c.args.size _ served (hashed_fit c.args.size c.args.backends.now served)
