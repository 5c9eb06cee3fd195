use Rattle.maglev.specs.declared.backend.Backend.{Backend}
use Rattle.maglev.proofs.RepeatLemmas.{NoneBelow}
use Rattle.maglev.proofs.repeats.is_backend_twice.Given as goal

abbrev pub invariant-backends : goal.invariant-backends
invariant-backends l =
    NoneBelow (λ (backend : Backend). backend.number) l.backends l.later × NoneBelow (λ (backend : Backend). backend.address) l.backends l.later
