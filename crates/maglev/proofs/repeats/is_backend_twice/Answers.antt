use Rattle.std.proofs.Common.{[], refl, sym, ◌∙◌, inl, inr}
use Rattle.std.proofs.lemmas.Bool.{true≢false}
use Rattle.maglev.specs.declared.backend.Backend.{Backend}
use Rattle.maglev.proofs.RepeatLemmas.{HasRepeat-found, NoneBelow-next}
use Rattle.maglev.proofs.repeats.is_backend_twice.Goals as goal
use Rattle.maglev.proofs.repeats.is_backend_twice.Goals.{then-is_number_of-via-then-is_number_of, then-is_number_of-via-else-is_number_of+then-is_address_of}

pub returns-then-is_number_of : goal.returns-then-is_number_of
returns-then-is_number_of c =
    elim c.then-is_number_of.branch [
      | then-is_number_of-via-then-is_number_of w ↦ (
        λ _. inl (HasRepeat-found (λ (backend : Backend). backend.number) c.args.backends.now c.backends.later (record { number = 0; address = record { 0 = [] } })
            c.backends-test.true (c.is_number_of.ensures.0 w.if-is_number_of.true)),
        λ _. refl,
      )
      | then-is_number_of-via-else-is_number_of+then-is_address_of w ↦ (
        λ _. inr (HasRepeat-found (λ (backend : Backend). backend.address) c.args.backends.now c.backends.later (record { number = 0; address = record { 0 = [] } })
            c.backends-test.true (w.is_address_of.ensures.0 w.if-is_address_of.true)),
        λ _. refl,
      )
    ]

pub backends-preserved : goal.backends-preserved
backends-preserved c = (
  NoneBelow-next (λ (backend : Backend). backend.number) c.args.backends.now c.backends.later (record { number = 0; address = record { 0 = [] } }) c.backends-test.true
      (λ found. true≢false (sym (c.is_number_of.ensures.1 found) ∙ c.if-is_number_of.false)) c.backends.invariant.0,
  NoneBelow-next (λ (backend : Backend). backend.address) c.args.backends.now c.backends.later (record { number = 0; address = record { 0 = [] } }) c.backends-test.true
      (λ found. true≢false (sym (c.is_address_of.ensures.1 found) ∙ c.if-is_address_of.false)) c.backends.invariant.1,
)
