use Rattle.std.proofs.Common.{◌≡◌, ℕ, List, Bool, true, false, Result, Ok, Err, ap, refl, sym, true≢false}
use Rattle.std.specs.Prelude.{◌==◌, Contains, Decides}
use Rattle.std.proofs.lemmas.Bool.Decides.{Decides-eqb}
use Rattle.std.proofs.lemmas.Map.Made.{is_member-Decides}
use Rattle.maglev.specs.RingSize.{ring_sizes}
use Rattle.conntrack.specs.SteeringMaps.{note_counts}
use Rattle.conntrack.specs.declared.fault.SteerFault.{SteerFault}
use Rattle.xlb_commands.specs.Replays.{AreServedSizes}
use Rattle.xlb_commands.proofs.shipping.made.Goals as goal

abbrev result_of : (A : Type 0) → SteerFault → Result A SteerFault
result_of A why = Err why

same_fault : {A : Type 0} (why other : SteerFault) → result_of A why ≡ result_of A other → why ≡ other
same_fault why other e = cc

pub returns-in-Err-clause-refused : goal.returns-in-Err-clause-refused
returns-in-Err-clause-refused c =
    let why = c.in-Err.ensures.bad_size in
    record {
      why = c.in-Err.fault;
      size = ((λ e. why.0 (ap (λ (fault : SteerFault). Err fault) e)), (λ broken. same_fault _ _ (why.1 broken)));
      fault_is = c.hinted.ensures;
    }

-- whether a number is one of these is decided, so it is one where the contrary is wrong
one_of : (numbers : List ℕ) (number : ℕ) → ((Contains numbers number → ⊥) → ⊥) → Contains numbers number
one_of numbers number known = by_answer _ (is_member-Decides {eq = λ (a : ℕ) (b : ℕ). a == b} Decides-eqb numbers number)
  where
    by_answer : (answer : Bool) → Decides answer (Contains numbers number) → Contains numbers number
    by_answer true decides = decides.0 refl
    by_answer false decides = absurd (known (λ one. true≢false (sym (decides.1 one))))

served_sizes : (flows ring : ℕ) → ((AreServedSizes flows ring → ⊥) → ⊥) → AreServedSizes flows ring
served_sizes flows ring known = (
  one_of note_counts flows (λ none. known (λ both. none both.0)),
  one_of ring_sizes ring (λ none. known (λ both. none both.1)),
)

made_no_error : {A : Type 0} (image : A) (why : SteerFault) → ◌≡◌ {A = Result A SteerFault} (Ok image) (Err why) → ⊥
made_no_error image why same = cc

pub returns-in-Ok-clause-size : goal.returns-in-Ok-clause-size
returns-in-Ok-clause-size c =
    served_sizes c.args.flows c.args.ring (λ broken. made_no_error _ _ (c.in-Ok.ensures.bad_size.1 broken))
