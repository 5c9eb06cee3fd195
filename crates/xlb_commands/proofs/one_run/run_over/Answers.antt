use Rattle.std.proofs.Common.{◌≡◌, ◌∙◌, ◌≢◌, ◌<◌, ◌≤◌, ◌↔◌, ◌⊎◌, inl, inr, refl, ap, ℕ, ℤ, List, Bool, true, false, IsTrue, IsFalse, Result, Err, arith, rules, subst}
use Rattle.ebpf_decode.specs.declared.map.MapDef.{MapDef}
use Rattle.map_updates.specs.declared.update.MapUpdate.{MapUpdate}
use Rattle.semantics.specs.ShardPlan.{are_served_options}
use Rattle.map_rules.specs.declared.open_fault.OpenFault.TheVariants.{BadOptions}
use Rattle.runs.specs.declared.fault.RunFault.{RunFault}
use Rattle.runs.specs.declared.fault.RunFault.TheVariants.{Open, Refused, Full}
use Rattle.control.specs.declared.fault.ControlFault.TheVariants as scripts
use Rattle.runs.specs.SingleRuns.{IsWhyNoRun}
use Rattle.xlb_commands.specs.declared.fault.Fault.{Fault}
use Rattle.xlb_commands.specs.declared.fault.Fault.TheVariants as faults
use Rattle.xlb_commands.specs.Refused.{IsRunFault, update_refused, update_full}
use Rattle.xlb_commands.specs.Results.{run_options}
use Rattle.xlb_commands.proofs.one_run.run_over.Goals as goal

-- maps that are not refused are served
served : (X : Type 0) (is_served : Bool) → ¬ (IsFalse is_served ⊎ X) → IsTrue is_served
served X true neither = refl
served X false neither = absurd (neither (inl refl))

abbrev result_of : (A : Type 0) → RunFault → Result A RunFault
result_of A why = Err why

no_refusal : {A : Type 0} (place : ℕ) (answer : ℤ) → result_of A (Refused place answer) ≢ result_of A (Open BadOptions)
no_refusal place answer e = absurd cc

not_full : {A : Type 0} (place : ℕ) → result_of A (Full place) ≢ result_of A (Open BadOptions)
not_full place e = absurd cc

-- an update was refused
refused_so : {A : Type 0} (maps : List MapDef) (updates : List MapUpdate) (worker place : ℕ) (answer reported : ℤ) (why : RunFault) (fault : Fault) → why ≡ Refused place answer → reported ≡ answer
    → (result_of A why ≡ result_of A (Open BadOptions) ↔ (IsFalse (are_served_options maps run_options) ⊎ (8 ≤ worker)))
    → IsWhyNoRun maps run_options updates why → fault ≡ faults.Script (scripts.Refused reported) → IsRunFault maps updates fault
refused_so {A} maps updates worker place answer reported why fault e same known none is =
    update_refused place answer
    (served _ _ (λ broken. no_refusal place answer (subst (λ (it : RunFault). result_of A it ≡ result_of A (Open BadOptions)) e (known.1 broken))))
    (subst (IsWhyNoRun maps run_options updates) e none) (is ∙ ap (λ (it : ℤ). faults.Script (scripts.Refused it)) same)

-- an update's journal was full
full_so : {A : Type 0} (maps : List MapDef) (updates : List MapUpdate) (worker place : ℕ) (why : RunFault) (fault : Fault) → why ≡ Full place
    → (result_of A why ≡ result_of A (Open BadOptions) ↔ (IsFalse (are_served_options maps run_options) ⊎ (8 ≤ worker)))
    → IsWhyNoRun maps run_options updates why → fault ≡ faults.Script scripts.JournalFull → IsRunFault maps updates fault
full_so {A} maps updates worker place why fault e known none is =
    update_full place
    (served _ _ (λ broken. not_full place (subst (λ (it : RunFault). result_of A it ≡ result_of A (Open BadOptions)) e (known.1 broken))))
    (subst (IsWhyNoRun maps run_options updates) e none) is

pub returns-in-Err-Refused-clause-refused : goal.returns-in-Err-Refused-clause-refused
returns-in-Err-Refused-clause-refused c =
    let e : c.in-Err-Refused.field-0 ≡ Refused c.in-Err-Refused.place c.in-Err-Refused.answer = search rules in
    refused_so _ _ _ c.in-Err-Refused.place c.in-Err-Refused.answer _ c.in-Err-Refused.field-0 _ e (search rules) c.in-Err-Refused.ensures.bad_options
    c.in-Err-Refused.ensures.why c.noted.ensures

pub returns-in-Err-Full-clause-refused : goal.returns-in-Err-Full-clause-refused
returns-in-Err-Full-clause-refused c =
    let e : c.in-Err-Full.field-0 ≡ Full c.in-Err-Full.place = search rules in
    full_so _ _ _ c.in-Err-Full.place c.in-Err-Full.field-0 _ e c.in-Err-Full.ensures.bad_options c.in-Err-Full.ensures.why c.noted-in-Err-Full.ensures
