-- A replay that was made or given up, from the clauses of the one that makes it.
use Rattle.std.proofs.Common.{◌≡◌, ◌∙◌, ◌↔◌, ◌⊎◌, inl, Bool, true, false, IsTrue, IsFalse, ℕ, List, Option, Some, None, Result, Ok, Err, ap, refl, subst, sym}
use Rattle.std.specs.Prelude.{IfOk, IfErr, IsErrOf}
use Rattle.ebpf_decode.specs.declared.map.MapDef.{MapDef}
use Rattle.semantics.specs.Program.{Program}
use Rattle.semantics.specs.ShardPlan.{AreOptions, are_served_options, recorded}
use Rattle.semantics.specs.declared.options.Options.{Options}
use Rattle.semantics.specs.declared.options.Recording.{Recording}
use Rattle.map_updates.specs.declared.update.MapUpdate.{MapUpdate}
use Rattle.wire.specs.declared.records.Sent.{Sent}
use Rattle.control.specs.declared.command.Command.{Command}
use Rattle.actors.specs.Accounted.{IsAccounted}
use Rattle.machine.specs.Running.{program_of}
use Rattle.guarantees.specs.HeadlineOf.{HeadlineOf}
use Rattle.replay.specs.EventsInTurns.{IsListedInTurns}
use Rattle.actors.specs.Parts.{AreBadOptions, HasNoTable}
use Rattle.actors.specs.UpdateFaults.{OfUpdate}
use Rattle.replay.specs.TurnFaults.{IsWhyInTurn}
use Rattle.actors.specs.declared.fault.ReplayFault.{ReplayFault}
use Rattle.actors.specs.declared.fault.ReplayFault.TheVariants.{BadOptions, NoThread}
use Rattle.actors.specs.declared.outcome.Outcome.{Outcome}
use Rattle.xlb_commands.specs.AskedReplays.{IsOutcome}
use Rattle.xlb_commands.specs.declared.replays.Asked.{Asked}
use Rattle.xlb_commands.specs.Refused.{IsGivenUp}
use Rattle.xlb_commands.specs.Replays.{FollowsRule, IsByRule}

abbrev pub Made : Type 0
Made = Result Outcome ReplayFault

pub not_both : (test : Bool) → test ≡ true → test ≡ false → ⊥
not_both test is isnt = cc

abbrev failed_of : (X : Type 0) → ReplayFault → Result X ReplayFault
failed_of X why = Err why

abbrev failed : ReplayFault → Made
failed why = Err why

same_fault : (why other : ReplayFault) → failed why ≡ failed other → why ≡ other
same_fault why other e = cc

-- one on threads, and an exact one
pub made : (asked : Asked) (records : List Sent) (result : Made) → asked.exact ≡ false
    → IfOk result (IsAccounted (program_of asked.verified.now asked.options.shards) asked.script.now (recorded asked.recording asked.options) records)
    → IfOk result (λ outcome. (accounted : IsAccounted (program_of asked.verified.now asked.options.shards) asked.script.now
    (recorded asked.recording asked.options) records outcome)
    → HeadlineOf asked.verified.now asked.script.now (recorded asked.recording asked.options) records outcome accounted)
    → IfOk result (λ outcome. outcome.updates.items ≡ asked.updates.now) → IfOk result (IsOutcome asked records)
made asked records (Ok outcome) on_threads accounted kept are = record {
  made = record { updates_are = are; accounted = accounted; in_turn = λ is. absurd (not_both asked.exact is on_threads) };
  listed = record { kept = kept accounted; in_turns = λ is. absurd (not_both asked.exact is on_threads) };
}
made asked records (Err why) on_threads accounted kept are = tt

pub made_exact : (asked : Asked) (records : List Sent) (result : Made)
    → IfOk result (IsListedInTurns asked.verified.now asked.script.now (recorded asked.recording asked.options) records)
    → IfOk result (λ outcome. outcome.updates.items ≡ asked.updates.now) → IfOk result (IsOutcome asked records)
made_exact asked records (Ok outcome) listed are = record {
  made = record { updates_are = are; accounted = listed.exact.accounted; in_turn = λ is. listed.exact.in_order };
  listed = record { kept = listed.listed.kept; in_turns = λ is. listed.listed.in_turns };
}
made_exact asked records (Err why) listed are = tt

pub given_up : (exact : Bool) (maps : List MapDef) (updates : List MapUpdate) (script : List Command) (options : Options) (recording : Recording)
    (result : Made) → (IsErrOf result BadOptions ↔ AreBadOptions maps options script) → (exact ≡ true → ¬ IsErrOf result NoThread)
    → IfErr result (OfUpdate (IsWhyInTurn maps (recorded recording options) updates)) → IfErr result (IsGivenUp exact maps updates script options recording)
given_up exact maps updates script options recording (Ok outcome) bad no_thread of_update = tt
given_up exact maps updates script options recording (Err why) bad no_thread of_update = record {
  options_are_bad = ((λ e. bad.0 (ap failed e)), (λ broken. same_fault _ _ (bad.1 broken)));
  no_thread = λ is e. no_thread is (ap failed e);
  of_update = of_update;
}

-- the options of a replay fit its program's maps, since those of its journals do
pub options_fit : (program : Program) (script : List Command) (options : Options) (records : List Sent) (outcome : Outcome)
    → AreOptions outcome.journals.maps outcome.journals.options → IsAccounted program script options records outcome → AreOptions program.maps options
options_fit program script options records outcome fit accounted =
    subst (λ (o : Options). AreOptions program.maps o) accounted.options_are
    (subst (λ (m : List MapDef). AreOptions m outcome.journals.options) accounted.maps fit)

-- the same of the journals, from the replay's options
pub journals_fit : (program : Program) (script : List Command) (options : Options) (records : List Sent) (outcome : Outcome)
    → AreOptions program.maps options → IsAccounted program script options records outcome → AreOptions outcome.journals.maps outcome.journals.options
journals_fit program script options records outcome fit accounted =
    subst (λ (m : List MapDef). AreOptions m outcome.journals.options) (sym accounted.maps)
    (subst (λ (o : Options). AreOptions program.maps o) (sym accounted.options_are) fit)

same_why : {X : Type 0} (why other : ReplayFault) → failed_of X why ≡ failed_of X other → why ≡ other
same_why why other e = cc

-- an exact replay that was given up, from the clauses of a call that failed
pub given_up_in_turn : {X : Type 0} (maps : List MapDef) (updates : List MapUpdate) (script : List Command) (options : Options) (recording : Recording)
    (result : Result X ReplayFault) (why : ReplayFault) → result ≡ failed_of X why
    → (IsErrOf result BadOptions ↔ AreBadOptions maps options script) → (¬ IsErrOf result NoThread)
    → OfUpdate (IsWhyInTurn maps (recorded recording options) updates) why → IsGivenUp true maps updates script options recording why
given_up_in_turn {X} maps updates script options recording result why is bad no_thread refused = record {
  options_are_bad = ((λ e. bad.0 (is ∙ ap (failed_of X) e)), (λ broken. same_why why BadOptions (sym is ∙ bad.1 broken)));
  no_thread = λ exact e. no_thread (is ∙ ap (failed_of X) e);
  of_update = refused;
}

abbrev made_of : (X : Type 0) → X → Result X ReplayFault
made_of X made = Ok made

no_failure : {X : Type 0} (made : X) (why : ReplayFault) → made_of X made ≡ failed_of X why → ⊥
no_failure made why e = cc

-- the options of a replay that was opened are good
pub had_good : {X : Type 0} (maps : List MapDef) (script : List Command) (options : Options) (result : Result X ReplayFault) (made : X)
    → result ≡ made_of X made → (IsErrOf result BadOptions ↔ AreBadOptions maps options script) → ¬ AreBadOptions maps options script
had_good {X} maps script options result made is bad = λ are_bad. no_failure made BadOptions (sym is ∙ bad.1 are_bad)

is_served : (X : Type 0) (test : Bool) → (¬ (IsFalse test ⊎ X)) → IsTrue test
is_served X true neither = refl
is_served X false neither = absurd (neither (inl refl))

-- options that are not bad are served
pub served_options : (maps : List MapDef) (script : List Command) (options : Options) → (¬ AreBadOptions maps options script)
    → IsTrue (are_served_options maps options)
served_options maps script options good = is_served (HasNoTable maps script) (are_served_options maps options) good

-- of an image that is named nothing is said
pub rule_of : (name : Option (List ℕ)) (ring : ℕ) (program : Program) (script : List Command) (options : Options) (records : List Sent)
    (outcome : Outcome) (accounted : IsAccounted program script options records outcome)
    → (name ≡ None → IsByRule ring program script options records outcome accounted)
    → FollowsRule name ring program script options records outcome accounted
rule_of (Some name) ring program script options records outcome accounted rule = tt
rule_of None ring program script options records outcome accounted rule = rule refl
