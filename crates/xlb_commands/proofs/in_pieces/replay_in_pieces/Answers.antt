use Rattle.std.proofs.Common.{◌∙◌, ℕ, List, ap, sym}
use Rattle.std.proofs.lemmas.Option.{IfSome_then}
use Rattle.std.proofs.lemmas.Result.{IfErr-weaker, IfOk-weaker, on_ok_weaker}
use Rattle.xlb_commands.specs.Parts.{command_frames}
use Rattle.xlb_commands.specs.Taking.{script_at}
use Rattle.xlb_commands.proofs.Earlier.{all_but_kept, report_before, unreplayed_before}
use Rattle.xlb_commands.proofs.Refusals.{failed_since}
use Rattle.xlb_commands.proofs.TakingLemmas.{script_of_all, script_of_one}
use Rattle.xlb_commands.proofs.in_pieces.replay_in_pieces.Goals as goal

pub numbered-requires : goal.numbered-requires
numbered-requires g c =
    let seen = rw c.in-Some.is at c.in_ok-taking.ensures.passed in
    record { part = c.args.asked.part; past = seen.0; passed = seen.1 }

pub replay_numbered-requires-clause-script : goal.replay_numbered-requires-clause-script
replay_numbered-requires-clause-script g c κs outlives =
    let asked = c.args.asked in
    let seen = rw c.in-Some.is at c.in_ok-taking.ensures.passed in
    script_of_all asked.part _ asked.script.now
    ((rw c.in-None.is at c.in-Ok.ensures.all) asked.part (command_frames asked.script.now) seen.0 seen.1)

pub replay_numbered-requires-in-Some-numbered-clause-script : goal.replay_numbered-requires-in-Some-numbered-clause-script
replay_numbered-requires-in-Some-numbered-clause-script g c κs outlives =
    let asked = c.args.asked in
    let seen = rw c.in-Some.is at c.in_ok-taking.ensures.passed in
    let script = rw c.in-Some-numbered.is at c.in-Ok.ensures.script in
    let of_part = rw c.in-Some-numbered.is at c.in-Ok.ensures.of_part in
    script ∙ script_of_one asked.part _ asked.script.now (of_part asked.part (command_frames asked.script.now) seen.0 seen.1)
    ∙ ap (λ (them : List ℕ). script_at asked.part them asked.script.now) (sym c.deref.ensures.value)

pub returns-in-None-clause-done : goal.returns-in-None-clause-done
returns-in-None-clause-done g c =
    IfOk-weaker c.replay_numbered.result _ _
    (λ found is. IfSome_then found is (λ report it. report_before _ _ _ _ _ _ _ _ _ _ _ _ _ report c.pass_records.ensures.kept it))
    c.replay_numbered.ensures.done

pub returns-in-None-clause-steady : goal.returns-in-None-clause-steady
returns-in-None-clause-steady g c =
    on_ok_weaker c.replay_numbered.result (λ same. same ∙ c.in_ok-taking.ensures.steady) c.replay_numbered.ensures.steady

pub returns-in-None-clause-refused : goal.returns-in-None-clause-refused
returns-in-None-clause-refused g c =
    IfErr-weaker c.replay_numbered.result _ _
    (λ refusal is. unreplayed_before _ _ _ _ _ _ _ _ _ _ _ _ _ _ refusal.fault c.pass_records.ensures.kept
    (failed_since _ _ _ c.in_ok-taking.ensures.steady) is)
    c.replay_numbered.ensures.refused

pub returns-in-None-clause-kept : goal.returns-in-None-clause-kept
returns-in-None-clause-kept g c = all_but_kept _ _ _ _ _ _ c.pass_records.ensures.kept c.replay_numbered.ensures.kept

pub returns-in-Some-numbered-clause-done : goal.returns-in-Some-numbered-clause-done
returns-in-Some-numbered-clause-done g c =
    IfOk-weaker c.replay_numbered-in-Some-numbered.result _ _
    (λ found is. IfSome_then found is (λ report it. report_before _ _ _ _ _ _ _ _ _ _ _ _ _ report c.pass_records.ensures.kept it))
    c.replay_numbered-in-Some-numbered.ensures.done

pub returns-in-Some-numbered-clause-steady : goal.returns-in-Some-numbered-clause-steady
returns-in-Some-numbered-clause-steady g c =
    on_ok_weaker c.replay_numbered-in-Some-numbered.result (λ same. same ∙ c.in_ok-taking.ensures.steady)
    c.replay_numbered-in-Some-numbered.ensures.steady

pub returns-in-Some-numbered-clause-kept : goal.returns-in-Some-numbered-clause-kept
returns-in-Some-numbered-clause-kept g c =
    all_but_kept _ _ _ _ _ _ c.pass_records.ensures.kept c.replay_numbered-in-Some-numbered.ensures.kept

pub returns-in-Some-numbered-clause-refused : goal.returns-in-Some-numbered-clause-refused
returns-in-Some-numbered-clause-refused g c =
    IfErr-weaker c.replay_numbered-in-Some-numbered.result _ _
    (λ refusal is. unreplayed_before _ _ _ _ _ _ _ _ _ _ _ _ _ _ refusal.fault c.pass_records.ensures.kept
    (failed_since _ _ _ c.in_ok-taking.ensures.steady) is)
    c.replay_numbered-in-Some-numbered.ensures.refused
