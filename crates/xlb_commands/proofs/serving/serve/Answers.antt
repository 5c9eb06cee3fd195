use Rattle.std.proofs.Common.{◌≡◌, ◌∙◌, ap, ◌+◌, refl, inl, inr, ℕ, Bool, true, false, arith, rules, string_bytes, subst}
use Rattle.std.specs.Prelude.{◌⊎◌}
use Rattle.command_line.specs.declared.commands.Settings.{Settings}
use Rattle.xlb_commands.specs.Files.{FileBytes}
use Rattle.xlb_commands.specs.Results.{IsAnswer}
use Rattle.xlb_commands.specs.declared.report.Report.{Report}
use Rattle.xlb_commands.specs.declared.serving.CommandAnswer.{CommandAnswer}
use Rattle.xlb_commands.specs.declared.serving.CommandAnswer.TheVariants as answers
use Rattle.xlb_commands.specs.Refused.{not_printed, printed_notes, refused_with}
use Rattle.std.specs.Io.KnownBytes.{append_known}
use Rattle.xlb_commands.proofs.serving.serve.Goals as goal

-- a status is not both 0 and 1
not_both : (status : ℕ) → status ≡ 0 → status ≡ 1 → ⊥
not_both status done refused = omega arith

-- a count that has grown is not the same
has_grown : (old new : ℕ) → new ≡ old + 1 → new ≡ old → ⊥
has_grown old new counted same = omega arith

-- what is known of a command's answer, where it is a report
reported : (before after : FileBytes) (settings : Settings) (answer : CommandAnswer) (report : Report) → answer ≡ answers.Reported report →
    IsAnswer before after settings answer → IsAnswer before after settings (answers.Reported report)
reported before after settings answer report is known = subst (IsAnswer before after settings) is known

pub returns-in-Ok-clause-done : goal.returns-in-Ok-clause-done
returns-in-Ok-clause-done g c =
    let bytes_are : c.as_bytes.result.now ≡ string_bytes c.in-Ok-Reported.report.text = search rules in
    let eq : c.in-Ok-Reported.field-0 ≡ answers.Reported c.in-Ok-Reported.report = search rules in
    let known = reported _ _ c.args.settings.now c.in-Ok-Reported.field-0 c.in-Ok-Reported.report eq c.in-Ok-Reported.ensures.answered in
    λ is. (
      string_bytes c.in-Ok-Reported.report.text,
      known.0 (c.status_of.ensures.done is),
      c.in-Ok.ensures.written ∙ ap (append_known _) bytes_are,
    )

pub returns-in-Ok-clause-refused : goal.returns-in-Ok-clause-refused
returns-in-Ok-clause-refused g c =
    let bytes_are : c.as_bytes.result.now ≡ string_bytes c.in-Ok-Reported.report.text = search rules in
    let eq : c.in-Ok-Reported.field-0 ≡ answers.Reported c.in-Ok-Reported.report = search rules in
    let known = reported _ _ c.args.settings.now c.in-Ok-Reported.field-0 c.in-Ok-Reported.report eq c.in-Ok-Reported.ensures.answered in
    λ is. inl (record {
      text = string_bytes c.in-Ok-Reported.report.text;
      done = known.1 (c.status_of.ensures.part is);
      printed = c.in-Ok.ensures.written ∙ ap (append_known _) bytes_are;
      noted = c.note.ensures;
    })

pub returns-clause-done : goal.returns-clause-done
returns-clause-done g c = λ is. absurd (not_both _ is c.refuse-in-Err.ensures.status)

-- a report was made, whole or in part
one_of : {Whole Part : Type 0} (is_refused : Bool) → (is_refused ≡ false → Whole) → (is_refused ≡ true → Part) → Whole ⊎ Part
one_of false whole part = inl (whole refl)
one_of true whole part = inr (part refl)

pub returns-in-Ok-Reported-clause-refused : goal.returns-in-Ok-Reported-clause-refused
returns-in-Ok-Reported-clause-refused g c =
    let eq : c.in-Ok-Reported.field-0 ≡ answers.Reported c.in-Ok-Reported.report = search rules in
    let known = reported _ _ c.args.settings.now c.in-Ok-Reported.field-0 c.in-Ok-Reported.report eq c.in-Ok-Reported.ensures.answered in
    λ is. inr (record {
      fault = c.from.result.fault;
      fault_is =
          not_printed (string_bytes c.in-Ok-Reported.report.text)
          (one_of c.in-Ok-Reported.report.is_refused known.0 known.1)
          c.in-Err-write_all.ensures.counted c.from.ensures;
      notes = printed_notes c.from.result.notes;
      printed = c.refuse.ensures.printed;
      nothing = λ same. absurd (has_grown _ _ c.in-Err-write_all.ensures.counted same);
    })

pub returns-clause-refused : goal.returns-clause-refused
returns-clause-refused g c = λ is. inr (record {
  fault = c.in-Err.refusal.fault;
  fault_is = refused_with c.in-Err.ensures.refused;
  notes = printed_notes c.in-Err.refusal.notes;
  printed = c.refuse-in-Err.ensures.printed;
  nothing = λ same. refl;
})
