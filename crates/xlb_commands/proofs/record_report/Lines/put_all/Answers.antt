use Rattle.std.proofs.Common.{arith, rules, ◌≡◌, ◌∙◌, ◌<◌, ◌≤◌, ◌+◌, ◌++◌, ℕ, zero, suc, Bool, List, [], ◌∷◌, Some, ap, ap₂, refl, sym, length, get_or, append_assoc, add-one, string_bytes}
use Rattle.std.specs.Prelude.{slice_get}
use Rattle.wire.specs.declared.records.Sent.{Sent}
use Rattle.control.specs.declared.command.Command.{Command}
use Rattle.traffic.specs.Counting.{one_if}
use Rattle.traffic.specs.declared.record_line.ReportForm.{ReportForm}
use Rattle.actors.specs.declared.outcome.ToldEnd.{ToldEnd}
use Rattle.xlb_commands.specs.RecordReports.{end_of, is_sent, is_tx, line_of_record, line_text, lines_until, sent_before, verdict_in}
use Rattle.xlb_commands.proofs.record_report.Lines.put_all.Goals.{then-is_tx, else-is_tx}
use Rattle.xlb_commands.proofs.record_report.Lines.put_all.Goals as goal

-- a member inside a list is what is found at its place, whatever is found at places outside
member_at : {A : Type 0} (xs : List A) (place : ℕ) (x : A) → place < length xs → x ≡ get_or xs place x → slice_get xs place ≡ Some x
member_at [] place x inside is = absurd (omega arith)
member_at (y ∷ ys) zero x inside is = ap (λ (it : _). Some it) (sym is)
member_at (y ∷ ys) (suc place) x inside is = member_at ys place x (omega arith) is

module _ (form : ReportForm) (is_shipped : Bool) (script : List Command) (first : ℕ) (records : List Sent) (ends : List ToldEnd)
    (sent : List Sent) where
  -- a text with the lines so far, and one more
  one_line : (number place : ℕ) (captured : Sent) (end : ToldEnd) (old before line after : List ℕ) → slice_get records number ≡ Some captured
      → end ≡ end_of ends number → place ≡ sent_before ends number → before ≡ old ++ lines_until form is_shipped script first records ends sent number
      → line ≡ line_text form is_shipped script (first + number) captured end (slice_get sent place) → after ≡ before ++ line
      → after ≡ old ++ lines_until form is_shipped script first records ends sent (number + 1)
  one_line number place captured end old before line after found end_is place_is were is_line put =
      let same : line ≡ line_of_record form is_shipped script first ends sent number (slice_get records number) =
      is_line
      ∙ (ap (λ (it : ToldEnd). line_text form is_shipped script (first + number) captured it (slice_get sent place)) end_is
      ∙ (ap (λ (it : ℕ). line_text form is_shipped script (first + number) captured (end_of ends number) (slice_get sent it)) place_is
      ∙ ap (λ (it : _). line_of_record form is_shipped script first ends sent number it) (sym found))) in
      put ∙ (ap₂ (◌++◌) were same
      ∙ (append_assoc old (lines_until form is_shipped script first records ends sent number) _
      ∙ ap (λ (n : ℕ). old ++ lines_until form is_shipped script first records ends sent n) (sym (add-one number))))

-- one more is sent, or none
one_place : (ends : List ToldEnd) (number place next : ℕ) (sent : Bool) → place ≡ sent_before ends number → sent ≡ is_sent (end_of ends number)
    → next ≡ place + one_if sent → next ≡ sent_before ends (number + 1)
one_place ends number place next sent place_is sent_is next_is =
    next_is ∙ (ap₂ (◌+◌) place_is (ap one_if sent_is) ∙ ap (λ (n : ℕ). sent_before ends n) (sym (add-one number)))

pub records-preserved : goal.records-preserved
records-preserved c =
    let inside : c.records.number < length c.args.records.now = omega (arith, c.records-test.true, c.records.auto.number-end) in
    let next_is : c.if-is_tx.place ≡ c.records.place + one_if c.is_tx.result =
    elim c.if-is_tx.branch [
      | then-is_tx w ↦ let one : one_if c.is_tx.result ≡ 1 = ap one_if w.if-is_tx.true in omega (arith, one, w.place-is)
      | else-is_tx w ↦ let none : one_if c.is_tx.result ≡ 0 = ap one_if w.if-is_tx.false in omega (arith, none, w.place-is)
    ] in
    let few : c.if-is_tx.place ≤ c.records.number + 1 =
    elim c.if-is_tx.branch [
      | then-is_tx w ↦ omega (arith, w.place-is, c.records.invariant.2)
      | else-is_tx w ↦ omega (arith, w.place-is, c.records.invariant.2)
    ] in (
      one_line c.args.self.now.form c.args.self.now.is_shipped c.args.self.now.script.now c.args.first c.args.records.now c.args.ends.now
          c.args.self.now.sent.now c.records.number c.records.place c.index-records-number.result _ (string_bytes c.args.text.now)
          (string_bytes c.records.text) c.as_str.result.now (string_bytes c.push_str.new.self)
          (member_at c.args.records.now c.records.number c.index-records-number.result inside c.index-records-number.is)
          c.end_at-end.ensures c.records.invariant.1 c.records.invariant.0
          (c.as_str.ensures.value ∙ c.in_ok-line.ensures) c.in_ok-push_str.ensures.bytes,
      one_place c.args.ends.now c.records.number c.records.place c.if-is_tx.place c.is_tx.result c.records.invariant.1
          (c.is_tx.ensures ∙ ap is_tx (c.verdict_in.ensures ∙ ap verdict_in c.end_at-end.ensures)) next_is,
      few,
      λ n within. c.in_ok-later.ensures.further n (omega (arith, within)) ∙ c.records.invariant.3 n (omega (arith, within)),
    )

pub line-requires-clause-up : goal.line-requires-clause-up
line-requires-clause-up c =
    let place : ℕ = c.args.first + c.records.number in
    let same : c.deref.result.now ≡ c.carried_out.new.up.items = search rules in
    same ∙ (sym c.in_ok-later.ensures.done ∙ (c.in_ok-later.ensures.further place (omega arith) ∙ c.records.invariant.3 place (omega arith)))
