use Rattle.std.proofs.Common.{◌≡◌, ◌∙◌, ◌++◌, ◌↔◌, inl, inr, Bool, false, ℕ, List, [], ap, subst, sym}
use Rattle.std.proofs.lemmas.Result.{err_from_is_err_and}
use Rattle.journals.specs.JournalsView.{JournalsView}
use Rattle.journals.specs.JournalText.{journals_text}
use Rattle.journals.specs.FileJournals.{ReadBackWhereLegal}
use Rattle.journals.specs.LegalJournals.{AreLegal}
use Rattle.machine.specs.Running.{program_of}
use Rattle.actors.specs.declared.outcome.Applied.{Applied}
use Rattle.actors.specs.declared.outcome.Outcome.{Outcome}
use Rattle.actors.specs.declared.account.Counts.{Counts}
use Rattle.actors.specs.Accounts.{frames_in}
use Rattle.semantics.specs.ShardPlan.{KeepsRows, recorded, room_for}
use Rattle.semantics.specs.declared.options.Recording.{Recording}
use Rattle.semantics.specs.declared.options.Options.{Options}
use Rattle.command_line.specs.Reading.{text_of}
use Rattle.std.specs.List.{AllByRecursion}
use Rattle.xlb_commands.specs.Replays.{IsInTime, counts_text, refusals_text}
use Rattle.xlb_commands.specs.Refused.{no_report_room}
use Rattle.xlb_commands.specs.EndMaps.{AreMapsLines, lines_bytes}
use Rattle.xlb_commands.proofs.AcceptedJournals.{accepted_of, are_legal}
use Rattle.xlb_commands.proofs.Outcomes.{journals_fit, rule_of}
use Rattle.xlb_commands.proofs.ReaderFiles.{reader_file_is}
use Rattle.xlb_commands.proofs.in_pieces.left_in_pieces.Goals as goal

text_is : (text : List ℕ) (rest whole : Outcome) (refused : List Applied) → whole.counts ≡ rest.counts → whole.refused.items ≡ refused
    → text ≡ counts_text rest.counts ++ refusals_text refused → text ≡ counts_text whole.counts ++ refusals_text whole.refused.items
text_is text rest whole refused counts same is =
    is ∙ (ap (λ (c : Counts). counts_text c ++ refusals_text refused) (sym counts)
    ∙ ap (λ (r : List Applied). counts_text whole.counts ++ refusals_text r) (sym same))

none_is : (is_refused : Bool) (whole : Outcome) (refused : List Applied) → whole.refused.items ≡ refused → ((refused ≡ []) ↔ (is_refused ≡ false))
    → ((whole.refused.items ≡ []) ↔ (is_refused ≡ false))
none_is is_refused whole refused same none = ((λ e. none.0 (sym same ∙ e)), (λ done. same ∙ none.1 done))

pub journal_bytes-requires : goal.journal_bytes-requires
journal_bytes-requires c = λ file named.
    let asked = c.args.asked in
    let going = c.requires.underway in
    let replayed = c.in_ok-outcome.ensures.replayed (program_of asked.verified.now asked.options.shards) (recorded asked.recording asked.options)
    going.records going.sent going.ends going.underway in
    subst (λ (j : JournalsView). KeepsRows j.options.journal) replayed.is_whole.journals
    (subst (λ (o : Options). KeepsRows o.journal) (sym replayed.exact.accounted.options_are)
    (subst (λ (r : Recording). KeepsRows (room_for r asked.options.journal)) (sym (c.requires.consistent.rows file named)) c.requires.served))

pub maps_lines-requires : goal.maps_lines-requires
maps_lines-requires c =
    let asked = c.args.asked in
    let options : Options = recorded asked.recording asked.options in
    let program = program_of asked.verified.now asked.options.shards in
    let going = c.requires.underway in
    let replayed = c.in_ok-outcome.ensures.replayed program options going.records going.sent going.ends going.underway in
    subst AreLegal replayed.is_whole.journals (are_legal program asked.script.now options going.records replayed.whole replayed.exact.accounted)

pub text_of_pieces-requires : goal.text_of_pieces-requires
text_of_pieces-requires c =
    let asked = c.args.asked in
    let options : Options = recorded asked.recording asked.options in
    let program = program_of asked.verified.now asked.options.shards in
    let going = c.requires.underway in
    let replayed = c.in_ok-outcome.ensures.replayed program options going.records going.sent going.ends going.underway in
    subst AreLegal replayed.is_whole.journals (are_legal program asked.script.now options going.records replayed.whole replayed.exact.accounted)

pub replayed-requires : goal.replayed-requires
replayed-requires c =
    let asked = c.args.asked in
    let going = c.requires.underway in
    let replayed = c.in_ok-outcome.ensures.replayed (program_of asked.verified.now asked.options.shards) (recorded asked.recording asked.options)
    going.records going.sent going.ends going.underway in
    c.taken-frames.ensures ∙ (going.underway.taken ∙ (sym replayed.exact.accounted.each_once ∙ ap frames_in replayed.is_whole.counts))

pub returns-in_err-outcome-clause-refused : goal.returns-in_err-outcome-clause-refused
returns-in_err-outcome-clause-refused c =
    let p = err_from_is_err_and c.from_residual.result c.from_residual.ensures.1 in
    rw (p.1, p.2) (inl c.in_err-outcome.ensures.refused)

pub returns-in_err-journals-clause-refused : goal.returns-in_err-journals-clause-refused
returns-in_err-journals-clause-refused c =
    let asked = c.args.asked in
    let options : Options = recorded asked.recording asked.options in
    let program = program_of asked.verified.now asked.options.shards in
    let p = err_from_is_err_and c.from_residual-in_err-journals.result c.from_residual-in_err-journals.ensures.1 in
    rw (p.1, p.2)
    (inr (
      (λ records sent ends under.
          let replayed = c.in_ok-outcome.ensures.replayed program options records sent ends under in (
            replayed.whole,
            record {
              updates_are = replayed.is_whole.updates ∙ c.in_ok-outcome.ensures.updates;
              accounted = replayed.exact.accounted;
              in_turn = λ exact. replayed.exact.in_order;
            },
          )),
      c.in_err-journals.ensures.refused,
    ))

pub returns-in_err-maps-clause-refused : goal.returns-in_err-maps-clause-refused
returns-in_err-maps-clause-refused c =
    let asked = c.args.asked in
    let options : Options = recorded asked.recording asked.options in
    let program = program_of asked.verified.now asked.options.shards in
    let p = err_from_is_err_and c.from_residual-in_err-maps.result c.from_residual-in_err-maps.ensures.1 in
    rw p.1
    (inr (
      (λ records sent ends under.
          let replayed = c.in_ok-outcome.ensures.replayed program options records sent ends under in (
            replayed.whole,
            record {
              updates_are = replayed.is_whole.updates ∙ c.in_ok-outcome.ensures.updates;
              accounted = replayed.exact.accounted;
              in_turn = λ exact. replayed.exact.in_order;
            },
          )),
      no_report_room p.2,
    ))

pub returns-in_err-report-clause-refused : goal.returns-in_err-report-clause-refused
returns-in_err-report-clause-refused c =
    let asked = c.args.asked in
    let options : Options = recorded asked.recording asked.options in
    let program = program_of asked.verified.now asked.options.shards in
    let p = err_from_is_err_and c.from_residual-in_err-report.result c.from_residual-in_err-report.ensures.1 in
    rw p.1
    (inr (
      (λ records sent ends under.
          let replayed = c.in_ok-outcome.ensures.replayed program options records sent ends under in (
            replayed.whole,
            record {
              updates_are = replayed.is_whole.updates ∙ c.in_ok-outcome.ensures.updates;
              accounted = replayed.exact.accounted;
              in_turn = λ exact. replayed.exact.in_order;
            },
          )),
      no_report_room p.2,
    ))

pub returns-clause-left : goal.returns-clause-left
returns-clause-left c = λ records sent ends under captured.
    let asked = c.args.asked in
    let options : Options = recorded asked.recording asked.options in
    let program = program_of asked.verified.now asked.options.shards in
    let listed = c.in_ok-outcome.ensures.one_list options records sent ends captured under in
    let whole = listed.whole in
    let is = listed.is_whole in
    let updated : whole.updates.items ≡ asked.updates.now = is.updates ∙ c.in_ok-outcome.ensures.updates in
    let account = listed.in_turns.exact.accounted in
    record {
      whole = whole;
      sent_are = is.sent_are;
      ends_are = is.ends_are;
      made = record { updates_are = updated; accounted = account; in_turn = λ exact. listed.in_turns.exact.in_order };
      listed = record { kept = listed.in_turns.listed.kept; in_turns = λ exact. listed.in_turns.listed.in_turns };
      by_rule = λ none. rule_of (text_of asked.files.now.image) asked.ring program asked.script.now options records whole account
          (λ shipped.
          let steered = c.steered_where_shipped.ensures.steered shipped asked.script.now options records whole under.options_fit captured account in
          record {
            runs = steered;
            stay = c.steered_where_shipped.ensures.stay asked.ring program asked.script.now options records whole account steered;
            totals = λ unstopped. c.steered_where_shipped.ensures.totals shipped asked.script.now options records whole under.options_fit
                captured account (updated ∙ none) unstopped;
            tables = λ roomy. c.steered_where_shipped.ensures.tables shipped asked.script.now options records whole under.options_fit
                captured account (updated ∙ none) roomy;
            services = λ roomy. c.steered_where_shipped.ensures.services shipped asked.script.now options records whole under.options_fit
                captured account (updated ∙ none) roomy;
          });
      readers = λ none reads no_commands unstopped. reader_file_is asked.verified.now.maps asked.verified.now.code asked.script.now options records whole
          (c.readers_send_alike.ensures.sends reads)
          (journals_fit program asked.script.now options records whole under.options_fit account) captured account (updated ∙ none) no_commands unstopped;
      journals_are = λ file named. c.in_ok-journals.ensures.bytes file named ∙ ap journals_text (sym is.journals);
      accepted = λ file named. accepted_of program asked.script.now options records whole account
          (subst ReadBackWhereLegal (sym is.journals) (c.journal_bytes.ensures.reads_back file named));
      text = text_is _ c.in_ok-outcome.outcome whole c.deref.result.now is.counts (is.refused ∙ sym c.deref.ensures.value) c.in_ok-report.ensures.text;
      none_refused = none_is _ whole c.deref.result.now (is.refused ∙ sym c.deref.ensures.value) c.in_ok-report.ensures.refused;
      all = λ none_left. record {
        none_stopped = ap (λ (counts : Counts). counts.stopped) is.counts ∙ (c.in_ok-report.ensures.all none_left).0;
        in_time = subst (λ (count : ℕ). AllByRecursion (IsInTime count) asked.script.now) (c.taken-frames.ensures ∙ under.taken)
            (c.is_left_out-left_out.ensures (c.in_ok-report.ensures.all none_left).1);
      };
      maps_are = subst (λ (j : JournalsView). AreMapsLines (text_of asked.files.now.maps) j (lines_bytes c.in_ok-report.report.maps)) (sym is.journals)
          (subst (λ (lines : List ℕ). AreMapsLines (text_of asked.files.now.maps) c.in_ok-outcome.outcome.journals lines) (sym (ap lines_bytes c.in_ok-report.ensures.maps))
          c.in_ok-maps.ensures);
    }
