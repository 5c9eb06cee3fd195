use Rattle.std.proofs.Common.{◌≡◌, ◌≤◌, ◌+◌, ◌++◌, ℕ, [], string_bytes}
use Rattle.xlb_commands.specs.BackendsUp.{up_before}
use Rattle.xlb_commands.specs.RecordReports.{lines_until, sent_before}
use Rattle.xlb_commands.proofs.record_report.Lines.put_all.Given as goal

abbrev pub invariant-records : goal.invariant-records
invariant-records l =
    (string_bytes l.text ≡ string_bytes l.fn.text ++
    lines_until l.self.form l.self.is_shipped l.self.script.now l.first l.records l.ends l.self.sent.now l.number)
    × (l.place ≡ sent_before l.ends l.number) × (l.place ≤ l.number)
    × ((n : ℕ) → l.first + l.number ≤ n → up_before n l.up.items l.later ≡ up_before n [] l.self.script.now)
