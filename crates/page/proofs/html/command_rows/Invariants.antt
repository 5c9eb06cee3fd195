use Rattle.std.proofs.Common.{◌≡◌, string_bytes}
use Rattle.page.specs.Html.{command_rows}
use Rattle.page.proofs.html.command_rows.Given as goal

abbrev pub invariant-commands : goal.invariant-commands
invariant-commands l = string_bytes l.text ≡ command_rows l.moments l.last l.commands l.place
