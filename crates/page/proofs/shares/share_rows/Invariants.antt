use Rattle.std.proofs.Common.{◌≡◌, string_bytes}
use Rattle.page.specs.Shares.{share_rows}
use Rattle.page.proofs.shares.share_rows.Given as goal

abbrev pub invariant-backends : goal.invariant-backends
invariant-backends l = string_bytes l.text ≡ share_rows l.commands l.start l.last l.backend
