use Rattle.std.proofs.Common.{◌≡◌, map, length, string_bytes}
use Rattle.std.specs.Str.{trim}
use denote.Text.{Utf8}
use denote.Shadow.{shadow}
use Rattle.source_form.specs.SourceText.{parts_at, operands_meaning}
use Rattle.source_form.proofs.operands.operands_text.Given as goal

abbrev pub invariant-operands : goal.invariant-operands
invariant-operands l = shadow (Utf8 l.rest) × (operands_meaning (map (λ s. s.now) l.statements) l.place l.form (string_bytes l.out) (map trim (parts_at 44 l.rest))
    ≡ operands_meaning (map (λ s. s.now) l.fn.statements) l.fn.place l.fn.form (string_bytes l.fn.so_far) (map trim (parts_at 44 l.fn.list)))

abbrev pub decreases-operands : goal.decreases-operands
decreases-operands l = length l.rest
