use Rattle.std.proofs.Common.{inl}
use Rattle.journals.proofs.Whole.{is_text}
use Rattle.journals.proofs.parsing.journals_of.Goals as goal

pub returns-in-Err-clause-refused : goal.returns-in-Err-clause-refused
returns-in-Err-clause-refused c =
    let bad = c.in-Err.ensures.no_text in
    (inl bad, λ journals file. bad.not_utf8 (is_text c.args.maps.now c.args.bytes.now journals file))

pub returns-in-Err-clause-only : goal.returns-in-Err-clause-only
returns-in-Err-clause-only c = λ journals file. absurd (c.in-Err.ensures.no_text.not_utf8 (is_text c.args.maps.now c.args.bytes.now journals file))
