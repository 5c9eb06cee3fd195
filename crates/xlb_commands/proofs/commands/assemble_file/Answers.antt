use Rattle.std.proofs.Common.{ℕ, List, subst}
use Rattle.std.proofs.lemmas.Result.{IfErr-weaker}
use Rattle.xlb_commands.specs.Refused.{SpellsNone, no_image_file, no_spelling}
use Rattle.xlb_commands.specs.Results.{SpellsImage}
use Rattle.xlb_commands.proofs.Refusals.{unwritten_since, failed_since}
use Rattle.xlb_commands.proofs.commands.assemble_file.Goals as goal

pub returns-in-Ok-clause-refused : goal.returns-in-Ok-clause-refused
returns-in-Ok-clause-refused g c =
    let spelled = subst (λ (text : List ℕ). SpellsImage c.args.in_source_form text c.in-Ok.image) c.deref.ensures.value c.in-Ok.ensures.found in
    IfErr-weaker c.write_image.result _ _
    (λ refusal unwritten.
    no_image_file c.in_ok-bytes.bytes.items c.in-Ok.image c.in_ok-bytes.ensures.bytes spelled
    (unwritten_since _ _ _ (failed_since _ _ _ c.in_ok-bytes.ensures.steady) unwritten))
    c.write_image.ensures.refused

pub returns-clause-refused : goal.returns-clause-refused
returns-clause-refused g c =
    let none = subst (λ (text : List ℕ). SpellsNone c.args.in_source_form text c.in-Err.refusal.fault) c.deref.ensures.value c.in-Err.ensures.refused in
    no_spelling c.in_ok-bytes.bytes.items c.in_ok-bytes.ensures.kept c.in_ok-bytes.ensures.bytes none
