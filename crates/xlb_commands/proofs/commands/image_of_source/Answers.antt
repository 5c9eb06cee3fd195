use Rattle.std.proofs.Common.{◌∙◌, ap}
use Rattle.disasm.specs.declared.fault.AsmFault.{AsmFault}
use Rattle.xlb_commands.specs.declared.fault.Fault.TheVariants.{Text}
use Rattle.std.proofs.Common.{rules}
use Rattle.std.specs.Prelude.{IsUtf8}
use Rattle.source_form.specs.SourceImage.{ExplainsSource}
use Rattle.xlb_commands.specs.Refused.{no_utf8_source, no_meaning}
use Rattle.xlb_commands.proofs.commands.image_of_source.Goals as goal

pub returns-in-Err-clause-refused : goal.returns-in-Err-clause-refused
returns-in-Err-clause-refused c =
    let n = c.in-Err.ensures.no_text in
    no_utf8_source n.0 n.1 (c.refused_text.ensures ∙ ap (λ (why : AsmFault). Text why) n.2)

pub returns-in-Err-assemble_source-clause-refused : goal.returns-in-Err-assemble_source-clause-refused
returns-in-Err-assemble_source-clause-refused c =
    let is_text : IsUtf8 c.args.bytes.now = search rules in
    let explained : ExplainsSource c.args.bytes.now c.in-Err-assemble_source.fault = search rules in
    no_meaning c.in-Err-assemble_source.fault is_text explained c.refused_source.ensures
