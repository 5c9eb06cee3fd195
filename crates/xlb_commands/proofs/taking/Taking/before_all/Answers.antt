use Rattle.std.proofs.Common.{◌∙◌, Some, ap, sym}
use Rattle.xlb_commands.specs.Parts.{command_frames}
use Rattle.xlb_commands.proofs.PartScripts.{frames_fall}
use Rattle.xlb_commands.proofs.taking.Taking.before_all.Goals as goal

pub returns-in_ok-frames-in-Some : goal.returns-in_ok-frames-in-Some
returns-in_ok-frames-in-Some c = record {
  part_is = c.in-Some.is ∙ ap Some (sym c.new-numbering.ensures.part);
  frames_are = c.in_ok-frames-in-Some.ensures;
  numbered = c.new-numbering.ensures.start (command_frames c.args.script.now) (frames_fall 0 c.args.script.now c.commands_never_fall.ensures);
}
