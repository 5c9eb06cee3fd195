use Rattle.std.proofs.Common.{◌≡◌, ℕ, List, Option, None, ap, subst, sym}
use Rattle.std.proofs.lemmas.Result.{IfOk-weaker}
use Rattle.ebpf_decode.specs.ImageContents.{Contents}
use Rattle.steer.specs.ShippedProgram.{sized_image}
use Rattle.command_line.specs.Reading.{text_of}
use Rattle.xlb_commands.specs.Files.{FileBytes}
use Rattle.xlb_commands.specs.Replays.{IsProgramOf}
use Rattle.xlb_commands.proofs.replays.program_of.Goals as goal

-- where no image is named, the program is the shipped one
shipped_where_none : (files : FileBytes) (name : Option (List ℕ)) (flows ring : ℕ) (image : Contents) → name ≡ None → image ≡ sized_image flows ring →
    IsProgramOf files name flows ring image
shipped_where_none files name flows ring image none is = subst (λ (other : Option (List ℕ)). IsProgramOf files other flows ring image) (sym none) is

pub returns-in-None-clause-program : goal.returns-in-None-clause-program
returns-in-None-clause-program g c =
    IfOk-weaker c.shipped_program.result _ _
    (λ verified is.
    shipped_where_none (g.D.Folder.holds c.args.folder.now) (text_of c.args.image) c.args.flows c.args.ring _ (ap text_of c.in-None.is) is)
    c.shipped_program.ensures.image
