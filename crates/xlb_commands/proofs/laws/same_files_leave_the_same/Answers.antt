use Rattle.xlb_commands.proofs.SameFolders.{same_files_leave_the_same}
use Rattle.xlb_commands.proofs.laws.same_files_leave_the_same.Goals as goal

pub returns : goal.returns
returns g c =
    same_files_leave_the_same g.D.Folder.holds c.one_encoding.ensures.one_image c.one_script.ensures c.exact_replays_write_the_same.ensures
