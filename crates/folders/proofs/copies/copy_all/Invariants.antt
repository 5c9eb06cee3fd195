use Rattle.folders.proofs.copies.copy_all.Given as goal

abbrev pub decreases-copying : goal.decreases-copying
decreases-copying g l = l.room
