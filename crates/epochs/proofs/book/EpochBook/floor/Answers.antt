use Rattle.epochs.proofs.Counting.{floor_decides}
use Rattle.epochs.proofs.book.EpochBook.floor.Goals as goal

pub returns-clause-exact : goal.returns-clause-exact
returns-clause-exact c = rw (← c.self.view_is) (floor_decides (record { present = c.self.inside.present; parts = c.self.inside.parts }) c.lowest.result c.lowest.ensures)
