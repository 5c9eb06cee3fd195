use Rattle.std.proofs.Common.{◌≡◌, ◌+◌, ◌*◌, ◌≤◌, ◌↔◌, ℕ, List, length}
use Rattle.folders.specs.AlteredReading.{AreStillRead}
use Rattle.folders.specs.Filling.{IsFilled}
use Rattle.folders.proofs.altering.Altering.fill.Given as goal

-- what was read so far
pub record Filling (g : goal.Over) (l : goal.Live-records g) : Type 0 where
  pub filled : IsFilled (AreStillRead l.fn.self (g.D.Folder.is_left l.fn.folder)) (AreStillRead l.self (g.D.Folder.is_left l.folder)) l.fn.window l.window
  pub reading : l.self.reading ≡ l.fn.self.reading
  pub fewer : length l.window + 129 * (length l.self.raw + g.D.Folder.most_left l.folder)
      ≤ length l.fn.window + 129 * (length l.fn.self.raw + g.D.Folder.most_left l.fn.folder)
  pub kept : (name held : List ℕ) → (g.D.Folder.holds l.fn.folder name held ↔ g.D.Folder.holds l.folder name held)
  pub begun_kept : (name held : List ℕ) → (g.D.Folder.is_begun l.fn.folder name held ↔ g.D.Folder.is_begun l.folder name held)
  pub steady : g.D.Folder.failure_count l.folder ≡ g.D.Folder.failure_count l.fn.folder

abbrev pub invariant-records : goal.invariant-records
invariant-records g l = Filling g l

abbrev pub decreases-records : goal.decreases-records
decreases-records g l = length l.self.raw + g.D.Folder.most_left l.folder
