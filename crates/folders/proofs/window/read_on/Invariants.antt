use Rattle.std.proofs.Common.{◌≡◌, ◌+◌, ◌-◌, ◌≤◌, ◌↔◌, ℕ, List, length, take}
use Rattle.folders.specs.Filling.{IsFilled}
use Rattle.folders.proofs.window.read_on.Given as goal

pub record Filling (g : goal.Over) (l : goal.Live-filling g) : Type 0 where
  pub filled : IsFilled (g.D.Folder.is_left l.initial.folder) (g.D.Folder.is_left l.folder) (take l.end l.initial.bytes) (take l.all l.bytes)
  pub grown : l.end ≤ l.all
  pub within : l.all ≤ length l.bytes
  pub fewer : l.all + g.D.Folder.most_left l.folder ≤ l.end + g.D.Folder.most_left l.initial.folder
  pub kept : (name held : List ℕ) → (g.D.Folder.holds l.initial.folder name held ↔ g.D.Folder.holds l.folder name held)
  pub begun_kept : (name held : List ℕ) → (g.D.Folder.is_begun l.initial.folder name held ↔ g.D.Folder.is_begun l.folder name held)
  pub steady : g.D.Folder.failure_count l.folder ≡ g.D.Folder.failure_count l.initial.folder

abbrev pub invariant-filling : goal.invariant-filling
invariant-filling g l = Filling g l

abbrev pub decreases-filling : goal.decreases-filling
decreases-filling g l = l.least - l.all
