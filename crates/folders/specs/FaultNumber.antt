-- The number of each fault, as its text prints it.
use Rattle.std.specs.Prelude.{ℕ}
use Rattle.folders.specs.declared.folder.FolderFault.{FolderFault}
use Rattle.folders.specs.declared.folder.FolderFault.TheVariants.{Device, Memory}

abbrev pub folder_fault_number : FolderFault → ℕ
folder_fault_number Device = 7
folder_fault_number Memory = 8
