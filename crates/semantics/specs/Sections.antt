-- What a call does to its worker's read-side section.
use Rattle.semantics.specs.declared.call.Call.{Call}
use Rattle.semantics.specs.declared.call.Call.TheVariants.{Enter, Leave}
use Rattle.semantics.specs.declared.call.SectionChange.{SectionChange}
use Rattle.semantics.specs.declared.call.SectionChange.TheVariants.{Begins, Ends, Stays}

-- an Enter begins its worker's section, a Leave ends it
abbrev pub section_change : Call → SectionChange
section_change (Enter shard) = Begins
section_change (Leave shard) = Ends
section_change call = Stays
