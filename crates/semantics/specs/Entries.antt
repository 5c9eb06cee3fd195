-- What happened, one thing after the other: the type of a list says in which direction it goes.
use Rattle.std.specs.Prelude.{List}
use Rattle.semantics.specs.declared.call.Entry.{Entry}

-- as recursions over what has happened go: what came last stands first
abbrev pub NewestFirst : Type 0 → Type 0
NewestFirst A = List A

-- what happened on a shard
abbrev pub History : Type 0
History = NewestFirst Entry

-- the same as it is written down, the oldest entry first
abbrev pub Journal : Type 0
Journal = List Entry
