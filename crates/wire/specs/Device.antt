-- What is known of the bytes that a device returns or holds: all of them, or nothing.
use Rattle.std.specs.Prelude.{◌≡◌, ℕ, List, ◌++◌, Option, Some, None, ⊤}
use Rattle.std.specs.Io.KnownBytes.{append_known}

-- the bytes, where they are known, are these
abbrev pub KnownAre : Option (List ℕ) → List ℕ → Type 0
KnownAre None bytes = ⊤
KnownAre (Some known) bytes = bytes ≡ known

-- the fact holds of the bytes, where they are known
abbrev pub IfKnown : Option (List ℕ) → (List ℕ → Type 0) → Type 0
IfKnown None fact = ⊤
IfKnown (Some known) fact = fact known

-- known bytes grew by a front of these
pub record AppendsFront (old new : Option (List ℕ)) (bytes : List ℕ) : Type 0 where
  pub front : List ℕ
  pub back : List ℕ
  pub parts : bytes ≡ front ++ back
  pub appended : new ≡ append_known old front

-- what a contract sees of a sink in memory: its bytes, and how many calls failed
pub record SinkView : Type 0 where
  pub bytes : List ℕ
  pub failures : ℕ
