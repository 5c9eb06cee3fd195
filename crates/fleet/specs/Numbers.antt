-- The numbers that commands of a capture have in a part of it, found while the capture is read.
use Rattle.std.specs.Prelude.{◌≡◌, ℕ, ◌≤◌, ◌++◌, ◌∷◌, List, [], length, map}
use Rattle.std.specs.List.{AllByRecursion}
use Rattle.wire.specs.declared.records.Sent.{Sent}
use Rattle.fleet.specs.declared.numbering.Numbering.{Numbering}
use Rattle.fleet.specs.Parts.{number_in_part, records_of_part}

-- the numbers begin at this one or later, and never fall
abbrev pub NeverFall : ℕ → List ℕ → Type 0
NeverFall least [] = Unit {0}
NeverFall least (frame ∷ frames) = (least ≤ frame) × NeverFall frame frames

-- Behind these records of the capture: the commands at the first of these frames have their numbers, and those at the others come later.
pub record AreNumbered (frames : List ℕ) (past : List Sent) (numbering : Numbering) : Type 0 where
  pub done : List ℕ
  pub left : List ℕ
  pub frames_are : frames ≡ done ++ left
  pub numbers : numbering.numbers.items ≡ map (number_in_part numbering.part.of numbering.part.lost numbering.part.number past) done
  pub later : NeverFall (length past) left
  pub passed : numbering.passed ≡ length past
  pub taken : numbering.taken ≡ length (records_of_part numbering.part.of numbering.part.lost numbering.part.number past)
  -- the numbers are those in every capture that begins so
  pub early : AllByRecursion (λ frame. frame ≤ length past) done

-- they are so behind some records
pub record IsNumbering (frames : List ℕ) (numbering : Numbering) : Type 0 where
  pub past : List Sent
  pub numbered : AreNumbered frames past numbering
