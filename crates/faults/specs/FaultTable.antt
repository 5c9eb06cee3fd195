-- The table of faults: the name of each number and of its fields; and the line that is printed of a fault, without its line feed.
use Rattle.std.specs.Prelude.{◌≡◌, ◌==◌, ℕ, ◌++◌, ◌∷◌, List, [], codes, decimal, if◌then◌else◌}
use Rattle.std.specs.Fmt.{signed_decimal}
use Rattle.faults.specs.declared.explanation.Explanation.{Explanation}
use Rattle.faults.specs.declared.explanation.FieldNames.{FieldNames}
use Rattle.faults.specs.declared.explanation.FieldNames.TheVariants as names
use Rattle.faults.specs.declared.fields.Fields.{Fields}
use Rattle.faults.specs.declared.fields.Fields.TheVariants as fields

-- a row of the table: a fault's number and name, and the names of its first and second field, empty where it has no such field
pub record Row : Type 0 where
  pub number : ℕ
  pub name : List ℕ
  pub first : List ℕ
  pub second : List ℕ

abbrev plain : ℕ → List ℕ → Row
plain number name = record { number = number; name = name; first = []; second = [] }

abbrev with_one : ℕ → List ℕ → List ℕ → Row
with_one number name first = record { number = number; name = name; first = first; second = [] }

abbrev with_two : ℕ → List ℕ → List ℕ → List ℕ → Row
with_two number name first second = record { number = number; name = name; first = first; second = second }

abbrev pub rows : List Row
rows =
    plain 1 (codes "BadMagic")
    ∷ plain 2 (codes "BadVersion")
    ∷ plain 3 (codes "BadLink")
    ∷ with_one 4 (codes "CutHead") (codes "record")
    ∷ with_one 5 (codes "CutFrame") (codes "record")
    ∷ with_one 6 (codes "FrameTooLong") (codes "record")
    ∷ plain 7 (codes "Device")
    ∷ plain 8 (codes "Memory")
    ∷ plain 9 (codes "ShortFrame")
    ∷ plain 10 (codes "BadHead")
    ∷ with_one 11 (codes "BadMap") (codes "map")
    ∷ plain 12 (codes "Empty")
    ∷ plain 13 (codes "NotWhole")
    ∷ plain 14 (codes "TooLong")
    ∷ with_one 15 (codes "UnknownOpcode") (codes "slot")
    ∷ with_one 16 (codes "NotInProfile") (codes "slot")
    ∷ with_one 17 (codes "BadRegister") (codes "slot")
    ∷ with_one 18 (codes "FieldNotZero") (codes "slot")
    ∷ with_one 19 (codes "WideCut") (codes "slot")
    ∷ plain 20 (codes "Memory")
    ∷ with_one 21 (codes "BadLine") (codes "line")
    ∷ with_one 22 (codes "Image") (codes "decode")
    ∷ plain 23 (codes "Memory")
    ∷ with_one 30 (codes "JumpBackward") (codes "slot")
    ∷ with_one 31 (codes "JumpOutside") (codes "slot")
    ∷ with_one 32 (codes "JumpIntoWide") (codes "slot")
    ∷ with_one 33 (codes "FallsOff") (codes "slot")
    ∷ with_one 34 (codes "Unreachable") (codes "slot")
    ∷ with_two 35 (codes "UnsetRegister") (codes "slot") (codes "register")
    ∷ with_two 36 (codes "WrongKind") (codes "slot") (codes "register")
    ∷ with_one 37 (codes "PacketBounds") (codes "slot")
    ∷ with_one 38 (codes "StackBounds") (codes "slot")
    ∷ with_one 39 (codes "StackUnset") (codes "slot")
    ∷ with_one 40 (codes "ValueBounds") (codes "slot")
    ∷ with_one 41 (codes "Misaligned") (codes "slot")
    ∷ with_one 42 (codes "ContextAccess") (codes "slot")
    ∷ with_one 43 (codes "ReadOnlyFp") (codes "slot")
    ∷ with_one 44 (codes "UnknownHelper") (codes "slot")
    ∷ with_two 45 (codes "BadArgument") (codes "slot") (codes "register")
    ∷ with_one 46 (codes "PointerLeak") (codes "slot")
    ∷ with_one 47 (codes "UnknownMap") (codes "slot")
    ∷ plain 48 (codes "Memory")
    ∷ with_one 49 (codes "NotArrayMap") (codes "slot")
    ∷ with_one 50 (codes "JournalFull") (codes "shard")
    ∷ plain 51 (codes "BadOptions")
    ∷ plain 52 (codes "Memory")
    ∷ with_two 53 (codes "Illegal") (codes "shard") (codes "place")
    ∷ plain 54 (codes "PassTaken")
    ∷ with_one 55 (codes "BadJournalFile") (codes "line")
    ∷ plain 56 (codes "NoThread")
    ∷ with_one 60 (codes "JournalFull") (codes "shard")
    ∷ plain 70 (codes "NoBackend")
    ∷ plain 71 (codes "Twice")
    ∷ plain 72 (codes "TooMany")
    ∷ plain 73 (codes "BadSize")
    ∷ plain 74 (codes "Memory")
    ∷ plain 80 (codes "TtlZero")
    ∷ plain 81 (codes "TooLong")
    ∷ plain 82 (codes "NoRoom")
    ∷ plain 83 (codes "NotPlainIpv4")
    ∷ with_one 90 (codes "BadLine") (codes "line")
    ∷ plain 91 (codes "UnknownBackend")
    ∷ plain 92 (codes "BackendTwice")
    ∷ with_one 93 (codes "Refused") (codes "answer")
    ∷ plain 94 (codes "JournalFull")
    ∷ plain 95 (codes "Memory")
    ∷ []

-- the row of a number in a list; a number that is none of a fault has no name
abbrev pub row_in : List Row → ℕ → Row
row_in [] number = plain number []
row_in (row ∷ others) number = if row.number == number then row else row_in others number

abbrev pub row_of : ℕ → Row
row_of number = row_in rows number

abbrev pub first_name : FieldNames → List ℕ
first_name names.Empty = []
first_name (names.One first) = first.now
first_name (names.Two first second) = first.now

abbrev pub second_name : FieldNames → List ℕ
second_name names.Empty = []
second_name (names.One first) = []
second_name (names.Two first second) = second.now

-- the row of the program's table has the number, and the names of the number
pub record IsRowOf (number : ℕ) (row : Explanation) : Type 0 where
  pub number_is : row.number ≡ number
  pub name_is : row.name.now ≡ (row_of number).name
  pub first_is : first_name row.fields ≡ (row_of number).first
  pub second_is : second_name row.fields ≡ (row_of number).second

-- a field: its name and its number
abbrev pub field_text : List ℕ → List ℕ → List ℕ
field_text name number = codes " " ++ (name ++ (codes " " ++ number))

-- a fault's name, and its fields behind it
abbrev pub named_text : Row → Fields → List ℕ
named_text row fields.Empty = row.name
named_text row (fields.One first) = row.name ++ field_text row.first (decimal first)
named_text row (fields.Two first second) =
    row.name ++ field_text row.first (decimal first ++ field_text row.second (decimal second))
named_text row (fields.Signed first) = row.name ++ field_text row.first (signed_decimal first)

-- the line of a fault of this number: the number, its name, and each field by its name and its number
abbrev pub line_of_fault : ℕ → Fields → List ℕ
line_of_fault number fields = codes "fault " ++ (decimal number ++ (codes " " ++ named_text (row_of number) fields))
