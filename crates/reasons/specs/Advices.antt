-- What is printed of a cause: the numbers that the rule is about, the rule and the remedy.
use Rattle.std.specs.Prelude.{◌≡◌, ℕ, ◌==◌, List, [], ◌++◌, codes, decimal, if◌then◌else◌}
use Rattle.abstract_state.specs.declared.kind.Kind.{Kind}
use Rattle.reasons.specs.Wording.{kind_text}
use Rattle.reasons.specs.declared.cause.Cause.{Cause}
use Rattle.reasons.specs.declared.cause.Cause.TheVariants.{ClearedByCall, LeftUnset, PathsDisagree, NoTestShows, ComparedForFewer}
use Rattle.reasons.specs.declared.cause.Cause.TheVariants.{PacketOffsetUnknown, OutsideValue, ValuePointerLeaves, AddressPastValue}
use Rattle.reasons.specs.declared.cause.Cause.TheVariants.{StackMisaligned, ValueMisaligned, NoMap}

abbrev pub size_text : ℕ → List ℕ
size_text size = codes "the value has " ++ (decimal size ++ codes " bytes: ")

abbrev pub access_text : ℕ → List ℕ
access_text size = decimal size ++ codes " bytes wide: "

abbrev pub slot_text : ℕ → List ℕ
slot_text slot = codes "slot " ++ (decimal slot ++ codes ": ")

unfoldable pub meeting_text : ℕ → List ℕ
meeting_text slot = codes "they meet at slot " ++ (decimal slot ++ codes ": ")

unfoldable pub from_text : ℕ → List ℕ
from_text from = codes "slot " ++ (decimal from ++ codes " brings ")

-- what an instruction brings of a register
unfoldable pub brought_text : ℕ → Kind → List ℕ
brought_text from kind = from_text from ++ (kind_text kind ++ codes ", ")

abbrev pub unit_text : ℕ → List ℕ
unit_text bytes = if bytes == 1 then codes "byte" else codes "bytes"

unfoldable pub count_text : ℕ → List ℕ
count_text bytes = codes "needs " ++ (decimal bytes ++ (codes " " ++ unit_text bytes))

-- what the bytes of the packet count from
unfoldable pub base_text : ℕ → List ℕ
base_text base = if base == 0 then codes " from the packet's start" else codes " from the sum of slot " ++ decimal base

-- and where the register is, if not there
unfoldable pub standing_text : ℕ → List ℕ
standing_text stands = if stands == 0 then [] else codes " (the register is at +" ++ (decimal stands ++ codes ")")

-- how many bytes an access needs
unfoldable pub bytes_text : ℕ → ℕ → ℕ → List ℕ
bytes_text base stands bytes = count_text bytes ++ (base_text base ++ standing_text stands)

unfoldable pub known_text : ℕ → List ℕ
known_text known = codes ", known " ++ (decimal known ++ codes ": ")

unfoldable pub need_text : Cause → List ℕ
need_text (NoTestShows base stands bytes) = bytes_text base stands bytes ++ codes ": "
need_text (ComparedForFewer base stands bytes known) = bytes_text base stands bytes ++ known_text known
need_text (PacketOffsetUnknown high) = codes "the number may be up to " ++ (decimal high ++ codes ": ")
need_text (OutsideValue size) = size_text size
need_text (ValuePointerLeaves size) = size_text size
need_text (AddressPastValue size) = size_text size
need_text (StackMisaligned size) = access_text size
need_text (ValueMisaligned size) = access_text size
need_text (ClearedByCall slot) = slot_text slot
need_text (LeftUnset slot) = slot_text slot
need_text (PathsDisagree slot first one second other) = brought_text first one ++ (brought_text second other ++ meeting_text slot)
need_text (NoMap count) = codes "the image has " ++ (decimal count ++ codes " maps: ")
need_text cause = []

unfoldable pub advice_text : Cause → List ℕ → List ℕ → List ℕ
advice_text cause rule remedy = codes "  " ++ (need_text cause ++ (rule ++ (codes "\n  remedy: " ++ (remedy ++ codes "\n"))))

-- the lines, and below them the rule of the cause and the remedy, whose words are those of the table
pub record IsAdvised (lines : List ℕ) (cause : Cause) (text : List ℕ) : Type 0 where
  pub rule : List ℕ
  pub remedy : List ℕ
  pub told : text ≡ lines ++ advice_text cause rule remedy
