-- What is known of a register and of a word of the stack, in words.
use Rattle.std.specs.Prelude.{ℕ, ◌-◌, ◌==◌, Bool, true, false, List, [], ◌++◌, codes, decimal, if◌then◌else◌}
use Rattle.std.specs.List.{flat_map}
use Rattle.abstract_state.specs.declared.kind.Kind.{Kind}
use Rattle.abstract_state.specs.declared.kind.Kind.TheVariants.{Unset, Scalar, Ctx, Stack, Packet, PacketEnd, Map, ValueOrNull, Value}
use Rattle.abstract_state.specs.declared.kind.Offsets.{Offsets}
use Rattle.abstract_state.specs.declared.kind.StackWord.{StackWord}
use Rattle.abstract_state.specs.declared.kind.StackWord.TheVariants.{Spilled, Bytes}

-- a number, or the least and the greatest of several
unfoldable pub range_text : ℕ → ℕ → List ℕ
range_text low high = decimal low ++ (if low == high then [] else codes ".." ++ decimal high)

-- the packet's start, or the base that a sum made
unfoldable pub packet_base_text : ℕ → List ℕ
packet_base_text id = if id == 0 then codes "packet" else codes "packet past the sum of slot " ++ decimal id

unfoldable pub offset_text : ℕ → ℕ → List ℕ
offset_text off range = codes " +" ++ (decimal off ++ (codes ", " ++ (decimal range ++ codes " bytes known")))

unfoldable pub packet_text : ℕ → ℕ → ℕ → List ℕ
packet_text id off range = packet_base_text id ++ offset_text off range

unfoldable pub value_head_text : ℕ → ℕ → List ℕ
value_head_text map id = codes "value of map " ++ (decimal map ++ (codes " from slot " ++ (decimal id ++ codes " +")))

unfoldable pub value_text : ℕ → ℕ → Offsets → List ℕ
value_text map id off = value_head_text map id ++ range_text off.low off.high

-- one equation for each kind; a place of the stack by how far it lies below r10
unfoldable pub kind_text : Kind → List ℕ
kind_text Unset = codes "unset"
kind_text (Scalar i) = codes "number " ++ range_text i.low i.high
kind_text Ctx = codes "context"
kind_text (Stack place) = codes "stack r10-" ++ decimal (512 - place)
kind_text (Packet id off range) = packet_text id off range
kind_text PacketEnd = codes "packet end"
kind_text (Map map) = codes "map " ++ decimal map
kind_text (ValueOrNull map id) = codes "value of map " ++ (decimal map ++ (codes " or null from slot " ++ decimal id))
kind_text (Value map id off) = value_text map id off

-- whether a byte was written
abbrev pub byte_mark : Bool → List ℕ
byte_mark true = codes "w"
byte_mark false = codes "-"

-- the lowest byte first
unfoldable pub marks_text : List Bool → List ℕ
marks_text set = flat_map byte_mark set

unfoldable pub word_text : StackWord → List ℕ
word_text (Spilled kind) = codes "spilled " ++ kind_text kind
word_text (Bytes set) = codes "bytes " ++ marks_text set
