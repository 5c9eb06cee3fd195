-- What a source means: an exact text.
use Rattle.std.specs.Prelude.{ℕ, ◌+◌, ◌-◌, ◌^◌, Bool, true, not, ◌&&◌, ◌||◌, ◌==◌, nat_lt, bytes_eq, List, [], ◌∷◌, ◌++◌, length, map}
use Rattle.std.specs.Prelude.{take, drop, slice_index_or, codes, ℤ, pos, negsuc, Option, Some, None, Result, Ok, Err, if◌then◌else◌}
use Rattle.std.specs.List.{slice_split, before_first, after_first, position_or_len, position, starts_with, list_all, sum_by}
use Rattle.std.specs.Str.{trim}
use Rattle.std.specs.Fmt.{decimal}
use Rattle.std.specs.Char.{digit_value}
use Rattle.std.specs.Str.Parse.{digits_value}
use Rattle.disasm.specs.AssemblyText.{with_sign, hex_digits}
use Rattle.semantics.specs.Linux.{helper_number}
use Rattle.semantics.specs.declared.linux.Helper.{Helper}
use Rattle.semantics.specs.declared.linux.Helper.TheVariants.{MapLookupElem, MapUpdateElem, MapDeleteElem}
use Rattle.semantics.specs.declared.linux.Helper.TheVariants.{KtimeGetNs, GetSmpProcessorId, XdpAdjustHead}
use Rattle.source_form.specs.declared.fault.Problem.{Problem}
use Rattle.source_form.specs.declared.fault.Problem.TheVariants.{LabelTwice, NoLabelName, UnknownLabel, UnknownHelper, NoNumber}
use Rattle.source_form.specs.declared.words.Form.{Form}
use Rattle.source_form.specs.declared.words.Form.TheVariants.{Plain, Jump, Call, Wide, MapRow}
use Rattle.source_form.specs.declared.fault.SourceFault.{SourceFault}
use Rattle.source_form.specs.declared.fault.SourceFault.TheVariants.{BadLine}
use Rattle.text_lines.specs.Lines.{finishes}

-- ---- lines

-- the parts of a text that a mark separates
abbrev pub parts_at : ℕ → List ℕ → List (List ℕ)
parts_at mark text = slice_split (λ b. b == mark) text

-- what is before the first mark, or all
abbrev pub before_mark : ℕ → List ℕ → List ℕ
before_mark mark text = before_first (λ b. b == mark) text

abbrev pub after_mark : ℕ → List ℕ → List ℕ
after_mark mark text = after_first (λ b. b == mark) text

abbrev pub has_mark : ℕ → List ℕ → Bool
has_mark mark text = nat_lt (position_or_len (λ b. b == mark) text) (length text)

abbrev pub begins_with : List ℕ → List ℕ → Bool
begins_with text front = starts_with (λ a b. a == b) text front

abbrev pub all_but_last : List ℕ → List ℕ
all_but_last xs = take (length xs - 1) xs

-- a line without its comment, from # on, and without white space around the rest
abbrev pub statement : List ℕ → List ℕ
statement line = trim (before_mark 35 line)

-- the lines of a source, each as its statement
abbrev pub statements_of : List ℕ → List (List ℕ)
statements_of source = map statement (parts_at 10 source)

-- ---- words

-- up to the first space or tab
abbrev pub first_word : List ℕ → List ℕ
first_word s = before_mark 9 (before_mark 32 s)

abbrev pub after_first_word : List ℕ → List ℕ
after_first_word s = trim (drop (length (first_word s)) s)

-- a statement is a label and its colon, then an instruction or a heading; each of the two may be missing
abbrev pub has_label : List ℕ → Bool
has_label s = has_mark 58 s

abbrev pub label_of : List ℕ → List ℕ
label_of s = before_mark 58 s

-- the instruction or heading
abbrev pub statement_words : List ℕ → List ℕ
statement_words s = if has_label s then trim (after_mark 58 s) else s

-- the statement means a line of the exact text
abbrev pub has_text : List ℕ → Bool
has_text s = not (length (statement_words s) == 0)

-- the first line and those of maps are as they are
abbrev pub is_heading : List ℕ → Bool
is_heading word = bytes_eq word (codes "version") || bytes_eq word (codes "map")

-- the word begins an instruction that names a map
abbrev pub names_map : List ℕ → Bool
names_map word = bytes_eq word (codes "ldmap") || bytes_eq word (codes "ldval")

-- what the operands may be: of a jump a label, of a call a helper's name, of lddw a number of 64 bits, of a map its number
abbrev pub operand_form_of : List ℕ → Form
operand_form_of word =
    if begins_with word (codes "j") then Jump
    else (if bytes_eq word (codes "call") then Call
    else (if bytes_eq word (codes "lddw") then Wide
    else (if names_map word then MapRow else Plain)))

-- ---- slots and labels

-- a heading takes no slot, a wide instruction two, any other one
abbrev pub slots_of_word : List ℕ → ℕ
slots_of_word word =
    if is_heading word then 0
    else (if bytes_eq word (codes "lddw") || names_map word then 2 else 1)

abbrev pub slots_of : List ℕ → ℕ
slots_of s = if has_text s then slots_of_word (first_word (statement_words s)) else 0

-- the slot of the first instruction from a line on
abbrev pub slot_of_line : List (List ℕ) → ℕ → ℕ
slot_of_line statements place = sum_by slots_of (take place statements)

abbrev pub is_label_of : List ℕ → List ℕ → Bool
is_label_of name s = has_label s && bytes_eq (label_of s) name

-- the first line that has the label of this name
abbrev pub label_place : List (List ℕ) → List ℕ → Option ℕ
label_place statements name = position (is_label_of name) statements

-- how far a jump in one slot goes to another
abbrev pub distance : ℕ → ℕ → ℤ
distance target slot = if nat_lt slot target then pos (target - (slot + 1)) else negsuc (slot - target)

-- ---- numbers

abbrev pub all_digits : ℕ → List ℕ → Bool
all_digits radix [] = true
all_digits radix (c ∷ cs) = nat_lt (digit_value c) radix && all_digits radix cs

-- the number of 64 bits that the digits write, if they write one
abbrev pub number_in : ℕ → List ℕ → Option ℕ
number_in radix ds =
    if not (length ds == 0) && (all_digits radix ds && nat_lt (digits_value radix ds) (2 ^ 64)) then Some (digits_value radix ds) else None

-- nothing, or what ends with a sign, may be before a number
abbrev pub is_sign : List ℕ → Bool
is_sign front = length front == 0 || (finishes front (codes "+") || finishes front (codes "-"))

-- the digits, and the bracket that closes a place in memory
abbrev pub digits_of : List ℕ → List ℕ
digits_of back = if finishes back (codes "]") then all_but_last back else back

abbrev pub bracket_of : List ℕ → List ℕ
bracket_of back = if finishes back (codes "]") then codes "]" else []

abbrev pub number_told : List ℕ → List ℕ → Option ℕ → Result (List ℕ) Problem
number_told front end (Some value) = Ok (front ++ (decimal value ++ end))
number_told front end None = Err NoNumber

abbrev pub signed_meaning : List ℕ → List ℕ → List ℕ → Result (List ℕ) Problem
signed_meaning front digits end = if is_sign front then number_told front end (number_in 16 digits) else Err NoNumber

-- what is before the x and after it
abbrev pub hex_meaning : List ℕ → List ℕ → Result (List ℕ) Problem
hex_meaning front back =
    if finishes front (codes "0") then signed_meaning (all_but_last front) (digits_of back) (bracket_of back) else Err NoNumber

-- a number in hexadecimal is that number; what has no x is as it is
abbrev pub number_meaning : List ℕ → Result (List ℕ) Problem
number_meaning operand = if has_mark 120 operand then hex_meaning (before_mark 120 operand) (after_mark 120 operand) else Ok operand

-- ---- immediates

-- a number that is written without a sign: in hexadecimal, or in decimal with no zero in front
abbrev pub plain_value : List ℕ → Option ℕ
plain_value operand =
    if begins_with operand (codes "0x") then number_in 16 (drop 2 operand)
    else (if begins_with operand (codes "0") then None else number_in 10 operand)

-- a number of 32 bits that is too large for a signed one means the same bits: the negative number with them
abbrev pub is_upper_word : ℕ → Bool
is_upper_word value = nat_lt (2 ^ 31 - 1) value && nat_lt value (2 ^ 32)

abbrev pub word_told : List ℕ → Option ℕ → Result (List ℕ) Problem
word_told operand (Some value) = if is_upper_word value then Ok (codes "-" ++ decimal (2 ^ 32 - value)) else number_meaning operand
word_told operand None = number_meaning operand

-- an operand where a signed number of 32 bits may be
abbrev pub immediate_meaning : List ℕ → Result (List ℕ) Problem
immediate_meaning operand = word_told operand (plain_value operand)

-- ---- last operands

abbrev pub wide_value : List ℕ → Option ℕ
wide_value operand = if begins_with operand (codes "0x") then number_in 16 (drop 2 operand) else number_in 10 operand

abbrev pub wide_told : Option ℕ → Result (List ℕ) Problem
wide_told (Some value) = Ok (codes "0x" ++ hex_digits 16 value)
wide_told None = Err NoNumber

-- the operand begins with a digit or a sign
abbrev pub is_number_byte : ℕ → Bool
is_number_byte b = b == 43 || (b == 45 || (nat_lt 47 b && nat_lt b 58))

abbrev pub begins_number : List ℕ → Bool
begins_number operand = is_number_byte (slice_index_or operand 0 0)

-- a helper's name is with or without bpf_
abbrev pub plain_name : List ℕ → List ℕ
plain_name name = if begins_with name (codes "bpf_") then drop 4 name else name

abbrev pub helper_named : List ℕ → Option Helper
helper_named name =
    if bytes_eq name (codes "map_lookup_elem") then Some MapLookupElem
    else (if bytes_eq name (codes "map_update_elem") then Some MapUpdateElem
    else (if bytes_eq name (codes "map_delete_elem") then Some MapDeleteElem
    else (if bytes_eq name (codes "ktime_get_ns") then Some KtimeGetNs
    else (if bytes_eq name (codes "get_smp_processor_id") then Some GetSmpProcessorId
    else (if bytes_eq name (codes "xdp_adjust_head") then Some XdpAdjustHead else None)))))

-- it means the helper's number
abbrev pub helper_told : Option Helper → Result (List ℕ) Problem
helper_told (Some helper) = Ok (decimal (helper_number helper))
helper_told None = Err UnknownHelper

abbrev pub helper_meaning : List ℕ → Result (List ℕ) Problem
helper_meaning operand = if begins_number operand then number_meaning operand else helper_told (helper_named (plain_name operand))

-- the distance from the jump's line to the label's
abbrev pub target_told : List (List ℕ) → ℕ → Option ℕ → Result (List ℕ) Problem
target_told statements place (Some target) = Ok (with_sign (distance (slot_of_line statements target) (slot_of_line statements place)))
target_told statements place None = Err UnknownLabel

abbrev pub target_meaning : List (List ℕ) → ℕ → List ℕ → Result (List ℕ) Problem
target_meaning statements place operand =
    if begins_number operand then number_meaning operand else target_told statements place (label_place statements operand)

-- ---- operands

-- the last operand of an instruction that is on this line
abbrev pub last_meaning : List (List ℕ) → ℕ → Form → List ℕ → Result (List ℕ) Problem
last_meaning statements place Plain operand = immediate_meaning operand
last_meaning statements place Jump operand = target_meaning statements place operand
last_meaning statements place Call operand = helper_meaning operand
last_meaning statements place Wide operand = wide_told (wide_value operand)
last_meaning statements place MapRow operand = number_meaning operand

-- one before the last: of a jump that compares, an immediate
abbrev pub early_meaning : Form → List ℕ → Result (List ℕ) Problem
early_meaning Plain operand = number_meaning operand
early_meaning Jump operand = immediate_meaning operand
early_meaning Call operand = number_meaning operand
early_meaning Wide operand = number_meaning operand
early_meaning MapRow operand = number_meaning operand

-- what follows where there is no problem
abbrev pub then_told : Result (List ℕ) Problem → (List ℕ → Result (List ℕ) Problem) → Result (List ℕ) Problem
then_told (Ok text) next = next text
then_told (Err problem) next = Err problem

-- the operands behind what is there so far, with a comma and a space between two
unfoldable pub operands_meaning : List (List ℕ) → ℕ → Form → List ℕ → List (List ℕ) → Result (List ℕ) Problem
operands_meaning statements place form so_far [] = Ok so_far
operands_meaning statements place form so_far (last ∷ []) =
    then_told (last_meaning statements place form last) (λ text. Ok (so_far ++ text))
operands_meaning statements place form so_far (operand ∷ next ∷ more) =
    then_told (early_meaning form operand) (λ text. operands_meaning statements place form ((so_far ++ text) ++ codes ", ") (next ∷ more))

-- a first word and its operands
abbrev pub instruction_meaning : List (List ℕ) → ℕ → List ℕ → List ℕ → Result (List ℕ) Problem
instruction_meaning statements place word list =
    if length list == 0 then Ok word
    else operands_meaning statements place (operand_form_of word) (word ++ codes " ") (map trim (parts_at 44 list))

-- ---- statements

-- a letter, a digit, _ or .
abbrev pub is_name_byte : ℕ → Bool
is_name_byte b = (nat_lt 96 b && nat_lt b 123) || ((nat_lt 64 b && nat_lt b 91) || ((nat_lt 47 b && nat_lt b 58) || (b == 95 || b == 46)))

abbrev pub is_name : List ℕ → Bool
is_name name = not (length name == 0) && (not (begins_number name) && list_all is_name_byte name)

-- a label has no text: it has a name, which no earlier line has
abbrev pub label_told : ℕ → Option ℕ → Result (List ℕ) Problem
label_told place (Some first) = if first == place then Ok [] else Err LabelTwice
label_told place None = Ok []

abbrev pub label_meaning : List (List ℕ) → ℕ → List ℕ → Result (List ℕ) Problem
label_meaning statements place name = if is_name name then label_told place (label_place statements name) else Err NoLabelName

abbrev pub words_meaning : List (List ℕ) → ℕ → List ℕ → Result (List ℕ) Problem
words_meaning statements place s =
    if is_heading (first_word s) then Ok s else instruction_meaning statements place (first_word s) (after_first_word s)

-- a line of the exact text, with its line feed
abbrev pub text_meaning : List (List ℕ) → ℕ → List ℕ → Result (List ℕ) Problem
text_meaning statements place s = then_told (words_meaning statements place s) (λ text. Ok (text ++ codes "\n"))

-- the label in front of an instruction, which means nothing where it may be there
abbrev pub front_meaning : List (List ℕ) → ℕ → List ℕ → Result (List ℕ) Problem
front_meaning statements place s = if has_label s then label_meaning statements place (label_of s) else Ok []

abbrev pub rest_meaning : List (List ℕ) → ℕ → List ℕ → Result (List ℕ) Problem
rest_meaning statements place words = if length words == 0 then Ok [] else text_meaning statements place words

-- what the statement of the line at a place means
abbrev pub line_meaning : List (List ℕ) → ℕ → List ℕ → Result (List ℕ) Problem
line_meaning statements place s = then_told (front_meaning statements place s) (λ _. rest_meaning statements place (statement_words s))

-- ---- sources

abbrev pub on_line : ℕ → Result (List ℕ) Problem → (List ℕ → Result (List ℕ) SourceFault) → Result (List ℕ) SourceFault
on_line line (Ok text) next = next text
on_line line (Err problem) next = Err (BadLine line problem)

-- the text of the lines from a place on, behind what is there so far, or the first line without a meaning, counted from 1
unfoldable pub meaning_from : List (List ℕ) → ℕ → List ℕ → List (List ℕ) → Result (List ℕ) SourceFault
meaning_from statements place so_far [] = Ok so_far
meaning_from statements place so_far (s ∷ more) =
    on_line (place + 1) (line_meaning statements place s) (λ text. meaning_from statements (place + 1) (so_far ++ text) more)

-- the exact text that a source means
abbrev pub source_meaning : List ℕ → Result (List ℕ) SourceFault
source_meaning source = meaning_from (statements_of source) 0 [] (statements_of source)

-- the line of the source, counted from 1, that means the line of the exact text of this number, which counts from 1 too
unfoldable pub line_of_text : ℕ → ℕ → List (List ℕ) → ℕ
line_of_text place number [] = 1
line_of_text place number (s ∷ more) =
    if has_text s then (if nat_lt 1 number then line_of_text (place + 1) (number - 1) more else place + 1)
    else line_of_text (place + 1) number more
