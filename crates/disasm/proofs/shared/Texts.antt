-- A text is read in one way.
use Rattle.std.proofs.Common.{◌≡◌, ℕ, ◌+◌, ◌<◌, ◌^◌, true, false, ◌&&◌, leb, ltb, eqb, List, [], ◌∷◌, ◌++◌, length, get_or, Some, None, refl, sym, ap, ◌∙◌, arith, append_assoc}
use Rattle.std.specs.Prelude.{codes}
use Rattle.std.proofs.Common.{inr}
use Rattle.std.specs.Fmt.{decimal}
use Rattle.std.specs.List.{AllByRecursion}
use Rattle.std.proofs.lemmas.List.{append-nil, append_cancel_left}
use Rattle.std.proofs.lemmas.Grind.{flat_map-append}
use Rattle.std.proofs.lemmas.Bool.Decides.{nat_tests}
use Rattle.ebpf_decode.specs.declared.insn.Insn.{Insn}
use Rattle.ebpf_decode.specs.declared.map.MapDef.{MapDef}
use Rattle.ebpf_decode.specs.declared.map.MapKind.{MapKind}
use Rattle.ebpf_decode.specs.declared.map.MapKind.TheVariants.{Hash, Array, LruHash}
use Rattle.ebpf_decode.specs.declared.fault.DecodeFault.{DecodeFault}
use Rattle.ebpf_decode.specs.InstructionEncoding.{FieldsFit, slot_count, total_slots}
use Rattle.ebpf_decode.specs.declared.version.Version.{Version}
use Rattle.ebpf_decode.specs.declared.version.Version.TheVariants.{V1, V2}
use Rattle.ebpf_decode.specs.Versions.{IsInVersion}
use Rattle.ebpf_decode.specs.MapForm.{is_key_size, is_value_size, is_entry_count}
use Rattle.ebpf_decode.specs.ImageContents.{Contents, IsAllowedMap, IsEncodable}
use Rattle.ebpf_decode.specs.ImageFormat.{first_part_fault, first_bad_map, version_fault}
use Rattle.disasm.specs.declared.head.Head.{Head}
use Rattle.disasm.specs.declared.operand.Operands.{Operands}
use Rattle.disasm.specs.declared.operand.Operands.TheVariants.{Zero, One, Two, Three}
use Rattle.disasm.specs.Names.{head_name}
use Rattle.text_lines.specs.Lines.{Lacks, ended}
use Rattle.text_lines.proofs.shared.LineLemmas.{lacks_mid, more_lines, no_empty_line, one_line, same_front}
use Rattle.disasm.specs.AssemblyText.{kind_name, after_space, list_text, operands_text, head_of, operands_of, line_of, map_line_of, MapFits, version_text, maps_text, code_text, parts_text, IsAssemblyText}
use Rattle.disasm.specs.TextReading.{BeginsWithNoInstruction, BeginsWithNoMap, IsKnownInstruction, IsMapOfText, IsFirstInstruction, IsFirstMap, IsCodeRead, AreMapsRead, IsFirstBadLine, IsFaultyText}
use Rattle.disasm.proofs.Heads.{by_name, named_again}
use Rattle.text_lines.proofs.shared.ByteLemmas.{all_bytes, all_append, lacks_from, weaken}
use Rattle.disasm.proofs.shared.Bytes.{word_byte, widen, decimal_word}
use Rattle.disasm.proofs.shared.Lines.{lacks_space, line_lacks_feed}

-- ---- lines of maps

from_32 : (b : ℕ) → word_byte 128 b ≡ true → leb 32 b ≡ true
from_32 b a = grind (arith, nat_tests)

pub decimal_lacks : (n : ℕ) → n < 2 ^ 32 → Lacks 32 (decimal n)
decimal_lacks n lt = lacks_from (word_byte 58) 32 (decimal n) (decimal_word n (omega arith)) refl

decimal_from_32 : (n : ℕ) → n < 2 ^ 32 → all_bytes (leb 32) (decimal n) ≡ true
decimal_from_32 n lt = weaken (word_byte 128) (leb 32) from_32 (decimal n) (widen 58 128 (decimal n) (omega arith) (decimal_word n (omega arith)))

kind_word : (kind : MapKind) → all_bytes (word_byte 128) (kind_name kind) ≡ true
kind_word Hash = refl
kind_word Array = refl
kind_word LruHash = refl

pub kind_lacks : (kind : MapKind) → Lacks 32 (kind_name kind)
kind_lacks kind = lacks_from (word_byte 128) 32 (kind_name kind) (kind_word kind) refl

pub map_line_lacks_feed : (m : MapDef) → MapFits m → Lacks 10 (map_line_of m)
unfolding map_line_of
map_line_lacks_feed m fits =
    let c : all_bytes (leb 32) (after_space m.max_entries) ≡ true = decimal_from_32 m.max_entries fits.max_entries in
    let b : all_bytes (leb 32) (after_space m.value_size ++ after_space m.max_entries) ≡ true = all_append (leb 32) (after_space m.value_size) (after_space m.max_entries) (decimal_from_32 m.value_size fits.value_size) c in
    let a : all_bytes (leb 32) (after_space m.key_size ++ (after_space m.value_size ++ after_space m.max_entries)) ≡ true = all_append (leb 32) (after_space m.key_size) (after_space m.value_size ++ after_space m.max_entries) (decimal_from_32 m.key_size fits.key_size) b in
    lacks_from (leb 32) 10 (map_line_of m) (all_append (leb 32) (kind_name m.kind) (after_space m.key_size ++ (after_space m.value_size ++ after_space m.max_entries)) (weaken (word_byte 128) (leb 32) from_32 (kind_name m.kind) (kind_word m.kind)) a) refl

-- no instruction is called `map`
no_such_name : by_name (codes "map") ≡ None
unfolding head_name
no_such_name = refl

no_map_head : (h : Head) → codes "map" ≡ head_name h → ⊥
no_map_head h is =
    let found : None ≡ Some h = sym no_such_name ∙ ap by_name is ∙ named_again h in
    cc

not_both : (h : Head) (os : Operands) (rest : List ℕ) → codes "map" ++ 32 ∷ rest ≡ head_name h ++ operands_text os → ⊥
unfolding operands_text list_text
not_both h Zero rest is = lacks_mid 32 (head_name h) (codes "map") rest (lacks_space h) (sym (is ∙ append-nil (head_name h)))
not_both h (One a) rest is = no_map_head h (same_front 32 (codes "map") rest (head_name h) (list_text (One a)) (lacks_from (word_byte 128) 32 (codes "map") refl refl) (lacks_space h) is).0
not_both h (Two a b) rest is = no_map_head h (same_front 32 (codes "map") rest (head_name h) (list_text (Two a b)) (lacks_from (word_byte 128) 32 (codes "map") refl refl) (lacks_space h) is).0
not_both h (Three a b c) rest is = no_map_head h (same_front 32 (codes "map") rest (head_name h) (list_text (Three a b c)) (lacks_from (word_byte 128) 32 (codes "map") refl refl) (lacks_space h) is).0

no_map_is_code : (m : MapDef) → MapFits m → (rest : List ℕ) (code : List Insn) → AllByRecursion FieldsFit code → map_line_of m ++ 10 ∷ rest ≡ code_text code → ⊥
unfolding map_line_of line_of
no_map_is_code m m_fits rest [] fits e = no_empty_line (map_line_of m) rest e
no_map_is_code m m_fits rest (i ∷ code) fits e =
    let parts = same_front 10 (map_line_of m) rest (line_of i) (code_text code) (map_line_lacks_feed m m_fits) (line_lacks_feed i fits.0) (e ∙ one_line (line_of i) (code_text code)) in
    not_both (head_of i) (operands_of i) _ parts.0

-- ---- one reading

pub code_unique : (code others : List Insn) (rest : List ℕ) → AllByRecursion IsKnownInstruction code → AllByRecursion FieldsFit others → BeginsWithNoInstruction rest → code_text code ++ rest ≡ code_text others → (code ≡ others) × (rest ≡ [])
code_unique [] [] rest known fits stops e = (refl, e)
code_unique [] (o ∷ others) rest known fits stops e = absurd (stops o (line_of o) (code_text others) (record { fields_fit = fits.0; spelled = refl }) (e ∙ one_line (line_of o) (code_text others)))
code_unique (i ∷ code) [] rest known fits stops e = absurd (no_empty_line (line_of i) (code_text code ++ rest) (sym (more_lines (line_of i) (code_text code) rest) ∙ e))
code_unique (i ∷ code) (o ∷ others) rest known fits stops e =
    let parts = same_front 10 (line_of i) (code_text code ++ rest) (line_of o) (code_text others) (line_lacks_feed i known.0.0.fields_fit) (line_lacks_feed o fits.0) (sym (more_lines (line_of i) (code_text code) rest) ∙ e ∙ one_line (line_of o) (code_text others)) in
    let same : o ≡ i = known.0.1 o (record { fields_fit = fits.0; spelled = parts.0 }) in
    let tail = code_unique code others rest known.1 fits.1 stops parts.1 in
    (rw (same, tail.0) refl, tail.1)

pub maps_unique : (maps others : List MapDef) (code : List Insn) (rest : List ℕ) → AllByRecursion IsMapOfText maps → AllByRecursion MapFits others → AllByRecursion FieldsFit code → BeginsWithNoMap rest
    → maps_text maps ++ rest ≡ maps_text others ++ code_text code → (maps ≡ others) × (rest ≡ code_text code)
maps_unique [] [] code rest known fits code_fits stops e = (refl, e)
maps_unique [] (o ∷ others) code rest known fits code_fits stops e = absurd (stops o (map_line_of o) (maps_text others ++ code_text code) (record { fits = fits.0; spelled = refl }) (e ∙ more_lines (map_line_of o) (maps_text others) (code_text code)))
maps_unique (m ∷ maps) [] code rest known fits code_fits stops e = absurd (no_map_is_code m known.0.0.fits (maps_text maps ++ rest) code code_fits (sym (more_lines (map_line_of m) (maps_text maps) rest) ∙ e))
maps_unique (m ∷ maps) (o ∷ others) code rest known fits code_fits stops e =
    let parts = same_front 10 (map_line_of m) (maps_text maps ++ rest) (map_line_of o) (maps_text others ++ code_text code) (map_line_lacks_feed m known.0.0.fits) (map_line_lacks_feed o fits.0) (sym (more_lines (map_line_of m) (maps_text maps) rest) ∙ e ∙ more_lines (map_line_of o) (maps_text others) (code_text code)) in
    let same : o ≡ m = known.0.1 o (record { fits = fits.0; spelled = parts.0 }) in
    let tail = maps_unique maps others code rest known.1 fits.1 code_fits stops parts.1 in
    (rw (same, tail.0) refl, tail.1)

-- ---- images

parts_fit : (version : Version) (kind : MapKind) (k v n : ℕ) → (is_key_size kind k && is_value_size version v && is_entry_count n) ≡ true → (k < 2 ^ 32) × (v < 2 ^ 32) × (n < 2 ^ 32)
parts_fit V1 Hash k v n h = (grind (arith, nat_tests), grind (arith, nat_tests), grind (arith, nat_tests))
parts_fit V1 Array k v n h = (grind (arith, nat_tests), grind (arith, nat_tests), grind (arith, nat_tests))
parts_fit V1 LruHash k v n h = (grind (arith, nat_tests), grind (arith, nat_tests), grind (arith, nat_tests))
parts_fit V2 Hash k v n h = (grind (arith, nat_tests), grind (arith, nat_tests), grind (arith, nat_tests))
parts_fit V2 Array k v n h = (grind (arith, nat_tests), grind (arith, nat_tests), grind (arith, nat_tests))
parts_fit V2 LruHash k v n h = (grind (arith, nat_tests), grind (arith, nat_tests), grind (arith, nat_tests))

allowed_fits : (version : Version) (m : MapDef) → IsAllowedMap version m → MapFits m
allowed_fits version m h =
    let f = parts_fit version m.kind m.key_size m.value_size m.max_entries h in
    record { key_size = f.0; value_size = f.1; max_entries = f.2 }

pub all_fit : (version : Version) (maps : List MapDef) → AllByRecursion (IsAllowedMap version) maps → AllByRecursion MapFits maps
all_fit version [] h = tt
all_fit version (m ∷ maps) h = (allowed_fits version m h.0, all_fit version maps h.1)

all_good : (version : Version) (place : ℕ) (maps : List MapDef) → AllByRecursion (IsAllowedMap version) maps → first_bad_map version place maps ≡ None
all_good version place [] h = refl
all_good version place (m ∷ maps) h = rw h.0 (all_good version (place + 1) maps h.1)

all_known : (version : Version) (slot : ℕ) (code : List Insn) → AllByRecursion (IsInVersion version) code → version_fault version slot code ≡ None
all_known version slot [] h = refl
all_known version slot (insn ∷ code) h = rw h.0 (all_known version (slot + slot_count insn) code h.1)

pub no_fault : (version : Version) (maps : List MapDef) (code : List Insn) → IsEncodable version maps code → first_part_fault version maps code ≡ None
unfolding first_part_fault
no_fault version maps code is =
    let few : ltb 16 (length maps) ≡ false = grind (arith, nat_tests, is.few_maps) in
    let some : eqb (length code) 0 ≡ false = grind (arith, nat_tests, is.some_code) in
    let short : ltb 4096 (total_slots code) ≡ false = grind (arith, nat_tests, is.few_slots) in
    rw (few, all_good version 0 maps is.maps_allowed, some, short, all_known version 0 code is.in_version) refl

not_next : (n m : ℕ) → n ≡ m → m ≡ n + 1 → ⊥
not_next n m same next = omega arith

-- the first line says the version
same_version : (version other : Version) (xs ys : List ℕ) → version_text version ++ xs ≡ version_text other ++ ys → (version ≡ other) × (xs ≡ ys)
same_version V1 V1 xs ys e = (refl, append_cancel_left (version_text V1) xs ys e)
same_version V2 V2 xs ys e = (refl, append_cancel_left (version_text V2) xs ys e)
same_version V1 V2 xs ys e = absurd (not_next 49 50 (ap (λ (text : List ℕ). get_or text 8 0) e) refl)
same_version V2 V1 xs ys e = absurd (not_next 49 50 (ap (λ (text : List ℕ). get_or text 8 0) (sym e)) refl)

-- the version and the parts that were read are those of each image with this text
pub same_parts : (version : Version) (text body program rest : List ℕ) (maps : List MapDef) (code : List Insn) → text ≡ version_text version ++ body → AreMapsRead body maps program → IsCodeRead program code rest
    → (image : Contents) → IsAssemblyText text image → (version ≡ image.version) × (maps ≡ image.maps) × (code ≡ image.code) × (rest ≡ [])
same_parts version text body program rest maps code begins read_maps read_code image is =
    let spelled : version_text version ++ body ≡ version_text image.version ++ (maps_text image.maps ++ code_text image.code) = sym begins ∙ is.spelled ∙ append_assoc (version_text image.version) (maps_text image.maps) (code_text image.code) in
    let same = same_version version image.version body (maps_text image.maps ++ code_text image.code) spelled in
    let first = maps_unique maps image.maps image.code program read_maps.known (all_fit image.version image.maps is.encodable.maps_allowed) is.encodable.fields_fit read_maps.stops (sym read_maps.text_is ∙ same.1) in
    let second = code_unique code image.code rest read_code.known is.encodable.fields_fit read_code.stops (sym read_code.text_is ∙ first.1) in
    (same.0, first.0, second.0, second.1)

maps_fit : (maps : List MapDef) → AllByRecursion IsMapOfText maps → AllByRecursion MapFits maps
maps_fit [] known = tt
maps_fit (m ∷ maps) known = (known.0.0.fits, maps_fit maps known.1)

pub code_fits : (code : List Insn) → AllByRecursion IsKnownInstruction code → AllByRecursion FieldsFit code
code_fits [] known = tt
code_fits (i ∷ code) known = (known.0.0.fields_fit, code_fits code known.1)

whole_text : (version : Version) (text body program rest : List ℕ) (maps : List MapDef) (code : List Insn) → text ≡ version_text version ++ body → AreMapsRead body maps program → IsCodeRead program code rest → text ≡ parts_text version maps code ++ rest
whole_text version text body program rest maps code begins read_maps read_code =
    begins ∙ ap (λ (xs : List ℕ). version_text version ++ xs) (read_maps.text_is ∙ ap (λ (xs : List ℕ). maps_text maps ++ xs) read_code.text_is) ∙ simp append_assoc refl

same_program : (program rest : List ℕ) (code : List Insn) → program ≡ code_text code ++ rest → code ≡ [] → BeginsWithNoMap program → BeginsWithNoMap rest
same_program program rest [] is empty stops = rw is at stops
same_program program rest (i ∷ code) is empty stops = absurd cc

pub bad_after : (version : Version) (text body program rest : List ℕ) (maps : List MapDef) (code : List Insn) → text ≡ version_text version ++ body → AreMapsRead body maps program → IsCodeRead program code rest → 0 < length rest
    → IsFirstBadLine text (2 + length maps + length code)
bad_after version text body program rest maps code begins read_maps read_code some = inr (record {
  version = version;
  maps = maps;
  code = code;
  rest = rest;
  maps_fit = maps_fit maps read_maps.known;
  code_fits = code_fits code read_code.known;
  line_is = refl;
  text_is = whole_text version text body program rest maps code begins read_maps read_code;
  not_ended = some;
  no_instruction = read_code.stops;
  no_map = λ empty. same_program program rest code read_code.text_is empty read_maps.stops;
})

pub whole_parts : (version : Version) (text body program rest : List ℕ) (maps : List MapDef) (code : List Insn) → text ≡ version_text version ++ body → AreMapsRead body maps program → IsCodeRead program code rest → rest ≡ [] → text ≡ parts_text version maps code
whole_parts version text body program rest maps code begins read_maps read_code empty =
    whole_text version text body program rest maps code begins read_maps read_code ∙ ap (λ (xs : List ℕ). parts_text version maps code ++ xs) empty ∙ append-nil (parts_text version maps code)

pub faulty : (version : Version) (text body program rest : List ℕ) (maps : List MapDef) (code : List Insn) (fault : DecodeFault) → text ≡ version_text version ++ body → AreMapsRead body maps program → IsCodeRead program code rest → rest ≡ []
    → first_part_fault version maps code ≡ Some fault → IsFaultyText text fault
faulty version text body program rest maps code fault begins read_maps read_code empty is = record {
  version = version;
  maps = maps;
  code = code;
  maps_fit = maps_fit maps read_maps.known;
  code_fits = code_fits code read_code.known;
  text_is = whole_parts version text body program rest maps code begins read_maps read_code empty;
  fault_is = is;
}

-- ---- one more line

pub code_more : (text rest after : List ℕ) (code : List Insn) (insn : Insn) → text ≡ code_text code ++ rest → AllByRecursion IsKnownInstruction code → IsFirstInstruction rest insn after
    → (text ≡ code_text (code ++ insn ∷ []) ++ after) × AllByRecursion IsKnownInstruction (code ++ insn ∷ [])
code_more text rest after code insn is known first =
    (is ∙ ap (λ (xs : List ℕ). code_text code ++ xs) first.text_is ∙ rw (flat_map-append (λ (i : Insn). ended (line_of i)) code (insn ∷ [])) (simp (append_assoc, append-nil) refl), known_more code insn known first.known) where
      known_more : (code : List Insn) (insn : Insn) → AllByRecursion IsKnownInstruction code → IsKnownInstruction insn → AllByRecursion IsKnownInstruction (code ++ insn ∷ [])
      known_more [] insn known one = (one, tt)
      known_more (i ∷ code) insn known one = (known.0, known_more code insn known.1 one)

pub maps_more : (text rest after : List ℕ) (maps : List MapDef) (m : MapDef) → text ≡ maps_text maps ++ rest → AllByRecursion IsMapOfText maps → IsFirstMap rest m after
    → (text ≡ maps_text (maps ++ m ∷ []) ++ after) × AllByRecursion IsMapOfText (maps ++ m ∷ [])
maps_more text rest after maps m is known first =
    (is ∙ ap (λ (xs : List ℕ). maps_text maps ++ xs) first.text_is ∙ rw (flat_map-append (λ (d : MapDef). ended (map_line_of d)) maps (m ∷ [])) (simp (append_assoc, append-nil) refl), known_more maps m known first.known) where
      known_more : (maps : List MapDef) (m : MapDef) → AllByRecursion IsMapOfText maps → IsMapOfText m → AllByRecursion IsMapOfText (maps ++ m ∷ [])
      known_more [] m known one = (one, tt)
      known_more (d ∷ maps) m known one = (known.0, known_more maps m known.1 one)
