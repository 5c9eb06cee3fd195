-- An exact text means itself in the source form.
use Rattle.std.proofs.Common.{◌≡◌, ◌∙◌, ℕ, ◌+◌, ◌<◌, ◌^◌, Bool, true, false, cond, eqb, List, [], ◌∷◌, ◌++◌, length, map, drop, refl, sym, ap, arith, append_assoc, Ok}
use Rattle.std.specs.Prelude.{codes}
use Rattle.std.specs.List.{AllByRecursion, flat_map}
use Rattle.std.specs.Fmt.{decimal}
use Rattle.std.specs.Str.{trim, trim_start, trim_end, chars}
use Rattle.std.proofs.lemmas.Bool.Decides.{nat_tests}
use Rattle.std.proofs.lemmas.Fmt.{decimal_nonempty}
use Rattle.std.proofs.lemmas.List.{append-nil}
use Rattle.ebpf_decode.specs.declared.insn.Insn.{Insn}
use Rattle.ebpf_decode.specs.declared.map.MapDef.{MapDef}
use Rattle.ebpf_decode.specs.declared.map.MapKind.{MapKind}
use Rattle.ebpf_decode.specs.declared.map.MapKind.TheVariants.{Hash, Array, LruHash}
use Rattle.ebpf_decode.specs.declared.version.Version.{Version}
use Rattle.ebpf_decode.specs.declared.version.Version.TheVariants.{V1, V2}
use Rattle.ebpf_decode.specs.InstructionEncoding.{FieldsFit}
use Rattle.ebpf_decode.specs.ImageContents.{Contents}
use Rattle.disasm.specs.declared.head.Head.{Head}
use Rattle.disasm.specs.declared.operand.Operands.{Operands}
use Rattle.disasm.specs.declared.operand.Operands.TheVariants.{Zero, One, Two, Three}
use Rattle.disasm.specs.Names.{head_name}
use Rattle.text_lines.specs.Lines.{ended}
use Rattle.disasm.specs.AssemblyText.{list_text, operands_text, head_of, operands_of, line_of, kind_name, after_space, map_line_of, MapFits, version_text, maps_text, code_text, parts_text, IsAssemblyText}
use Rattle.disasm.specs.LineReading.{OperandsFit}
use Rattle.text_lines.proofs.shared.ByteLemmas.{all_bytes, all_append, weaken}
use Rattle.disasm.proofs.shared.Bytes.{decimal_word}
use Rattle.disasm.proofs.shared.Lines.{fits_again}
use Rattle.disasm.proofs.shared.Texts.{all_fit}
use Rattle.source_form.specs.SourceText.{statement, parts_at, before_mark, first_word, after_first_word, is_heading, instruction_meaning, words_meaning, line_meaning, meaning_from, source_meaning}
use Rattle.source_form.specs.SourceImage.{IsSource}
use Rattle.source_form.proofs.Trimming.{other, before_none, before_first_one, first_part, EndsWell, ends_before, some_bytes, no_mark, begin_kept, IsTrimmed, trim_same, trim_space}
use Rattle.source_form.proofs.ExactLines.{line_byte, IsExact, head_form, exact_line, to_ascii, not_feed, not_sharp, not_colon, not_tab, not_space, is_first_word, trimmed_word, begin_front, IsList, one_is_list, two_is_list, three_is_list, number_exact, Stand, stand, operands_mean}

-- ---- one line

record IsExactLine (line : List ℕ) : Type 0 where
  pub one_line : all_bytes (other 10) line ≡ true
  pub whole : statement line ≡ line
  pub means : (statements : List (List ℕ)) (place : ℕ) → line_meaning statements place line ≡ Ok (line ++ 10 ∷ [])

some_is : (n : ℕ) → 0 < n → eqb n 0 ≡ false
some_is n some = grind (arith, nat_tests)

text_line : (line : List ℕ) → all_bytes line_byte line ≡ true → IsTrimmed line →
    ((statements : List (List ℕ)) (place : ℕ) → words_meaning statements place line ≡ Ok line) → IsExactLine line
text_line line bytes trimmed words = record {
  one_line = weaken line_byte (other 10) not_feed line bytes;
  whole = ap trim (before_none 35 line (weaken line_byte (other 35) not_sharp line bytes)) ∙ trim_same line trimmed;
  means = λ statements place. rw (no_mark 58 line (weaken line_byte (other 58) not_colon line bytes), some_is (length line) (some_bytes line trimmed.ends), words statements place) refl;
}

-- ---- words

drop_front : (xs ys : List ℕ) → drop (length xs) (xs ++ ys) ≡ ys
drop_front [] ys = refl
drop_front (x ∷ xs) ys = drop_front xs ys

trim_none : trim [] ≡ []
unfolding trim_start trim_end chars
trim_none = refl

no_blank : (word : List ℕ) → IsExact word → first_word word ≡ word
no_blank word exact =
    ap (before_mark 9) (before_none 32 word (weaken _ (other 32) not_space word exact))
    ∙ before_none 9 word (weaken _ (other 9) not_tab word exact)

first_of_more : (word list : List ℕ) → IsExact word → first_word (word ++ 32 ∷ list) ≡ word
first_of_more word list exact =
    ap (before_mark 9) (before_first_one 32 word list (weaken _ (other 32) not_space word exact))
    ∙ before_none 9 word (weaken _ (other 9) not_tab word exact)

words_of : (statements : List (List ℕ)) (place : ℕ) (s word list : List ℕ) → first_word s ≡ word → after_first_word s ≡ list →
    is_heading word ≡ false → words_meaning statements place s ≡ instruction_meaning statements place word list
words_of statements place s word list first after no_heading =
    ap (λ (test : Bool). cond test (Ok s) (instruction_meaning statements place (first_word s) (after_first_word s))) (ap is_heading first ∙ no_heading)
    ∙ ap (λ (w : List ℕ). instruction_meaning statements place w (after_first_word s)) first
    ∙ ap (instruction_meaning statements place word) after

heading_words : (statements : List (List ℕ)) (place : ℕ) (s word : List ℕ) → first_word s ≡ word → is_heading word ≡ true → words_meaning statements place s ≡ Ok s
heading_words statements place s word first heading =
    ap (λ (test : Bool). cond test (Ok s) (instruction_meaning statements place (first_word s) (after_first_word s))) (ap is_heading first ∙ heading)

rest_of : (s word rest list : List ℕ) → first_word s ≡ word → s ≡ word ++ rest → trim rest ≡ list → after_first_word s ≡ list
rest_of s word rest list first is trimmed =
    ap (λ (w : List ℕ). trim (drop (length w) s)) first ∙ ap (λ (t : List ℕ). trim (drop (length word) t)) is
    ∙ ap trim (drop_front word rest) ∙ trimmed

-- ---- instructions

alone : (h : Head) → IsExactLine (head_name h)
alone h =
    let word = is_first_word h in
    text_line (head_name h) (exact_line (head_name h) word.exact) (trimmed_word (head_name h) word.some word.exact)
    (λ statements place. words_of statements place (head_name h) (head_name h) [] (no_blank (head_name h) word.exact)
    (rest_of (head_name h) (head_name h) [] [] (no_blank (head_name h) word.exact) (sym (append-nil (head_name h))) trim_none)
    word.no_heading)

list_trimmed : (os : Operands) → IsList os → IsTrimmed (list_text os)
list_trimmed os list = record {
  ascii = weaken line_byte _ to_ascii (list_text os) list.bytes;
  begins = list.begins;
  ends = list.ends;
}

with_list : (h : Head) (os : Operands) → IsList os → Stand (head_form h) os → IsExactLine (head_name h ++ 32 ∷ list_text os)
with_list h os list are =
    let word = is_first_word h in
    let line : List ℕ = head_name h ++ 32 ∷ list_text os in
    let bytes : all_bytes line_byte line ≡ true = all_append line_byte (head_name h) (32 ∷ list_text os) (exact_line (head_name h) word.exact) list.bytes in
    let first : first_word line ≡ head_name h = first_of_more (head_name h) (list_text os) word.exact in
    let after : after_first_word line ≡ list_text os =
    rest_of line (head_name h) (32 ∷ list_text os) (list_text os) first refl (trim_space (list_text os) (list_trimmed os list)) in
    text_line line bytes
    (record {
      ascii = weaken line_byte _ to_ascii line bytes;
      begins = begin_front (head_name h) (32 ∷ list_text os) word.some word.exact;
      ends = ends_before (head_name h) (32 ∷ list_text os) (ends_before (32 ∷ []) (list_text os) list.ends);
    })
    (λ statements place. words_of statements place line (head_name h) (list_text os) first after word.no_heading
    ∙ rw (some_is (length (list_text os)) (some_bytes (list_text os) list.ends), word.form, list.parts)
    (operands_mean statements place (head_form h) (head_name h ++ 32 ∷ []) os are ∙ ap Ok (append_assoc (head_name h) (32 ∷ []) (list_text os))))

head_and_operands : (h : Head) (os : Operands) → OperandsFit os → Stand (head_form h) os → IsExactLine (head_name h ++ operands_text os)
unfolding operands_text OperandsFit
head_and_operands h Zero fits are = rw (append-nil (head_name h)) (alone h)
head_and_operands h (One a) fits are = with_list h (One a) (one_is_list a fits) are
head_and_operands h (Two a b) fits are = with_list h (Two a b) (two_is_list a b fits.0 fits.1) are
head_and_operands h (Three a b c) fits are = with_list h (Three a b c) (three_is_list a b c fits.0 fits.1 fits.2) are

instruction_line : (i : Insn) → FieldsFit i → IsExactLine (line_of i)
unfolding line_of
instruction_line i fits = head_and_operands (head_of i) (operands_of i) (fits_again i fits) (stand i fits)

-- ---- maps and the version

kind_exact : (kind : MapKind) → IsExact (kind_name kind)
kind_exact Hash = refl
kind_exact Array = refl
kind_exact LruHash = refl

decimal_exact : (n : ℕ) → n < 2 ^ 32 → IsExact (decimal n)
decimal_exact n lt = number_exact (decimal n) (decimal_word n (omega (arith, lt)))

map_line : (m : MapDef) → MapFits m → IsExactLine (map_line_of m)
unfolding map_line_of
map_line m fits =
    let k : all_bytes line_byte (decimal m.key_size) ≡ true = exact_line (decimal m.key_size) (decimal_exact m.key_size fits.key_size) in
    let v : all_bytes line_byte (decimal m.value_size) ≡ true = exact_line (decimal m.value_size) (decimal_exact m.value_size fits.value_size) in
    let n : all_bytes line_byte (decimal m.max_entries) ≡ true = exact_line (decimal m.max_entries) (decimal_exact m.max_entries fits.max_entries) in
    let last : IsTrimmed (decimal m.max_entries) =
    trimmed_word (decimal m.max_entries) (decimal_nonempty m.max_entries (omega (arith, fits.max_entries))) (decimal_exact m.max_entries fits.max_entries) in
    let rest : List ℕ = kind_name m.kind ++ (after_space m.key_size ++ (after_space m.value_size ++ after_space m.max_entries)) in
    let bytes : all_bytes line_byte rest ≡ true =
    all_append line_byte (kind_name m.kind) (after_space m.key_size ++ (after_space m.value_size ++ after_space m.max_entries))
    (exact_line (kind_name m.kind) (kind_exact m.kind))
    (all_append line_byte (after_space m.key_size) (after_space m.value_size ++ after_space m.max_entries) k
    (all_append line_byte (after_space m.value_size) (after_space m.max_entries) v n)) in
    let ends : EndsWell rest =
    ends_before (kind_name m.kind) (after_space m.key_size ++ (after_space m.value_size ++ after_space m.max_entries))
    (ends_before (after_space m.key_size) (after_space m.value_size ++ after_space m.max_entries)
    (ends_before (after_space m.value_size) (after_space m.max_entries)
    (ends_before (32 ∷ []) (decimal m.max_entries) last.ends))) in
    let first : first_word (codes "map" ++ 32 ∷ rest) ≡ codes "map" = first_of_more (codes "map") rest refl in
    text_line (codes "map " ++ rest) bytes
    (record {
      ascii = weaken line_byte _ to_ascii rest bytes;
      begins = begin_kept 109 (97 ∷ 112 ∷ 32 ∷ rest) refl;
      ends = ends_before (codes "map ") rest ends;
    })
    (λ statements place. heading_words statements place (codes "map " ++ rest) (codes "map") first refl)

version_line : Version → List ℕ
version_line V1 = codes "version 1"
version_line V2 = codes "version 2"

version_is_exact : (version : Version) → IsExactLine (version_line version)
unfolding version_line
version_is_exact V1 = text_line (codes "version 1") refl
    (record {
      ascii = refl;
      begins = begin_kept 118 (codes "ersion 1") refl;
      ends = record { front = codes "version "; last = 49; is = refl; good = refl };
    })
    (λ statements place. refl)
version_is_exact V2 = text_line (codes "version 2") refl
    (record {
      ascii = refl;
      begins = begin_kept 118 (codes "ersion 2") refl;
      ends = record { front = codes "version "; last = 50; is = refl; good = refl };
    })
    (λ statements place. refl)

-- ---- all lines

abbrev text_of_lines : List (List ℕ) → List ℕ
text_of_lines lines = flat_map ended lines

split : (lines : List (List ℕ)) → AllByRecursion IsExactLine lines → parts_at 10 (text_of_lines lines) ≡ lines ++ [] ∷ []
split [] exact = refl
split (line ∷ lines) exact =
    ap (parts_at 10) (append_assoc line (10 ∷ []) (text_of_lines lines))
    ∙ first_part 10 line (text_of_lines lines) exact.0.one_line
    ∙ ap (λ (parts : List (List ℕ)). line ∷ parts) (split lines exact.1)

whole_statements : (lines : List (List ℕ)) → AllByRecursion IsExactLine lines → map statement (lines ++ [] ∷ []) ≡ lines ++ [] ∷ []
whole_statements [] exact = ap (λ (s : List ℕ). s ∷ []) trim_none
whole_statements (line ∷ lines) exact =
    ap (λ (s : List ℕ). s ∷ map statement (lines ++ [] ∷ [])) exact.0.whole
    ∙ ap (λ (others : List (List ℕ)). line ∷ others) (whole_statements lines exact.1)

read : (statements : List (List ℕ)) (place : ℕ) (so_far : List ℕ) (lines : List (List ℕ)) → AllByRecursion IsExactLine lines →
    meaning_from statements place so_far (lines ++ [] ∷ []) ≡ Ok (so_far ++ text_of_lines lines)
unfolding meaning_from
read statements place so_far [] exact = refl
read statements place so_far (line ∷ lines) exact =
    rw (exact.0.means statements place)
    (read statements (place + 1) (so_far ++ ended line) lines exact.1 ∙ ap Ok (append_assoc so_far (ended line) (text_of_lines lines)))

exact_means : (lines : List (List ℕ)) → AllByRecursion IsExactLine lines → source_meaning (text_of_lines lines) ≡ Ok (text_of_lines lines)
exact_means lines exact =
    ap (λ (all : List (List ℕ)). meaning_from all 0 [] all) (ap (map statement) (split lines exact) ∙ whole_statements lines exact)
    ∙ read (lines ++ [] ∷ []) 0 [] lines exact

-- ---- an image's lines

lines_of_code : List Insn → List (List ℕ)
lines_of_code [] = []
lines_of_code (i ∷ code) = line_of i ∷ lines_of_code code

lines_of : List MapDef → List Insn → List (List ℕ)
lines_of [] code = lines_of_code code
lines_of (m ∷ maps) code = map_line_of m ∷ lines_of maps code

code_exact : (code : List Insn) → AllByRecursion FieldsFit code → AllByRecursion IsExactLine (lines_of_code code)
unfolding lines_of_code
code_exact [] fits = tt
code_exact (i ∷ code) fits = (instruction_line i fits.0, code_exact code fits.1)

lines_exact : (maps : List MapDef) (code : List Insn) → AllByRecursion MapFits maps → AllByRecursion FieldsFit code →
    AllByRecursion IsExactLine (lines_of maps code)
unfolding lines_of
lines_exact [] code maps_fit fits = code_exact code fits
lines_exact (m ∷ maps) code maps_fit fits = (map_line m maps_fit.0, lines_exact maps code maps_fit.1 fits)

code_is : (code : List Insn) → text_of_lines (lines_of_code code) ≡ code_text code
unfolding lines_of_code
code_is [] = refl
code_is (i ∷ code) = ap (λ (text : List ℕ). ended (line_of i) ++ text) (code_is code)

lines_are : (maps : List MapDef) (code : List Insn) → text_of_lines (lines_of maps code) ≡ maps_text maps ++ code_text code
unfolding lines_of
lines_are [] code = code_is code
lines_are (m ∷ maps) code =
    ap (λ (text : List ℕ). ended (map_line_of m) ++ text) (lines_are maps code)
    ∙ sym (append_assoc (ended (map_line_of m)) (maps_text maps) (code_text code))

version_is : (version : Version) → ended (version_line version) ≡ version_text version
unfolding version_line
version_is V1 = refl
version_is V2 = refl

all_are : (version : Version) (maps : List MapDef) (code : List Insn) →
    text_of_lines (version_line version ∷ lines_of maps code) ≡ parts_text version maps code
all_are version maps code =
    ap (λ (text : List ℕ). text ++ text_of_lines (lines_of maps code)) (version_is version)
    ∙ ap (λ (text : List ℕ). version_text version ++ text) (lines_are maps code)
    ∙ sym (append_assoc (version_text version) (maps_text maps) (code_text code))

pub exact_is_source : (text : List ℕ) (image : Contents) → IsAssemblyText text image → IsSource text image
exact_is_source text image is =
    let lines : List (List ℕ) = version_line image.version ∷ lines_of image.maps image.code in
    let exact : AllByRecursion IsExactLine lines = (
      version_is_exact image.version,
      lines_exact image.maps image.code
          (all_fit image.version image.maps is.encodable.maps_allowed) is.encodable.fields_fit,
    ) in
    let same : text_of_lines lines ≡ text = all_are image.version image.maps image.code ∙ sym is.spelled in
    record { text = text; means = rw (← same) (exact_means lines exact); spells = is }
