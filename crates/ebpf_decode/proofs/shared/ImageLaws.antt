-- What is read is encoded so, and what is encoded is read: whole images.
use Rattle.std.proofs.Common.{◌≡◌, ℕ, zero, suc, ◌+◌, ◌*◌, ◌/◌, ◌%◌, ◌≤◌, Bool, true, false, cond, ◌&&◌, eqb, ltb, List, [], ◌∷◌, ◌++◌, length, get_or, drop, Option, Some, None, Result, Ok, Err, refl, sym, ap, subst, ◌∙◌, append_assoc, arith, lit≤}
use Rattle.std.specs.Prelude.{nat_le, nat_lt, not, ◌||◌, IsTrue, ◌≢◌, is_some, unwrap_or}
use Rattle.std.specs.List.{flat_map, AllByRecursion}
use Rattle.std.proofs.lemmas.Bool.{eqb-true, eqb-false, ne_eqb, eq-eqb, leb-true, le-leb, ltb-false, le-ltb, lt-ltb}
use Rattle.std.proofs.lemmas.List.{length-append, length-drop}
use Rattle.ebpf_decode.specs.declared.fault.DecodeFault.{DecodeFault}
use Rattle.ebpf_decode.specs.declared.fault.DecodeFault.TheVariants.{BadHead, Empty, NotWhole, TooLong, Memory}
use Rattle.ebpf_decode.specs.declared.slot.CodeSlot.{CodeSlot}
use Rattle.ebpf_decode.specs.declared.insn.Insn.{Insn}
use Rattle.ebpf_decode.specs.declared.insn.Insn.TheVariants.{Lddw, Ldmap, Ldval}
use Rattle.ebpf_decode.specs.declared.map.MapDef.{MapDef}
use Rattle.ebpf_decode.specs.declared.version.Version.{Version}
use Rattle.ebpf_decode.specs.declared.version.Version.TheVariants.{V1, V2}
use Rattle.ebpf_decode.specs.Versions.{version_number, version_of, is_in_version, IsInVersion}
use Rattle.ebpf_decode.specs.SlotForm.{slot_bytes, slots_at}
use Rattle.ebpf_decode.specs.InstructionEncoding.{total_slots, slot_count, instruction_bytes, FieldsFit, IsInstructionEncoding}
use Rattle.ebpf_decode.specs.InstructionReading.{◌>>=◌, code_from}
use Rattle.ebpf_decode.specs.MapForm.{map_bytes}
use Rattle.ebpf_decode.specs.ImageContents.{Contents, IsEncodable}
use Rattle.ebpf_decode.specs.ImageFormat.{head_bytes, image_bytes, IsImageEncoding, map_count, version_at, has_head, maps_at, code_at, image_at, has_code_size, may_ask_memory}
use Rattle.ebpf_decode.proofs.Slots.{slots_of}
use Rattle.ebpf_decode.proofs.shared.SlotLaws.{IsBytes, IsBytes-drop, both, slots_take, slots_fit, slots_again}
use Rattle.ebpf_decode.proofs.CodeLaws.{bind_ok, IsAllowed, each_allowed, allowed_fit, allowed_in_version, code_found, code_again, length_slots, bytes_of_slots}
use Rattle.ebpf_decode.proofs.MapLaws.{maps_take, maps_again}
use Rattle.ebpf_decode.proofs.FieldFacts.{slots_of_fit}

-- ---- programs

length_slots_at : (n : ℕ) (bytes : List ℕ) → length (slots_at n bytes) ≡ n
unfolding slots_at
length_slots_at zero bytes = refl
length_slots_at (suc n) bytes = ap (λ (k : ℕ). suc k) (length_slots_at n (drop 8 bytes))

pub record TakesCode (version : Version) (bytes : List ℕ) (code : List Insn) : Type 0 where
  pub parts : bytes ≡ flat_map instruction_bytes code
  pub some : 1 ≤ length code
  pub few : total_slots code ≤ 4096
  pub allowed : AllByRecursion (IsAllowed version) code

abbrev program : List Insn → Result (List Insn) DecodeFault
program code = Ok code

-- a test that a reading passed
passed : (b : Bool) (fault : DecodeFault) (x : Result (List Insn) DecodeFault) (code : List Insn) → cond b (Err fault) x ≡ program code → (b ≡ false) × (x ≡ program code)
passed true fault x code e = absurd cc
passed false fault x code e = (refl, e)

not_false : (b : Bool) → not b ≡ false → b ≡ true
not_false true e = refl
not_false false e = absurd cc

some_code : (n : ℕ) (code : List Insn) → 1 ≤ n → total_slots code ≡ n → 1 ≤ length code
some_code n [] le e = absurd (omega arith)
some_code n (insn ∷ code) le e = omega arith

pub code_takes : (version : Version) (bytes : List ℕ) (code : List Insn) → IsBytes bytes → code_at version bytes ≡ Ok code → TakesCode version bytes code
unfolding code_at
code_takes version bytes code fits e =
    let n = length bytes / 8 in
    let one = passed (eqb (length bytes) 0) Empty (cond (not (eqb (length bytes % 8) 0)) (Err NotWhole) (cond (ltb 4096 (length bytes / 8)) (Err TooLong) (code_from version 0 None (slots_at (length bytes / 8) bytes)))) code e in
    let two = passed (not (eqb (length bytes % 8) 0)) NotWhole (cond (ltb 4096 (length bytes / 8)) (Err TooLong) (code_from version 0 None (slots_at (length bytes / 8) bytes))) code one.1 in
    let three = passed (ltb 4096 (length bytes / 8)) TooLong (code_from version 0 None (slots_at (length bytes / 8) bytes)) code two.1 in
    let whole : length bytes % 8 ≡ 0 = eqb-true (length bytes % 8) 0 (not_false (eqb (length bytes % 8) 0) two.0) in
    let long : length bytes ≡ 8 * (length bytes / 8) = omega arith in
    let few : length bytes / 8 ≤ 4096 = ltb-false 4096 (length bytes / 8) three.0 in
    let found = code_found version 0 None (slots_at (length bytes / 8) bytes) code (slots_fit (length bytes / 8) bytes fits) tt three.1 in
    let total : total_slots code ≡ length bytes / 8 = sym (length_slots code) ∙ sym (ap (λ (s : List CodeSlot). length s) found.0) ∙ length_slots_at (length bytes / 8) bytes in
    let nonempty : ¬ (length bytes ≡ 0) = eqb-false (length bytes) 0 one.0 in
    let positive : 1 ≤ length bytes / 8 = omega (arith, nonempty) in
    record {
      parts = slots_take (length bytes / 8) bytes fits long ∙ ap (λ (s : List CodeSlot). flat_map slot_bytes s) found.0 ∙ bytes_of_slots code;
      some = some_code (length bytes / 8) code positive total;
      few = omega arith;
      allowed = found.1;
    }

length_slot_bytes : (slots : List CodeSlot) → length (flat_map slot_bytes slots) ≡ 8 * length slots
length_slot_bytes [] = refl
length_slot_bytes (s ∷ slots) = omega (arith, length-append (slot_bytes s) (flat_map slot_bytes slots), length_slot_bytes slots)

not_zero : (n : ℕ) → 1 ≤ n → eqb n 0 ≡ false
not_zero n le = ne_eqb n 0 (λ e. omega arith)

code_of_parts : (version : Version) (bytes : List ℕ) (n : ℕ) (code : List Insn) → length bytes ≡ 8 * n → 1 ≤ n → n ≤ 4096 → code_from version 0 None (slots_at n bytes) ≡ Ok code → code_at version bytes ≡ Ok code
unfolding code_at
code_of_parts version bytes n code long positive few read =
    let some : eqb (length bytes) 0 ≡ false = not_zero (length bytes) (omega arith) in
    let whole : eqb (length bytes % 8) 0 ≡ true = eq-eqb (length bytes % 8) 0 (omega arith) in
    let count : length bytes / 8 ≡ n = omega arith in
    let short : ltb 4096 n ≡ false = le-ltb 4096 n few in
    rw (some, whole, count, short) read

positive_total : (code : List Insn) → 1 ≤ length code → 1 ≤ length (slots_of code)
positive_total [] le = absurd (omega arith)
positive_total (insn ∷ code) le = omega arith

pub program_again : (version : Version) (code : List Insn) → 1 ≤ length code → total_slots code ≤ 4096 → AllByRecursion (IsAllowed version) code → code_at version (flat_map instruction_bytes code) ≡ Ok code
program_again version code some few allowed =
    let slots = slots_of code in
    let total : length (slots_of code) ≡ total_slots code = length_slots code in
    let bytes : flat_map slot_bytes (slots_of code) ≡ flat_map instruction_bytes code = bytes_of_slots code in
    let read : code_from version 0 None (slots_at (length (slots_of code)) (flat_map slot_bytes (slots_of code))) ≡ Ok code = ap (λ (s : List CodeSlot). code_from version 0 None s) (slots_again (slots_of code) (slots_of_fit code (allowed_fit version code allowed))) ∙ code_again version code allowed 0 in
    let whole : code_at version (flat_map slot_bytes (slots_of code)) ≡ Ok code = code_of_parts version (flat_map slot_bytes (slots_of code)) (length (slots_of code)) code (length_slot_bytes (slots_of code)) (positive_total code some) (omega (arith, total, few)) read in
    ap (code_at version) (sym bytes) ∙ whole

-- ---- heads

record Ten (a b c d e f g h i j : Bool) : Type 0 where
  a-true : a ≡ true
  b-true : b ≡ true
  c-true : c ≡ true
  d-true : d ≡ true
  e-true : e ≡ true
  f-true : f ≡ true
  g-true : g ≡ true
  h-true : h ≡ true
  i-true : i ≡ true
  j-true : j ≡ true

ten_true : (a b c d e f g h i j : Bool) → (a && b && c && d && e && f && g && h && i && j) ≡ true → Ten a b c d e f g h i j
ten_true a b c d e f g h i j t =
    let t9 = both (a && b && c && d && e && f && g && h && i) j t in
    let t8 = both (a && b && c && d && e && f && g && h) i t9.0 in
    let t7 = both (a && b && c && d && e && f && g) h t8.0 in
    let t6 = both (a && b && c && d && e && f) g t7.0 in
    let t5 = both (a && b && c && d && e) f t6.0 in
    let t4 = both (a && b && c && d) e t5.0 in
    let t3 = both (a && b && c) d t4.0 in
    let t2 = both (a && b) c t3.0 in
    let t1 = both a b t2.0 in
    record { a-true = t1.0; b-true = t1.1; c-true = t2.1; d-true = t3.1; e-true = t4.1; f-true = t5.1; g-true = t6.1; h-true = t7.1; i-true = t8.1; j-true = t9.1 }

all_ten : (a b c d e f g h i j : Bool) → a ≡ true → b ≡ true → c ≡ true → d ≡ true → e ≡ true → f ≡ true → g ≡ true → h ≡ true → i ≡ true → j ≡ true → (a && b && c && d && e && f && g && h && i && j) ≡ true
all_ten a b c d e f g h i j pa pb pc pd pe pf pg ph pi pj = rw (pa, pb, pc, pd, pe, pf, pg, ph, pi, pj) refl

head_facts : (bytes : List ℕ) → has_head bytes ≡ true → Ten (nat_le 8 (length bytes)) (eqb (get_or bytes 0 0) 0x58) (eqb (get_or bytes 1 0) 0x4c) (eqb (get_or bytes 2 0) 0x42) (eqb (get_or bytes 3 0) 0x50) (is_some (version_of (get_or bytes 4 0))) (nat_le (map_count bytes) 16) (eqb (get_or bytes 6 0) 0) (eqb (get_or bytes 7 0) 0) (nat_le (8 + 16 * map_count bytes) (length bytes))
head_facts bytes t = ten_true (nat_le 8 (length bytes)) (eqb (get_or bytes 0 0) 0x58) (eqb (get_or bytes 1 0) 0x4c) (eqb (get_or bytes 2 0) 0x42) (eqb (get_or bytes 3 0) 0x50) (is_some (version_of (get_or bytes 4 0))) (nat_le (map_count bytes) 16) (eqb (get_or bytes 6 0) 0) (eqb (get_or bytes 7 0) 0) (nat_le (8 + 16 * map_count bytes) (length bytes)) t

eight_cells : (a a' b b' c c' d d' e e' f f' g g' h h' : ℕ) (rest : List ℕ) → a ≡ a' → b ≡ b' → c ≡ c' → d ≡ d' → e ≡ e' → f ≡ f' → g ≡ g' → h ≡ h' → a ∷ b ∷ c ∷ d ∷ e ∷ f ∷ g ∷ h ∷ rest ≡ a' ∷ b' ∷ c' ∷ d' ∷ e' ∷ f' ∷ g' ∷ h' ∷ rest
eight_cells a a' b b' c c' d d' e e' f f' g g' h h' rest ea eb ec ed ee ef eg eh = rw (ea, eb, ec, ed, ee, ef, eg, eh) refl

abbrev first_version : Option Version → Version
first_version found = unwrap_or found V1

version_second : (number : ℕ) (b : Bool) → eqb number 2 ≡ b → is_some (cond b (Some V2) None) ≡ true → number ≡ version_number (first_version (cond b (Some V2) None))
version_second number true e some = eqb-true number 2 e
version_second number false e some = absurd cc

version_first : (number : ℕ) (b : Bool) → eqb number 1 ≡ b → is_some (cond b (Some V1) (cond (eqb number 2) (Some V2) None)) ≡ true → number ≡ version_number (first_version (cond b (Some V1) (cond (eqb number 2) (Some V2) None)))
version_first number true e some = eqb-true number 1 e
version_first number false e some = version_second number (eqb number 2) refl some

-- a version that there is has this number
version_takes : (number : ℕ) → is_some (version_of number) ≡ true → number ≡ version_number (first_version (version_of number))
version_takes number some = version_first number (eqb number 1) refl some

version_again : (version : Version) → version_of (version_number version) ≡ Some version
version_again V1 = refl
version_again V2 = refl

head_takes : (bytes : List ℕ) → has_head bytes ≡ true → bytes ≡ head_bytes (version_at bytes) (map_count bytes) ++ drop 8 bytes
head_takes (a ∷ b ∷ c ∷ d ∷ e ∷ f ∷ g ∷ h ∷ rest) t =
    let facts = head_facts (a ∷ b ∷ c ∷ d ∷ e ∷ f ∷ g ∷ h ∷ rest) t in
    eight_cells a 0x58 b 0x4c c 0x42 d 0x50 e (version_number (first_version (version_of e))) f f g 0 h 0 rest (eqb-true a 0x58 facts.b-true) (eqb-true b 0x4c facts.c-true) (eqb-true c 0x42 facts.d-true) (eqb-true d 0x50 facts.e-true) (version_takes e facts.f-true) refl (eqb-true g 0 facts.h-true) (eqb-true h 0 facts.i-true)
head_takes bytes t = absurd (let long : 8 ≤ length bytes = leb-true 8 (length bytes) (head_facts bytes t).a-true in omega arith)

-- ---- images

abbrev an_image : Contents → Result Contents DecodeFault
an_image image = Ok image

same_image : (a b : Contents) → an_image a ≡ an_image b → a ≡ b
same_image a b e = cc

passed_head : (b : Bool) (x : Result Contents DecodeFault) (image : Contents) → cond b x (Err BadHead) ≡ an_image image → (b ≡ true) × (x ≡ an_image image)
passed_head true x image e = (refl, e)
passed_head false x image e = absurd cc

pub image_takes : (bytes : List ℕ) (image : Contents) → IsBytes bytes → image_at bytes ≡ Ok image → IsImageEncoding bytes image
unfolding image_at
image_takes bytes image fits e =
    let p = passed_head (has_head bytes) (maps_at (version_at bytes) 0 (map_count bytes) (drop 8 bytes) >>= λ found. code_at (version_at bytes) found.1 >>= λ code. Ok (record { version = version_at bytes; maps = found.0; code = code })) image e in
    let b = bind_ok (maps_at (version_at bytes) 0 (map_count bytes) (drop 8 bytes)) (λ found. code_at (version_at bytes) found.1 >>= λ code. Ok (record { version = version_at bytes; maps = found.0; code = code })) image p.1 in
    let c = bind_ok (code_at (version_at bytes) b.0.1) (λ code. Ok (record { version = version_at bytes; maps = b.0.0; code = code })) image b.2 in
    let facts = head_facts bytes p.0 in
    let few : map_count bytes ≤ 16 = leb-true (map_count bytes) 16 facts.g-true in
    let long : 8 + 16 * map_count bytes ≤ length bytes = leb-true (8 + 16 * map_count bytes) (length bytes) facts.j-true in
    let maps = maps_take (version_at bytes) 0 (map_count bytes) (drop 8 bytes) b.0.0 b.0.1 (IsBytes-drop 8 bytes fits) (omega (arith, length-drop 8 bytes)) b.1 in
    let code = code_takes (version_at bytes) b.0.1 c.0 maps.rest_fits c.1 in
    let made : Contents = record { version = version_at bytes; maps = b.0.0; code = c.0 } in
    let count : length b.0.0 ≡ map_count bytes = maps.count_is in
    let encoded : bytes ≡ image_bytes made =
    head_takes bytes p.0 ∙ ap (λ (x : List ℕ). head_bytes (version_at bytes) (map_count bytes) ++ x) (maps.parts ∙ ap (λ (x : List ℕ). flat_map map_bytes b.0.0 ++ x) code.parts) ∙ ap (λ (k : ℕ). head_bytes (version_at bytes) k ++ (flat_map map_bytes b.0.0 ++ flat_map instruction_bytes c.0)) (sym count) ∙ sym (append_assoc (head_bytes (version_at bytes) (length b.0.0)) (flat_map map_bytes b.0.0) (flat_map instruction_bytes c.0)) in
    let whole : IsImageEncoding bytes made = record { encodable = record { few_maps = omega arith; maps_allowed = maps.allowed; some_code = code.some; few_slots = code.few; fields_fit = allowed_fit (version_at bytes) c.0 code.allowed; in_version = allowed_in_version (version_at bytes) c.0 code.allowed }; encoded = encoded } in
    subst (λ (x : Contents). IsImageEncoding bytes x) (same_image made image c.2) whole

length_map_bytes : (maps : List MapDef) → length (flat_map map_bytes maps) ≡ 16 * length maps
length_map_bytes [] = refl
length_map_bytes (m ∷ maps) = omega (arith, length-append (map_bytes m) (flat_map map_bytes maps), length_map_bytes maps)

image_of_parts : (version : Version) (bytes : List ℕ) (maps : List MapDef) (rest : List ℕ) (code : List Insn) → has_head bytes ≡ true → version_at bytes ≡ version → maps_at version 0 (map_count bytes) (drop 8 bytes) ≡ Ok (maps, rest) → code_at version rest ≡ Ok code
    → image_at bytes ≡ Ok (record { version = version; maps = maps; code = code })
unfolding image_at
image_of_parts version bytes maps rest code head known found read = rw (head, known, found, read) refl

abbrev bytes_of_parts : Version → List MapDef → List ℕ → List ℕ
bytes_of_parts version maps rest = head_bytes version (length maps) ++ (flat_map map_bytes maps ++ rest)

head_again : (version : Version) (maps : List MapDef) (rest : List ℕ) → length maps ≤ 16 → has_head (bytes_of_parts version maps rest) ≡ true
head_again version maps rest few =
    let long : 8 + 16 * length maps ≤ length (bytes_of_parts version maps rest) = omega (arith, length-append (flat_map map_bytes maps) rest, length_map_bytes maps) in
    let eight : 8 ≤ length (bytes_of_parts version maps rest) = omega arith in
    let known : is_some (version_of (version_number version)) ≡ true = rw (version_again version) refl in
    all_ten (nat_le 8 (length (bytes_of_parts version maps rest))) true true true true (is_some (version_of (version_number version))) (nat_le (length maps) 16) true true (nat_le (8 + 16 * length maps) (length (bytes_of_parts version maps rest))) (le-leb _ _ eight) refl refl refl refl known (le-leb _ _ few) refl refl (le-leb _ _ long)

pub image_again : (image : Contents) → IsEncodable image.version image.maps image.code → image_at (image_bytes image) ≡ Ok image
image_again image ok =
    let code = flat_map instruction_bytes image.code in
    let grouped : image_bytes image ≡ bytes_of_parts image.version image.maps (flat_map instruction_bytes image.code) = append_assoc (head_bytes image.version (length image.maps)) (flat_map map_bytes image.maps) (flat_map instruction_bytes image.code) in
    let known : version_at (bytes_of_parts image.version image.maps (flat_map instruction_bytes image.code)) ≡ image.version = ap first_version (version_again image.version) in
    ap image_at grouped ∙ image_of_parts image.version (bytes_of_parts image.version image.maps (flat_map instruction_bytes image.code)) image.maps (flat_map instruction_bytes image.code) image.code (head_again image.version image.maps (flat_map instruction_bytes image.code) ok.few_maps) known (maps_again image.version 0 image.maps (flat_map instruction_bytes image.code) ok.maps_allowed) (program_again image.version image.code ok.some_code ok.few_slots (each_allowed image.version image.code ok.fields_fit ok.in_version))

-- ---- what decode says

pub read_again : (bytes : List ℕ) (image : Contents) → IsImageEncoding bytes image → image_at bytes ≡ Ok image
read_again bytes image is = ap image_at is.encoded ∙ image_again image is.encodable

abbrev refused : DecodeFault → Result Contents DecodeFault
refused fault = Err fault

differ : (fault : DecodeFault) (image : Contents) → refused fault ≡ an_image image → ⊥
differ fault image e = cc

pub only_memory : (bytes : List ℕ) (fault : DecodeFault) (image : Contents) → (fault ≢ Memory → image_at bytes ≡ Err fault) → IsImageEncoding bytes image → refused fault ≢ refused Memory → refused fault ≡ Ok image
only_memory bytes fault image gives is other =
    let read : image_at bytes ≡ Ok image = read_again bytes image is in
    let failed : image_at bytes ≡ Err fault = gives (λ e. other (ap refused e)) in
    absurd (differ fault image (sym failed ∙ read))

-- ---- each image has one encoding

pub one_image : (bytes : List ℕ) (a b : Contents) → IsImageEncoding bytes a → IsImageEncoding bytes b → a ≡ b
one_image bytes a b is_a is_b = same_image a b (sym (read_again bytes a is_a) ∙ read_again bytes b is_b)

pub one_encoding : (x y : List ℕ) (image : Contents) → IsImageEncoding x image → IsImageEncoding y image → x ≡ y
one_encoding x y image is_x is_y = is_x.encoded ∙ sym is_y.encoded

few_of_one : (insn : Insn) → total_slots (insn ∷ []) ≤ 4096
unfolding slot_count
few_of_one (Lddw dst value) = lit≤ tt
few_of_one (Ldmap dst map) = lit≤ tt
few_of_one (Ldval dst map offset) = lit≤ tt
few_of_one insn = lit≤ tt

same_first : (a b : Insn) → program (a ∷ []) ≡ program (b ∷ []) → a ≡ b
same_first a b e = cc

-- version 2 has every instruction
in_version_2 : (insn : Insn) → IsInVersion V2 insn
unfolding is_in_version
in_version_2 (Ldval dst map offset) = refl
in_version_2 insn = refl

pub one_instruction : (bytes : List ℕ) (a b : Insn) → IsInstructionEncoding bytes a → IsInstructionEncoding bytes b → a ≡ b
one_instruction bytes a b is_a is_b =
    let same : flat_map instruction_bytes (a ∷ []) ≡ flat_map instruction_bytes (b ∷ []) = ap (λ (x : List ℕ). x ++ []) (sym is_a.encoded ∙ is_b.encoded) in
    let read_a : code_at V2 (flat_map instruction_bytes (a ∷ [])) ≡ Ok (a ∷ []) = program_again V2 (a ∷ []) (lit≤ tt) (few_of_one a) ((is_a.fields_fit, in_version_2 a), tt) in
    let read_b : code_at V2 (flat_map instruction_bytes (b ∷ [])) ≡ Ok (b ∷ []) = program_again V2 (b ∷ []) (lit≤ tt) (few_of_one b) ((is_b.fields_fit, in_version_2 b), tt) in
    same_first a b (sym read_a ∙ ap (code_at V2) same ∙ read_b)

-- ---- where memory may be asked for

abbrev bytes_after : Result (List MapDef × List ℕ) DecodeFault → List ℕ
bytes_after (Ok read) = read.1
bytes_after (Err fault) = []

maps_or_size : (version : Version) (n : ℕ) (bytes rest : List ℕ) (maps : List MapDef) → maps_at version 0 n bytes ≡ Ok (maps, rest) → IsTrue (has_code_size rest) → IsTrue (nat_lt 0 n || has_code_size bytes)
unfolding maps_at
maps_or_size version zero bytes rest maps read size =
    let same : bytes ≡ rest = ap (λ (r : Result (List MapDef × List ℕ) DecodeFault). bytes_after r) read in
    rw same size
maps_or_size version (suc n) bytes rest maps read size =
    let some : nat_lt 0 (suc n) ≡ true = lt-ltb 0 (suc n) (omega arith) in
    rw some refl

-- a program of a right size comes after the maps
pub asks_for_code : (bytes rest : List ℕ) (maps : List MapDef) → has_head bytes ≡ true → maps_at (version_at bytes) 0 (map_count bytes) (drop 8 bytes) ≡ Ok (maps, rest) → IsTrue (has_code_size rest) → IsTrue (may_ask_memory bytes)
asks_for_code bytes rest maps head read size = rw head (maps_or_size (version_at bytes) (map_count bytes) (drop 8 bytes) rest maps read size)
