-- The first fault of a file that is longer than any image is that of its front, where both have slots that are whole alike.
use Rattle.std.proofs.Common.{◌≡◌, ◌∙◌, ℕ, zero, suc, ◌+◌, ◌*◌, ◌/◌, ◌%◌, ◌-◌, ◌≤◌, ◌<◌, Bool, true, false, cond, ◌&&◌, eqb, ltb, List, ◌∷◌, ◌++◌, length, drop, take, Some, Result, Ok, Err, refl, sym, ap, subst, arith}
use Rattle.std.specs.Prelude.{nat_le, nat_lt, not, ◌||◌, ◌≢◌, ◌==◌, min, IsTrue, IfOk, is_some, slice_index}
use Rattle.std.specs.Option.{ok_or}
use Rattle.std.proofs.lemmas.Bool.{eqb-false, ne_eqb, le-leb, lt-leb, lt-ltb, leb-true}
use Rattle.std.proofs.lemmas.List.{length-append, length-take, length-take-le, take-append-drop, take-take}
use Rattle.folders.specs.Fronts.{IsFrontOf}
use Rattle.folders.specs.declared.folder.Front.{Front}
use Rattle.ebpf_decode.specs.declared.fault.DecodeFault.{DecodeFault}
use Rattle.ebpf_decode.specs.declared.fault.DecodeFault.TheVariants.{BadHead, BadMap, NotWhole, TooLong, Memory}
use Rattle.ebpf_decode.specs.declared.insn.Insn.{Insn}
use Rattle.ebpf_decode.specs.declared.map.MapDef.{MapDef}
use Rattle.ebpf_decode.specs.declared.version.Version.{Version}
use Rattle.ebpf_decode.specs.Versions.{version_of}
use Rattle.ebpf_decode.specs.InstructionReading.{◌>>=◌}
use Rattle.ebpf_decode.specs.MapForm.{map_in_bytes}
use Rattle.ebpf_decode.specs.ImageContents.{Contents}
use Rattle.ebpf_decode.specs.ImageFormat.{has_head, map_count, version_at, maps_at, code_at, image_at, has_code_size, may_ask_memory, fault_of, first_decode_fault, IsImageEncoding}
use Rattle.ebpf_decode.proofs.shared.SlotLaws.{both}
use Rattle.ebpf_decode.proofs.shared.ImageLaws.{read_again}
use Rattle.xlb_commands.specs.Refused.{IsDecodeRefusal, kept_of_image, beyond_images}

false_is_not_true : false ≡ true → ⊥
false_is_not_true is = absurd cc

and_false : (front : Bool) → (front && false) ≡ false
and_false true = refl
and_false false = refl

-- ---- programs

-- what a program of more than 4096 slots is refused for
abbrev long_program : ℕ → Result (List Insn) DecodeFault
long_program size = cond (not (eqb (size % 8) 0)) (Err NotWhole) (Err TooLong)

long_code : (version : Version) (bytes : List ℕ) → 32776 ≤ length bytes → code_at version bytes ≡ long_program (length bytes)
unfolding code_at
long_code version bytes long =
    let some : eqb (length bytes) 0 ≡ false = ne_eqb (length bytes) 0 (λ e. omega arith) in
    let many : ltb 4096 (length bytes / 8) ≡ true = lt-ltb 4096 (length bytes / 8) (omega arith) in
    rw (some, many) refl

same_code : (version : Version) (front rest : List ℕ) → 32776 ≤ length front → length (front ++ rest) % 8 ≡ length front % 8
    → code_at version (front ++ rest) ≡ code_at version front
same_code version front rest long whole =
    let longer : 32776 ≤ length (front ++ rest) = omega (arith, length-append front rest) in
    long_code version (front ++ rest) longer
    ∙ (ap (λ (odd : ℕ). cond (not (eqb odd 0)) (Err NotWhole) (Err TooLong)) whole
    ∙ sym (long_code version front long))

-- ---- maps

-- with more bytes after those that are left
abbrev with_rest : List ℕ → Result (List MapDef × List ℕ) DecodeFault → Result (List MapDef × List ℕ) DecodeFault
with_rest rest (Ok found) = Ok (found.0, found.1 ++ rest)
with_rest rest (Err fault) = Err fault

-- a map more
abbrev one_more : MapDef → Result (List MapDef × List ℕ) DecodeFault → Result (List MapDef × List ℕ) DecodeFault
one_more first others = others >>= λ found. Ok (first ∷ found.0, found.1)

more_with_rest : (first : MapDef) (rest : List ℕ) (others : Result (List MapDef × List ℕ) DecodeFault)
    → one_more first (with_rest rest others) ≡ with_rest rest (one_more first others)
more_with_rest first rest (Ok found) = refl
more_with_rest first rest (Err fault) = refl

-- the same after a map that may be missing
after_first : (rest : List ℕ) (first : Result MapDef DecodeFault) (longer others : Result (List MapDef × List ℕ) DecodeFault) → longer ≡ with_rest rest others
    → (first >>= λ map. one_more map longer) ≡ with_rest rest (first >>= λ map. one_more map others)
after_first rest (Ok map) longer others same = ap (one_more map) same ∙ more_with_rest map rest others
after_first rest (Err fault) longer others same = refl

maps_front : (version : Version) (place n : ℕ) (front rest : List ℕ) → 16 * n ≤ length front
    → maps_at version place n (front ++ rest) ≡ with_rest rest (maps_at version place n front)
unfolding maps_at map_in_bytes
maps_front version place zero front rest long = refl
maps_front version place (suc n) (b0 ∷ b1 ∷ b2 ∷ b3 ∷ b4 ∷ b5 ∷ b6 ∷ b7 ∷ b8 ∷ b9 ∷ b10 ∷ b11 ∷ b12 ∷ b13 ∷ b14 ∷ b15 ∷ front) rest long =
    after_first rest
    (ok_or (map_in_bytes version (b0 ∷ b1 ∷ b2 ∷ b3 ∷ b4 ∷ b5 ∷ b6 ∷ b7 ∷ b8 ∷ b9 ∷ b10 ∷ b11 ∷ b12 ∷ b13 ∷ b14 ∷ b15 ∷ front)) (BadMap place))
    (maps_at version (place + 1) n (front ++ rest)) (maps_at version (place + 1) n front)
    (maps_front version (place + 1) n front rest (omega arith))
maps_front version place (suc n) front rest long = absurd (omega arith)

-- how many bytes are left
abbrev AreLeft : ℕ → Result (List MapDef × List ℕ) DecodeFault → Type 0
AreLeft size found = IfOk found (λ read. length read.1 ≡ size)

left_after : (size : ℕ) (first : Result MapDef DecodeFault) (others : Result (List MapDef × List ℕ) DecodeFault) → AreLeft size others
    → AreLeft size (first >>= λ map. one_more map others)
left_after size (Ok map) (Ok found) left = left
left_after size (Ok map) (Err fault) left = tt
left_after size (Err fault) others left = tt

maps_left : (version : Version) (place n : ℕ) (bytes : List ℕ) (size : ℕ) → length bytes ≡ 16 * n + size → AreLeft size (maps_at version place n bytes)
unfolding maps_at
maps_left version place zero bytes size long = omega arith
maps_left version place (suc n) (b0 ∷ b1 ∷ b2 ∷ b3 ∷ b4 ∷ b5 ∷ b6 ∷ b7 ∷ b8 ∷ b9 ∷ b10 ∷ b11 ∷ b12 ∷ b13 ∷ b14 ∷ b15 ∷ bytes) size long =
    left_after size
    (ok_or (map_in_bytes version (b0 ∷ b1 ∷ b2 ∷ b3 ∷ b4 ∷ b5 ∷ b6 ∷ b7 ∷ b8 ∷ b9 ∷ b10 ∷ b11 ∷ b12 ∷ b13 ∷ b14 ∷ b15 ∷ bytes)) (BadMap place))
    (maps_at version (place + 1) n bytes)
    (maps_left version (place + 1) n bytes size (omega arith))
maps_left version place (suc n) bytes size long = absurd (omega arith)

-- ---- heads

-- what comes after a test that fails counts for nothing
last_test : (front few g h one other : Bool) → (few ≡ true → one ≡ other) → (front && few && g && h && one) ≡ (front && few && g && h && other)
last_test front true g h one other same = ap (λ (last : Bool). front && true && g && h && last) (same refl)
last_test true false g h one other same = refl
last_test false false g h one other same = refl

all_tests : (one other b c d e f few g h last again : Bool) → one ≡ other → (few ≡ true → last ≡ again)
    → (one && b && c && d && e && f && few && g && h && last) ≡ (other && b && c && d && e && f && few && g && h && again)
all_tests one other b c d e f few g h last again same later =
    ap (λ (first : Bool). first && b && c && d && e && f && few && g && h && last) same ∙ last_test (other && b && c && d && e && f) few g h last again later

head_front : (front rest : List ℕ) → 264 ≤ length front → has_head (front ++ rest) ≡ has_head front
head_front (a ∷ b ∷ c ∷ d ∷ e ∷ f ∷ g ∷ h ∷ front) rest long =
    let bytes = a ∷ b ∷ c ∷ d ∷ e ∷ f ∷ g ∷ h ∷ front in
    let longer : 264 ≤ length (bytes ++ rest) = omega (arith, length-append bytes rest) in
    let eight : nat_le 8 (length (bytes ++ rest)) ≡ nat_le 8 (length bytes) = le-leb _ _ (omega arith) ∙ sym (le-leb _ _ (omega arith)) in
    all_tests (nat_le 8 (length (bytes ++ rest))) (nat_le 8 (length bytes)) (eqb a 0x58) (eqb b 0x4c) (eqb c 0x42) (eqb d 0x50) (is_some (version_of e))
    (nat_le f 16) (eqb g 0) (eqb h 0) (nat_le (8 + 16 * f) (length (bytes ++ rest))) (nat_le (8 + 16 * f) (length bytes)) eight
    (λ few.
    let most : f ≤ 16 = leb-true f 16 few in
    le-leb (8 + 16 * f) (length (bytes ++ rest)) (omega arith) ∙ sym (le-leb (8 + 16 * f) (length bytes) (omega arith)))
head_front front rest long = absurd (omega arith)

-- ---- images

-- the image of these maps and of the bytes after them
abbrev image_after : Version → List MapDef × List ℕ → Result Contents DecodeFault
image_after version found = code_at version found.1 >>= λ code. Ok (record { version = version; maps = found.0; code = code })

same_after : (version : Version) (rest : List ℕ) (size : ℕ) (found : Result (List MapDef × List ℕ) DecodeFault) → AreLeft size found → 32776 ≤ size
    → (size + length rest) % 8 ≡ size % 8 → (with_rest rest found >>= image_after version) ≡ (found >>= image_after version)
same_after version rest size (Ok found) left long whole =
    let longer : length (found.1 ++ rest) ≡ size + length rest = omega (arith, length-append found.1 rest) in
    let alike : length (found.1 ++ rest) % 8 ≡ length found.1 % 8 = rw (longer, left) whole in
    ap (λ (code : Result (List Insn) DecodeFault). code >>= λ insns. Ok (record { version = version; maps = found.0; code = insns }))
    (same_code version found.1 rest (omega arith) alike)
same_after version rest size (Err fault) left long whole = refl

-- the head of bytes, seen as whole numbers
head_is_of_16 : (bytes : List ℕ) → has_head bytes ≡ true → map_count bytes ≤ 16
head_is_of_16 bytes head =
    let tests =
    nat_le 8 (length bytes) && (slice_index bytes 0 == 0x58) && (slice_index bytes 1 == 0x4c) && (slice_index bytes 2 == 0x42) && (slice_index bytes 3 == 0x50)
    && is_some (version_of (slice_index bytes 4)) in
    let four = both (tests && nat_le (map_count bytes) 16 && (slice_index bytes 6 == 0) && (slice_index bytes 7 == 0)) _ head in
    let three = both (tests && nat_le (map_count bytes) 16 && (slice_index bytes 6 == 0)) _ four.0 in
    let two = both (tests && nat_le (map_count bytes) 16) _ three.0 in
    leb-true (map_count bytes) 16 (both tests _ two.0).1

-- the rest of an image, after its head
abbrev body : Bool → Version → ℕ → List ℕ → Result Contents DecodeFault
body head version count bytes = cond head (maps_at version 0 count bytes >>= image_after version) (Err BadHead)

same_body : (head : Bool) (version : Version) (count : ℕ) (front rest : List ℕ) → (head ≡ true → count ≤ 16) → 33032 ≤ length front
    → length (front ++ rest) % 8 ≡ length front % 8 → body head version count (front ++ rest) ≡ body head version count front
same_body true version count front rest few long whole =
    let most : count ≤ 16 = few refl in
    let size = length front - 16 * count in
    let sized : length front ≡ 16 * count + size = omega arith in
    let alike : (size + length rest) % 8 ≡ size % 8 = omega (arith, length-append front rest) in
    ap (λ (found : Result (List MapDef × List ℕ) DecodeFault). found >>= image_after version) (maps_front version 0 count front rest (omega arith))
    ∙ same_after version rest size (maps_at version 0 count front) (maps_left version 0 count front size sized) (omega arith) alike
same_body false version count front rest few long whole = refl

-- bytes read as their front, if it is longer than any image and has as many bytes beyond whole slots
image_front : (front rest : List ℕ) → beyond_images ≤ length front → length (front ++ rest) % 8 ≡ length front % 8 → image_at (front ++ rest) ≡ image_at front
unfolding image_at
image_front (a ∷ b ∷ c ∷ d ∷ e ∷ f ∷ g ∷ h ∷ front) rest long whole =
    let bytes = a ∷ b ∷ c ∷ d ∷ e ∷ f ∷ g ∷ h ∷ front in
    ap (λ (head : Bool). body head (version_at bytes) (map_count bytes) (front ++ rest)) (head_front bytes rest (omega arith))
    ∙ same_body (has_head bytes) (version_at bytes) (map_count bytes) front rest (head_is_of_16 bytes) (omega arith) (omega arith)
image_front front rest long whole = absurd (omega arith)

-- ---- bytes that are longer than any image encode none

abbrev made_of : Version → List MapDef → Result (List Insn) DecodeFault → Result Contents DecodeFault
made_of version maps code = code >>= λ insns. Ok (record { version = version; maps = maps; code = insns })

none_made : (version : Version) (maps : List MapDef) (odd : Bool) (image : Contents) → made_of version maps (cond odd (Err NotWhole) (Err TooLong)) ≡ Ok image → ⊥
none_made version maps true image is = absurd cc
none_made version maps false image is = absurd cc

none_after : (version : Version) (size : ℕ) (found : Result (List MapDef × List ℕ) DecodeFault) → AreLeft size found → 32776 ≤ size → (image : Contents)
    → (found >>= image_after version) ≡ Ok image → ⊥
none_after version size (Ok found) left long image is =
    none_made version found.0 (not (eqb (length found.1 % 8) 0)) image (sym (ap (made_of version found.0) (long_code version found.1 (omega arith))) ∙ is)
none_after version size (Err fault) left long image is = absurd cc

none_in_body : (head : Bool) (version : Version) (count : ℕ) (bytes : List ℕ) → (head ≡ true → count ≤ 16) → 33032 ≤ length bytes → (image : Contents)
    → body head version count bytes ≡ Ok image → ⊥
none_in_body true version count bytes few long image is =
    let most : count ≤ 16 = few refl in
    let size = length bytes - 16 * count in
    none_after version size (maps_at version 0 count bytes) (maps_left version 0 count bytes size (omega arith)) (omega arith) image is
none_in_body false version count bytes few long image is = absurd cc

pub no_long_image : (bytes : List ℕ) → beyond_images ≤ length bytes → (image : Contents) → image_at bytes ≡ Ok image → ⊥
unfolding image_at
no_long_image (a ∷ b ∷ c ∷ d ∷ e ∷ f ∷ g ∷ h ∷ rest) long image is =
    let bytes = a ∷ b ∷ c ∷ d ∷ e ∷ f ∷ g ∷ h ∷ rest in
    none_in_body (has_head bytes) (version_at bytes) (map_count bytes) rest (head_is_of_16 bytes) (omega arith) image is
no_long_image bytes long image is = absurd (omega arith)

-- ---- where memory may be asked for

no_code_size : (bytes : List ℕ) → 32776 ≤ length bytes → has_code_size bytes ≡ false
no_code_size bytes long =
    let many : nat_le (length bytes / 8) 4096 ≡ false = lt-leb (length bytes / 8) 4096 (omega arith) in
    ap (λ (few : Bool). not (eqb (length bytes) 0) && eqb (length bytes % 8) 0 && few) many ∙ and_false (not (eqb (length bytes) 0) && eqb (length bytes % 8) 0)

-- with the same head and maps
asks_alike : (head some size other : Bool) → size ≡ false → IsTrue (head && (some || size)) → IsTrue (head && (some || other))
asks_alike true true size other none asked = refl
asks_alike true false size other none asked = absurd (false_is_not_true (sym none ∙ asked))
asks_alike false some size other none asked = absurd (false_is_not_true asked)

asked_front : (front rest : List ℕ) → beyond_images ≤ length front → IsTrue (may_ask_memory front) → IsTrue (may_ask_memory (front ++ rest))
asked_front (a ∷ b ∷ c ∷ d ∷ e ∷ f ∷ g ∷ h ∷ front) rest long asked =
    let bytes = a ∷ b ∷ c ∷ d ∷ e ∷ f ∷ g ∷ h ∷ front in
    subst (λ (head : Bool). IsTrue (head && (nat_lt 0 f || has_code_size (front ++ rest)))) (sym (head_front bytes rest (omega arith)))
    (asks_alike (has_head bytes) (nat_lt 0 f) (has_code_size front) (has_code_size (front ++ rest)) (no_code_size front (omega arith)) asked)
asked_front front rest long asked = absurd (omega arith)

-- ---- the front of a long file

-- this many bytes of its front are more than any image has, and both have as many bytes beyond whole slots
pub record IsFrontOfLong (bytes : List ℕ) (count : ℕ) : Type 0 where
  pub long : beyond_images ≤ count
  pub within : count ≤ length bytes
  pub whole : length bytes % 8 ≡ count % 8

read_as_front : (bytes : List ℕ) (count : ℕ) → IsFrontOfLong bytes count → image_at bytes ≡ image_at (take count bytes)
read_as_front bytes count front =
    let parts = take-append-drop count bytes in
    let size : length (take count bytes) ≡ count = length-take-le count bytes front.within in
    let all : length (take count bytes ++ drop count bytes) % 8 ≡ length (take count bytes) % 8 = rw (parts, size) front.whole in
    ap image_at (sym parts) ∙ image_front (take count bytes) (drop count bytes) (omega (arith, size, front.long)) all

-- what is kept of such a file has this front
pub front_of_long : (bytes : List ℕ) (front : Front) (count : ℕ) → IsFrontOf bytes kept_of_image front → kept_of_image ≤ length front.bytes.items
    → beyond_images ≤ count → count ≤ kept_of_image → front.length % 8 ≡ count % 8 → IsFrontOfLong bytes count × (take count front.bytes.items ≡ take count bytes)
front_of_long bytes front count is full least most whole =
    let size : length front.bytes.items ≡ min kept_of_image (length bytes) = ap (λ (kept : List ℕ). length kept) is.kept ∙ length-take kept_of_image bytes in
    let long : kept_of_image ≤ length bytes = omega (arith, size, full) in (
      record { long = least; within = omega arith; whole = ap (λ (size : ℕ). size % 8) (sym is.whole) ∙ whole },
      ap (λ (kept : List ℕ). take count kept) is.kept ∙ take-take count kept_of_image bytes most,
    )

-- the first fault of the front is that of the whole file
pub fault_of_front : (bytes shown : List ℕ) (count : ℕ) (why : DecodeFault) → IsFrontOfLong bytes count → shown ≡ take count bytes
    → (why ≢ Memory → first_decode_fault shown ≡ Some why) → (why ≡ Memory → IsTrue (may_ask_memory shown)) → IsDecodeRefusal bytes why
fault_of_front bytes shown count why front are first asked =
    let size : length (take count bytes) ≡ count = length-take-le count bytes front.within in record {
      first = λ other. ap (λ (read : Result Contents DecodeFault). fault_of read) (read_as_front bytes count front ∙ ap image_at (sym are)) ∙ first other;
      asked = λ memory.
          subst (λ (all : List ℕ). IsTrue (may_ask_memory all)) (take-append-drop count bytes)
          (asked_front (take count bytes) (drop count bytes) (omega (arith, size, front.long))
          (subst (λ (all : List ℕ). IsTrue (may_ask_memory all)) are (asked memory)));
    }

-- and it encodes no image
pub no_image_in_front : (bytes shown : List ℕ) (count : ℕ) (image : Contents) → IsFrontOfLong bytes count → shown ≡ take count bytes
    → IsImageEncoding shown image → ⊥
no_image_in_front bytes shown count image front are is =
    let size : length (take count bytes) ≡ count = length-take-le count bytes front.within in
    no_long_image (take count bytes) (omega (arith, size, front.long)) image (ap image_at (sym are) ∙ read_again shown image is)

-- ---- a front that is not the whole file

pub longer_than : (bytes : List ℕ) (most : ℕ) (front : Front) → IsFrontOf bytes most front → (length front.bytes.items == front.length) ≡ false
    → most < length bytes
longer_than bytes most front is cut =
    let other : ¬ (length front.bytes.items ≡ front.length) = eqb-false (length front.bytes.items) front.length cut in
    let size : length front.bytes.items ≡ min most (length bytes) = ap (λ (kept : List ℕ). length kept) is.kept ∙ length-take most bytes in
    omega (arith, other, size, is.whole)

pub full_front : (bytes : List ℕ) (most : ℕ) (front : Front) → IsFrontOf bytes most front → (length front.bytes.items == front.length) ≡ false
    → most ≤ length front.bytes.items
full_front bytes most front is cut =
    let size : length front.bytes.items ≡ min most (length bytes) = ap (λ (kept : List ℕ). length kept) is.kept ∙ length-take most bytes in
    omega (arith, size, longer_than bytes most front is cut)
