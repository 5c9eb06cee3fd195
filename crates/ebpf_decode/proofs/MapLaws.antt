-- A map's bytes and its definition determine each other, for the maps that images may have.
use Rattle.std.proofs.Common.{◌≡◌, ℕ, zero, suc, ◌+◌, ◌*◌, ◌%◌, ◌^◌, ◌<◌, ◌≤◌, Bool, true, false, cond, ◌&&◌, eqb, List, [], ◌∷◌, ◌++◌, length, drop, Option, Some, None, Result, Ok, refl, sym, ap, subst, ◌∙◌, append_assoc, arith, w32}
use Rattle.std.specs.Prelude.{nat_le}
use Rattle.std.specs.Option.{ok_or}
use Rattle.std.specs.List.{flat_map, AllByRecursion}
use Rattle.std.specs.Int.{to_le_bytes, from_le_bytes}
use Rattle.std.proofs.lemmas.Bool.{eqb-true, leb-true}
use Rattle.std.proofs.lemmas.Nat.{le_bytes_4, from_le_bytes-to_le_bytes_4}
use Rattle.std.proofs.lemmas.List.{length-drop}
use Rattle.ebpf_decode.specs.declared.fault.DecodeFault.{DecodeFault}
use Rattle.ebpf_decode.specs.declared.fault.DecodeFault.TheVariants.{BadMap}
use Rattle.ebpf_decode.specs.declared.version.Version.{Version}
use Rattle.ebpf_decode.specs.declared.version.Version.TheVariants.{V1, V2}
use Rattle.ebpf_decode.specs.declared.map.MapKind.{MapKind}
use Rattle.ebpf_decode.specs.declared.map.MapKind.TheVariants.{Hash, Array, LruHash}
use Rattle.ebpf_decode.specs.declared.map.MapDef.{MapDef}
use Rattle.ebpf_decode.specs.InstructionReading.{◌>>=◌}
use Rattle.ebpf_decode.specs.MapForm.{map_type, is_key_size, is_value_size, is_entry_count, is_allowed_map, map_bytes, map_kind_at, map_of_kind, map_in_bytes}
use Rattle.ebpf_decode.specs.ImageContents.{IsAllowedMap}
use Rattle.ebpf_decode.specs.ImageFormat.{maps_at}
use Rattle.ebpf_decode.proofs.shared.SlotLaws.{IsBytes, IsBytes-drop, four_bytes, both}
use Rattle.ebpf_decode.proofs.CodeLaws.{bind_ok}

-- ---- what is read is encoded so

abbrev a_kind : MapKind → Option MapKind
a_kind kind = Some kind

kind_third : (number : ℕ) (kind : MapKind) (c : Bool) → eqb number 9 ≡ c → cond c (a_kind LruHash) None ≡ Some kind → number ≡ map_type kind
kind_third number kind true e h = let is : LruHash ≡ kind = cc in rw (← is) (eqb-true number 9 e)
kind_third number kind false e h = absurd cc

kind_second : (number : ℕ) (kind : MapKind) (b : Bool) → eqb number 2 ≡ b → cond b (a_kind Array) (cond (eqb number 9) (a_kind LruHash) None) ≡ Some kind → number ≡ map_type kind
kind_second number kind true e h = let is : Array ≡ kind = cc in rw (← is) (eqb-true number 2 e)
kind_second number kind false e h = kind_third number kind (eqb number 9) refl h

kind_first : (number : ℕ) (kind : MapKind) (a : Bool) → eqb number 1 ≡ a → cond a (a_kind Hash) (cond (eqb number 2) (a_kind Array) (cond (eqb number 9) (a_kind LruHash) None)) ≡ Some kind → number ≡ map_type kind
kind_first number kind true e h = let is : Hash ≡ kind = cc in rw (← is) (eqb-true number 1 e)
kind_first number kind false e h = kind_second number kind (eqb number 2) refl h

kind_takes : (number : ℕ) (kind : MapKind) → map_kind_at number ≡ Some kind → number ≡ map_type kind
kind_takes number kind h = kind_first number kind (eqb number 1) refl h

abbrev a_map : MapDef → Option MapDef
a_map m = Some m

allowed_is : (version : Version) (r m : MapDef) (b : Bool) → is_allowed_map version r ≡ b → cond b (a_map r) None ≡ Some m → (r ≡ m) × IsAllowedMap version m
allowed_is version r m true e h = let is : r ≡ m = cc in (is, rw (← is) e)
allowed_is version r m false e h = absurd cc

map_parts : (version : Version) (o : Option MapKind) (k v e : ℕ) (m : MapDef) → map_of_kind version o k v e ≡ Some m → (o ≡ Some m.kind) × (k ≡ m.key_size) × (v ≡ m.value_size) × (e ≡ m.max_entries) × IsAllowedMap version m
map_parts version None k v e m h = absurd cc
map_parts version (Some kind) k v e m h =
    let made : MapDef = record { kind = kind; key_size = k; value_size = v; max_entries = e } in
    let is = allowed_is version made m (is_allowed_map version made) refl h in
    (ap (λ (x : MapDef). Some x.kind) is.0, ap (λ (x : MapDef). x.key_size) is.0, ap (λ (x : MapDef). x.value_size) is.0, ap (λ (x : MapDef). x.max_entries) is.0, is.1)

four_pieces : (a a' b b' c c' d d' : List ℕ) → a ≡ a' → b ≡ b' → c ≡ c' → d ≡ d' → a ++ b ++ c ++ d ≡ a' ++ b' ++ c' ++ d'
four_pieces a a' b b' c c' d d' ea eb ec ed = rw (ea, eb, ec, ed) refl

word_is : (a b c d n : ℕ) → a < 256 → b < 256 → c < 256 → d < 256 → from_le_bytes w32 (a ∷ b ∷ c ∷ d ∷ []) ≡ n → to_le_bytes w32 n ≡ a ∷ b ∷ c ∷ d ∷ []
word_is a b c d n fa fb fc fd e = le_bytes_4 (a ∷ b ∷ c ∷ d ∷ []) n refl (four_bytes a b c d fa fb fc fd) (sym e)

pub map_takes : (version : Version) (bytes : List ℕ) (m : MapDef) → IsBytes bytes → 16 ≤ length bytes → map_in_bytes version bytes ≡ Some m → (bytes ≡ map_bytes m ++ drop 16 bytes) × IsAllowedMap version m
unfolding map_in_bytes
map_takes version (b0 ∷ b1 ∷ b2 ∷ b3 ∷ b4 ∷ b5 ∷ b6 ∷ b7 ∷ b8 ∷ b9 ∷ b10 ∷ b11 ∷ b12 ∷ b13 ∷ b14 ∷ b15 ∷ rest) m fits long h =
    let p = map_parts version (map_kind_at (from_le_bytes w32 (b0 ∷ b1 ∷ b2 ∷ b3 ∷ []))) (from_le_bytes w32 (b4 ∷ b5 ∷ b6 ∷ b7 ∷ [])) (from_le_bytes w32 (b8 ∷ b9 ∷ b10 ∷ b11 ∷ [])) (from_le_bytes w32 (b12 ∷ b13 ∷ b14 ∷ b15 ∷ [])) m h in
    let kind = word_is b0 b1 b2 b3 (map_type m.kind) (fits 0) (fits 1) (fits 2) (fits 3) (kind_takes (from_le_bytes w32 (b0 ∷ b1 ∷ b2 ∷ b3 ∷ [])) m.kind p.0) in
    let key = word_is b4 b5 b6 b7 m.key_size (fits 4) (fits 5) (fits 6) (fits 7) p.1 in
    let value = word_is b8 b9 b10 b11 m.value_size (fits 8) (fits 9) (fits 10) (fits 11) p.2 in
    let entries = word_is b12 b13 b14 b15 m.max_entries (fits 12) (fits 13) (fits 14) (fits 15) p.3 in
    let front = four_pieces (to_le_bytes w32 (map_type m.kind)) (b0 ∷ b1 ∷ b2 ∷ b3 ∷ []) (to_le_bytes w32 m.key_size) (b4 ∷ b5 ∷ b6 ∷ b7 ∷ []) (to_le_bytes w32 m.value_size) (b8 ∷ b9 ∷ b10 ∷ b11 ∷ []) (to_le_bytes w32 m.max_entries) (b12 ∷ b13 ∷ b14 ∷ b15 ∷ []) kind key value entries in
    (sym (ap (λ (x : List ℕ). x ++ rest) front), p.4)
map_takes version bytes m fits long h = absurd (omega arith)

-- ---- what is encoded is read

key_small : (kind : MapKind) (size : ℕ) → is_key_size kind size ≡ true → size < 2 ^ 32
key_small Array size h = omega (arith, eqb-true size 4 h)
key_small Hash size h = omega (arith, leb-true size 32 (both (nat_le 1 size) (nat_le size 32) h).1)
key_small LruHash size h = omega (arith, leb-true size 32 (both (nat_le 1 size) (nat_le size 32) h).1)

value_small : (version : Version) (size : ℕ) → is_value_size version size ≡ true → size < 2 ^ 32
value_small V1 size h = omega (arith, leb-true size 64 (both (eqb (size % 8) 0 && nat_le 8 size) (nat_le size 64) h).1)
value_small V2 size h = omega (arith, leb-true size 256 (both (eqb (size % 8) 0 && nat_le 8 size) (nat_le size 256) h).1)

count_small : (count : ℕ) → is_entry_count count ≡ true → count < 2 ^ 32
count_small count h = omega (arith, leb-true count 131072 (both (nat_le 1 count) (nat_le count 131072) h).1)

type_small : (kind : MapKind) → map_type kind < 2 ^ 32
type_small Hash = omega arith
type_small Array = omega arith
type_small LruHash = omega arith

kind_again : (kind : MapKind) → map_kind_at (map_type kind) ≡ Some kind
kind_again Hash = refl
kind_again Array = refl
kind_again LruHash = refl

word_again : (n : ℕ) → n < 2 ^ 32 → from_le_bytes w32 (to_le_bytes w32 n) ≡ n
word_again n lt = from_le_bytes-to_le_bytes_4 n lt

same_map : (version : Version) (o o' : Option MapKind) (k k' v v' e e' : ℕ) → o ≡ o' → k ≡ k' → v ≡ v' → e ≡ e' → map_of_kind version o k v e ≡ map_of_kind version o' k' v' e'
same_map version o o' k k' v v' e e' eo ek ev ee = rw (eo, ek, ev, ee) refl

allowed_again : (version : Version) (m : MapDef) → IsAllowedMap version m → map_of_kind version (Some m.kind) m.key_size m.value_size m.max_entries ≡ Some m
allowed_again version m h = rw h refl

pub map_again : (version : Version) (m : MapDef) (rest : List ℕ) → IsAllowedMap version m → map_in_bytes version (map_bytes m ++ rest) ≡ Some m
unfolding map_in_bytes
map_again version m rest h =
    let two = both (is_key_size m.kind m.key_size && is_value_size version m.value_size) (is_entry_count m.max_entries) h in
    let one = both (is_key_size m.kind m.key_size) (is_value_size version m.value_size) two.0 in
    let kind : map_kind_at (from_le_bytes w32 (to_le_bytes w32 (map_type m.kind))) ≡ Some m.kind = ap map_kind_at (word_again (map_type m.kind) (type_small m.kind)) ∙ kind_again m.kind in
    same_map version (map_kind_at (from_le_bytes w32 (to_le_bytes w32 (map_type m.kind)))) (Some m.kind) (from_le_bytes w32 (to_le_bytes w32 m.key_size)) m.key_size (from_le_bytes w32 (to_le_bytes w32 m.value_size)) m.value_size (from_le_bytes w32 (to_le_bytes w32 m.max_entries)) m.max_entries kind (word_again m.key_size (key_small m.kind m.key_size one.0)) (word_again m.value_size (value_small version m.value_size one.1)) (word_again m.max_entries (count_small m.max_entries two.1)) ∙ allowed_again version m h

-- ---- maps one after the other

pub record TakesMaps (version : Version) (bytes : List ℕ) (count : ℕ) (maps : List MapDef) (rest : List ℕ) : Type 0 where
  pub parts : bytes ≡ flat_map map_bytes maps ++ rest
  pub rest_fits : IsBytes rest
  pub count_is : length maps ≡ count
  pub allowed : AllByRecursion (IsAllowedMap version) maps

ok_some : (o : Option MapDef) (fault : DecodeFault) (m : MapDef) → ok_or o fault ≡ Ok m → o ≡ Some m
ok_some None fault m e = absurd cc
ok_some (Some x) fault m e = cc

abbrev pair : (List MapDef × List ℕ) → Result (List MapDef × List ℕ) DecodeFault
pair x = Ok x

same_ok : (x y : List MapDef × List ℕ) → pair x ≡ pair y → x ≡ y
same_ok x y e = cc

no_maps : (version : Version) (bytes : List ℕ) → IsBytes bytes → TakesMaps version bytes 0 [] bytes
no_maps version bytes fits = record { parts = refl; rest_fits = fits; count_is = refl; allowed = tt }

pub maps_take : (version : Version) (place n : ℕ) (bytes : List ℕ) (maps : List MapDef) (rest : List ℕ) → IsBytes bytes → 16 * n ≤ length bytes → maps_at version place n bytes ≡ Ok (maps, rest) → TakesMaps version bytes n maps rest
unfolding maps_at
maps_take version place zero bytes maps rest fits long e =
    subst (λ (x : List MapDef × List ℕ). TakesMaps version bytes 0 x.0 x.1) (same_ok ([], bytes) (maps, rest) e) (no_maps version bytes fits)
maps_take version place (suc n) bytes maps rest fits long e =
    let b = bind_ok (ok_or (map_in_bytes version bytes) (BadMap place)) (λ first. maps_at version (place + 1) n (drop 16 bytes) >>= λ others. Ok (first ∷ others.0, others.1)) (maps, rest) e in
    let c = bind_ok (maps_at version (place + 1) n (drop 16 bytes)) (λ others. Ok (b.0 ∷ others.0, others.1)) (maps, rest) b.2 in
    let one = map_takes version bytes b.0 fits (omega arith) (ok_some (map_in_bytes version bytes) (BadMap place) b.0 b.1) in
    let others = maps_take version (place + 1) n (drop 16 bytes) c.0.0 c.0.1 (IsBytes-drop 16 bytes fits) (omega (arith, length-drop 16 bytes)) c.1 in
    let whole : TakesMaps version bytes (suc n) (b.0 ∷ c.0.0) c.0.1 = record {
      parts = one.0 ∙ ap (λ (x : List ℕ). map_bytes b.0 ++ x) others.parts ∙ sym (append_assoc (map_bytes b.0) (flat_map map_bytes c.0.0) c.0.1);
      rest_fits = others.rest_fits;
      count_is = ap (λ (k : ℕ). suc k) others.count_is;
      allowed = (one.1, others.allowed);
    } in
    subst (λ (x : List MapDef × List ℕ). TakesMaps version bytes (suc n) x.0 x.1) (same_ok (b.0 ∷ c.0.0, c.0.1) (maps, rest) c.2) whole

pub maps_again : (version : Version) (place : ℕ) (maps : List MapDef) (rest : List ℕ) → AllByRecursion (IsAllowedMap version) maps → maps_at version place (length maps) (flat_map map_bytes maps ++ rest) ≡ Ok (maps, rest)
unfolding maps_at
maps_again version place [] rest allowed = refl
maps_again version place (m ∷ maps) rest allowed = rw (map_again version m (flat_map map_bytes maps ++ rest) allowed.0, maps_again version (place + 1) maps rest allowed.1) refl
