-- The backends that are up stay in order and apart.
use Rattle.std.proofs.Common.{◌≡◌, ◌⊎◌, ⊎_elim, ℕ, zero, suc, ◌+◌, ◌<◌, ◌≤◌, Bool, true, false, ltb, eqb, not, ◌||◌, ◌&&◌, get_or, List, [], ◌∷◌, ◌++◌, length, Some, refl, sym, ap, ◌∙◌, arith, map}
use Rattle.std.specs.Prelude.{slice_get, bytes_eq, All, Contains}
use Rattle.std.specs.List.{filter, find, list_any, AllByRecursion}
use Rattle.std.proofs.lemmas.Bool.Decides.{nat_tests}
use Rattle.std.proofs.lemmas.Slice.Eq.{bytes_eq-Decides}
use Rattle.std.proofs.lemmas.List.Elements.{All-from_recursion, All-contains}
use Rattle.wire.specs.declared.ethernet.Ipv4Address.{Ipv4Address}
use Rattle.maglev.specs.declared.backend.Backend.{Backend as Server}
use Rattle.maglev.specs.Population.{IsPopulation, IsOnlyPopulation}
use Rattle.maglev.specs.Hashing.{hashed_preferences}
use Rattle.maglev.specs.RingSize.{IsRingSize, ring_sizes}
use Rattle.maglev.specs.Refusals.{HasRepeat, AreTooMany, backend_numbers, HaveRepeat}
use Rattle.control.specs.Controlling.{has_number, has_address, with_backend, without_backend, IsRising, IsApart, AreUp, IsTable}

-- ---- lists

all_filter : {X : Type 0} (P : X → Type 0) (test : X → Bool) (xs : List X) → AllByRecursion P xs → AllByRecursion P (filter test xs)
all_filter P test [] all = tt
all_filter P test (x ∷ xs) all = by_test (all_filter P test xs all.1) (test x) refl where
  by_test : AllByRecursion P (filter test xs) → (t : Bool) → test x ≡ t → AllByRecursion P (filter test (x ∷ xs))
  by_test rest true is = rw is (all.0, rest)
  by_test rest false is = rw is rest

all_pass : {X : Type 0} (test : X → Bool) (xs : List X) → AllByRecursion (λ x. test x ≡ true) (filter test xs)
all_pass test [] = tt
all_pass test (x ∷ xs) = by_test (all_pass test xs) (test x) refl where
  by_test : AllByRecursion (λ y. test y ≡ true) (filter test xs) → (t : Bool) → test x ≡ t → AllByRecursion (λ y. test y ≡ true) (filter test (x ∷ xs))
  by_test rest true is = rw is (is, rest)
  by_test rest false is = rw is rest

all_append : {X : Type 0} (P : X → Type 0) (xs ys : List X) → AllByRecursion P xs → AllByRecursion P ys → AllByRecursion P (xs ++ ys)
all_append P [] ys all more = more
all_append P (x ∷ xs) ys all more = (all.0, all_append P xs ys all.1 more)

all_imply : {X : Type 0} (P Q : X → Type 0) → ((x : X) → P x → Q x) → (xs : List X) → AllByRecursion P xs → AllByRecursion Q xs
all_imply P Q h [] all = tt
all_imply P Q h (x ∷ xs) all = (h x all.0, all_imply P Q h xs all.1)

all_both : {X : Type 0} (P Q : X → Type 0) (xs : List X) → AllByRecursion P xs → AllByRecursion Q xs → AllByRecursion (λ x. P x × Q x) xs
all_both P Q [] one other = tt
all_both P Q (x ∷ xs) one other = ((one.0, other.0), all_both P Q xs one.1 other.1)

none_passes : {X : Type 0} (test : X → Bool) (xs : List X) → list_any test xs ≡ false → AllByRecursion (λ x. test x ≡ false) xs
none_passes test [] none = tt
none_passes test (x ∷ xs) none = (first (test x) (list_any test xs) none, none_passes test xs (second (test x) (list_any test xs) none)) where
  first : (a b : Bool) → (a || b) ≡ false → a ≡ false
  first false b e = refl
  first true b e = e

  second : (a b : Bool) → (a || b) ≡ false → b ≡ false
  second false b e = e
  second true b e = absurd cc

-- ---- by rising number

rising_from : (least lower : ℕ) (up : List Server) → lower ≤ least → IsRising least up → IsRising lower up
unfolding IsRising
rising_from least lower [] le rising = tt
rising_from least lower (server ∷ up) le rising = (omega (arith, rising.0), rising.1)

rising_raised : (least bound : ℕ) (up : List Server) → IsRising least up → AllByRecursion (λ (server : Server). bound ≤ server.number) up → IsRising bound up
unfolding IsRising
rising_raised least bound [] rising all = tt
rising_raised least bound (server ∷ up) rising all = (all.0, rising.1)

rising_filter : (least : ℕ) (test : Server → Bool) (up : List Server) → IsRising least up → IsRising least (filter test up)
unfolding IsRising
rising_filter least test [] rising = tt
rising_filter least test (server ∷ up) rising = by_test (rising_filter (server.number + 1) test up rising.1) rising.0 (test server) refl where
  by_test : IsRising (server.number + 1) (filter test up) → least ≤ server.number → (t : Bool) → test server ≡ t → IsRising least (filter test (server ∷ up))
  by_test rest le true is = rw is (le, rest)
  by_test rest le false is = rw is (rising_from (server.number + 1) least (filter test up) (omega arith) rest)

rising_joined : (least : ℕ) (lower higher : List Server) (server : Server) → IsRising least lower → AllByRecursion (λ (other : Server). other.number < server.number) lower → least ≤ server.number
    → IsRising (server.number + 1) higher → IsRising least (lower ++ server ∷ higher)
unfolding IsRising
rising_joined least [] higher server rising below le above = (le, above)
rising_joined least (other ∷ lower) higher server rising below le above =
    let lt : other.number < server.number = below.0 in
    (rising.0, rising_joined (other.number + 1) lower higher server rising.1 below.1 (omega arith) above)

lower_test : (a b : ℕ) → ltb a b ≡ true → a < b
lower_test a b is = grind (arith, nat_tests)

rising_with : (up : List Server) (server : Server) → IsRising 0 up → IsRising 0 (with_backend up server)
rising_with up server rising =
    let before : Server → Bool = λ other. ltb other.number server.number in
    let behind : Server → Bool = λ other. ltb server.number other.number in
    let lower = all_imply (λ (other : Server). before other ≡ true) (λ (other : Server). other.number < server.number) (λ other is. lower_test other.number server.number is) (filter before up) (all_pass before up) in
    let above = all_imply (λ (other : Server). behind other ≡ true) (λ (other : Server). server.number + 1 ≤ other.number) (λ other is. let lt = lower_test server.number other.number is in omega (arith, lt)) (filter behind up) (all_pass behind up) in
    rising_joined 0 (filter before up) (filter behind up) server (rising_filter 0 before up rising) lower (omega arith)
    (rising_raised 0 (server.number + 1) (filter behind up) (rising_filter 0 behind up rising) above)

-- ---- a backend among the others

on_with : (P : Server → Type 0) (up : List Server) (server : Server) → AllByRecursion P up → P server → AllByRecursion P (with_backend up server)
on_with P up server all one =
    all_append P (filter (λ (other : Server). ltb other.number server.number) up) (server ∷ filter (λ (other : Server). ltb server.number other.number) up)
    (all_filter P (λ (other : Server). ltb other.number server.number) up all) (one, all_filter P (λ (other : Server). ltb server.number other.number) up all)

same_bytes : (xs : List ℕ) → bytes_eq xs xs ≡ true
same_bytes xs = (bytes_eq-Decides xs xs).1 refl

other_address : (server other : Server) → has_address server.address other ≡ false → IsApart other server
other_address server other none = λ same.
    let equal : bytes_eq other.address.0 server.address.0 ≡ true = rw same (same_bytes server.address.0) in
    absurd cc

pub up_with : (size : ℕ) (up : List Server) (server : Server) → AreUp size up → server.number < size → server.number < 256 → list_any (has_address server.address) up ≡ false → AreUp size (with_backend up server)
up_with size up server are below few none =
    let apart = all_imply (λ (other : Server). has_address server.address other ≡ false) (λ (other : Server). IsApart other server) (λ other is. other_address server other is) up (none_passes (has_address server.address) up none) in
    let back = all_imply (λ (other : Server). IsApart other server) (IsApart server) (λ other is. λ same. sym (is (sym same))) up apart in
    let Each : Server → Type 0 = λ one. AllByRecursion (IsApart one) (with_backend up server) in
    let each = all_imply (λ (one : Server). AllByRecursion (IsApart one) up × IsApart one server) Each (λ one both. on_with (IsApart one) up server both.0 both.1) up
    (all_both (λ (one : Server). AllByRecursion (IsApart one) up) (λ (one : Server). IsApart one server) up are.addresses apart) in
    record {
      rising = rising_with up server are.rising;
      below = on_with (λ (one : Server). (one.number < size) × (one.number < 256)) up server are.below (below, few);
      addresses = on_with Each up server each (on_with (IsApart server) up server back (λ same. refl));
    }

pub up_without : (size : ℕ) (up : List Server) (number : ℕ) → AreUp size up → AreUp size (without_backend up number)
up_without size up number are =
    let stays : Server → Bool = λ server. not (has_number number server) in
    let left : List Server = filter stays up in
    record {
      rising = rising_filter 0 stays up are.rising;
      below = all_filter (λ (one : Server). (one.number < size) × (one.number < 256)) stays up are.below;
      addresses = all_filter (λ (one : Server). AllByRecursion (IsApart one) left) stays up
          (all_imply (λ (one : Server). AllByRecursion (IsApart one) up) (λ (one : Server). AllByRecursion (IsApart one) left) (λ one all. all_filter (IsApart one) stays up all) up are.addresses);
    }

pub none_up : (size : ℕ) → AreUp size []
unfolding IsRising
none_up size = record { rising = tt; below = tt; addresses = tt }

-- ---- why a ring of them can be built

rising_count : (least limit : ℕ) (up : List Server) → IsRising least up → AllByRecursion (λ (server : Server). server.number < limit) up → least ≤ limit → length up + least ≤ limit
unfolding IsRising
rising_count least limit [] rising all le = omega arith
rising_count least limit (server ∷ up) rising all le =
    let lt : server.number < limit = all.0 in
    let rest : length up + (server.number + 1) ≤ limit = rising_count (server.number + 1) limit up rising.1 all.1 (omega arith) in
    omega (arith, rest, rising.0)

pub not_too_many : (size : ℕ) (up : List Server) → AreUp size up → AreTooMany size (length up) → ⊥
not_too_many size up are many =
    let below_size = all_imply (λ (one : Server). (one.number < size) × (one.number < 256)) (λ (one : Server). one.number < size) (λ one both. both.0) up are.below in
    let below_limit = all_imply (λ (one : Server). (one.number < size) × (one.number < 256)) (λ (one : Server). one.number < 256) (λ one both. both.1) up are.below in
    let few : length up + 0 ≤ 256 = rising_count 0 256 up are.rising below_limit (omega arith) in
    let fits : length up + 0 ≤ size = rising_count 0 size up are.rising below_size (omega arith) in
    ⊎_elim (λ over. absurd (omega (arith, over, few))) (λ over. absurd (omega (arith, over, fits))) many

number_at_least : (least : ℕ) (up : List Server) → IsRising least up → (place number : ℕ) → slice_get (backend_numbers up) place ≡ Some number → least ≤ number
unfolding IsRising
number_at_least least [] rising place number is = absurd cc
number_at_least least (server ∷ up) rising zero number is =
    let same : Some server.number ≡ Some number = is in
    let equal : server.number ≡ number = cc in
    omega (arith, equal, rising.0)
number_at_least least (server ∷ up) rising (suc place) number is =
    let le = number_at_least (server.number + 1) up rising.1 place number is in
    omega (arith, le, rising.0)

numbers_apart : (least : ℕ) (up : List Server) → IsRising least up → (i j : ℕ) → i < j → j < length (backend_numbers up) → slice_get (backend_numbers up) i ≡ slice_get (backend_numbers up) j → ⊥
unfolding IsRising
numbers_apart least [] rising i j lt within is = absurd (omega arith)
numbers_apart least (server ∷ up) rising i zero lt within is = absurd (omega arith)
numbers_apart least (server ∷ up) rising zero (suc j) lt within is =
    let le = number_at_least (server.number + 1) up rising.1 j server.number (sym is) in
    absurd (omega (arith, le))
numbers_apart least (server ∷ up) rising (suc i) (suc j) lt within is = numbers_apart (server.number + 1) up rising.1 i j (omega arith) (omega arith) is

no_such_address : (server : Server) (least : ℕ) (up : List Server) → server.number < least → IsRising least up → AllByRecursion (IsApart server) up → (place : ℕ)
    → slice_get (map (λ (other : Server). other.address) up) place ≡ Some server.address → ⊥
unfolding IsRising
no_such_address server least [] lt rising apart place is = absurd cc
no_such_address server least (other ∷ up) lt rising apart zero is =
    let same : Some other.address ≡ Some server.address = is in
    let equal : server.address ≡ other.address = cc in
    let numbers : server.number ≡ other.number = apart.0 equal in
    absurd (omega (arith, numbers, rising.0))
no_such_address server least (other ∷ up) lt rising apart (suc place) is =
    no_such_address server (other.number + 1) up (omega (arith, rising.0)) rising.1 apart.1 place is

addresses_apart : (least : ℕ) (up : List Server) → IsRising least up → AllByRecursion (λ (one : Server). AllByRecursion (IsApart one) up) up → (i j : ℕ) → i < j → j < length (map (λ (other : Server). other.address) up)
    → slice_get (map (λ (other : Server). other.address) up) i ≡ slice_get (map (λ (other : Server). other.address) up) j → ⊥
unfolding IsRising
addresses_apart least [] rising apart i j lt within is = absurd (omega arith)
addresses_apart least (server ∷ up) rising apart i zero lt within is = absurd (omega arith)
addresses_apart least (server ∷ up) rising apart zero (suc j) lt within is = no_such_address server (server.number + 1) up (omega arith) rising.1 apart.0.1 j (sym is)
addresses_apart least (server ∷ up) rising apart (suc i) (suc j) lt within is =
    addresses_apart (server.number + 1) up rising.1
    (all_imply (λ (one : Server). AllByRecursion (IsApart one) (server ∷ up)) (λ (one : Server). AllByRecursion (IsApart one) up) (λ one all. all.1) up apart.1) i j (omega arith) (omega arith) is

pub no_repeat : (size : ℕ) (up : List Server) → AreUp size up → HaveRepeat up → ⊥
no_repeat size up are repeat =
    ⊎_elim
    (λ numbers. numbers_apart 0 up are.rising numbers.first numbers.later numbers.before numbers.within numbers.same)
    (λ addresses. addresses_apart 0 up are.rising are.addresses addresses.first addresses.later addresses.before addresses.within addresses.same)
    repeat

-- ---- numbers, and one table

all_numbers : (P : ℕ → Type 0) (up : List Server) → AllByRecursion (λ (server : Server). P server.number) up → AllByRecursion P (backend_numbers up)
all_numbers P [] all = tt
all_numbers P (server ∷ up) all = (all.0, all_numbers P up all.1)

pub owners_below : (size : ℕ) (up : List Server) (owners : List ℕ) → AreUp size up → All (Contains (backend_numbers up)) owners → All (λ owner. owner < 256) owners
owners_below size up owners are owned = λ k d lt.
    let small = all_imply (λ (one : Server). (one.number < size) × (one.number < 256)) (λ (one : Server). one.number < 256) (λ one both. both.1) up are.below in
    let numbers = All-from_recursion (λ number. number < 256) (backend_numbers up) (all_numbers (λ number. number < 256) up small) in
    All-contains (λ number. number < 256) (backend_numbers up) (get_or owners k d) numbers (owned k d lt)

found_in : (P : Server → Type 0) (test : Server → Bool) (up : List Server) (server : Server) → AllByRecursion P up → find test up ≡ Some server → P server
found_in P test [] server all found = absurd cc
found_in P test (one ∷ up) server all found = by_test (found_in P test up server all.1) (test one) refl where
  by_test : (find test up ≡ Some server → P server) → (t : Bool) → test one ≡ t → P server
  by_test later true is =
      let here : Some one ≡ Some server = rw is at found in
      let same : one ≡ server = cc in
      rw (← same) all.0
  by_test later false is = later (rw is at found)

pub found_below : (size number : ℕ) (up : List Server) (server : Server) → AreUp size up → find (has_number number) up ≡ Some server → server.number < 256
found_below size number up server are is = (found_in (λ (one : Server). (one.number < size) × (one.number < 256)) (has_number number) up server are.below is).1

pub taken_tests : (a b : Bool) → (a || b) ≡ false → b ≡ false
taken_tests false b is = is
taken_tests true b is = absurd cc

pub served_tests : (a b : ℕ) → (ltb a 256 && ltb a b) ≡ true → (a < b) × (a < 256)
served_tests a b is = (grind (arith, nat_tests), grind (arith, nat_tests))

pub same_table : (size : ℕ) (up : List Server) (owners others : List ℕ) → IsTable size up owners → IsTable size up others → owners ≡ others
same_table size [] owners others one other = one ∙ sym other
same_table size (server ∷ up) owners others one other = other.1 owners one.0

pub few_slots : (size : ℕ) → IsRingSize size → size < 65538
few_slots size served = All-contains (λ n. n < 65538) ring_sizes size (All-from_recursion (λ n. n < 65538) ring_sizes (omega arith, (omega arith, (omega arith, (omega arith, tt))))) served

pub table_made : (r : Bool) (size : ℕ) (up : List Server) (owners : List ℕ) → r ≡ eqb (length up) 0 → r ≡ false → IsPopulation size (hashed_preferences size up) owners → IsOnlyPopulation size (hashed_preferences size up) owners
    → IsTable size up owners
table_made r size [] owners is some population only = absurd cc
table_made r size (server ∷ up) owners is some population only = (population, only)
