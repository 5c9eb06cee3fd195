-- The tests of the flow block, against what a flow is.
use Rattle.std.proofs.Common.{◌≡◌, ℕ, ◌+◌, ◌*◌, ◌&&◌, List, refl, sym, ap, ◌∙◌, pos, ◌<◌, ◌≤◌, ◌%◌, ◌==◌, true, false, Bool, arith, not}
use Rattle.std.proofs.Common.{length}
use Rattle.std.specs.Prelude.{bit_and, nat_le, nat_lt, ◌||◌, ◌+ℤ◌}
use Rattle.std.specs.Int.{swap_bytes, w16}
use Rattle.std.proofs.lemmas.Bool.Decides.{nat_tests}
use Rattle.std.proofs.lemmas.Bool.{eqb-true, leb-true, ltb-true, ltb-false, le-leb, both_ways, not-true, not-false}
use Rattle.isa.specs.Words.{signed_value}
use Rattle.semantics.specs.LittleEndian.{reaches}
use Rattle.semantics.specs.Comparison.{is_at_most_end}
use Rattle.semantics.specs.declared.verdict.Verdict.TheVariants as V
use Rattle.conntrack.specs.Steering.{SteeringSizes, has_flow, counted_end}
use Rattle.steer.proofs.Conversation.{steered, by_service}
use Rattle.block_runs.specs.Plan.{either}
use Rattle.steer.specs.PartStarts.{long_frame}
use Rattle.steer.proofs.Promises.{came_in}
use Rattle.steer.proofs.NumberLemmas.{swapped_word, fragment_test, as_signed, reaches_so}

both : (x y : Bool) → (x && y) ≡ true → (x ≡ true) × (y ≡ true)
both true y is = (refl, is)
both false y is = absurd cc

-- ---- what a flow is

pub record FlowFacts (byte : ℕ → ℕ) (rest : List ℕ) : Type 0 where
  pub type_high : byte 12 ≡ 8
  pub type_low : byte 13 ≡ 0
  pub version : byte 14 ≡ 69
  pub least : 28 ≤ byte 16 * 256 + byte 17
  pub whole : 14 + (byte 16 * 256 + byte 17) ≤ length (long_frame byte rest)
  pub unfragmented : (bit_and (byte 20 * 256 + byte 21) 16383 == 0) ≡ true
  pub transport : (byte 23 == 6 || byte 23 == 17) ≡ true

pub flow_facts : (byte : ℕ → ℕ) (rest : List ℕ) → has_flow (long_frame byte rest) ≡ true → FlowFacts byte rest
flow_facts byte rest is =
    let a = both (nat_le 42 (length (long_frame byte rest))) _ is in
    let b = both (byte 12 == 8) _ a.1 in
    let c = both (byte 13 == 0) _ b.1 in
    let d = both (byte 14 == 69) _ c.1 in
    let e = both (nat_le 28 (byte 16 * 256 + byte 17)) _ d.1 in
    let f = both (nat_le (14 + (byte 16 * 256 + byte 17)) (length (long_frame byte rest))) _ e.1 in
    let g = both (bit_and (byte 20 * 256 + byte 21) 16383 == 0) _ f.1 in
    record {
      type_high = eqb-true (byte 12) 8 b.0;
      type_low = eqb-true (byte 13) 0 c.0;
      version = eqb-true (byte 14) 69 d.0;
      least = leb-true 28 (byte 16 * 256 + byte 17) e.0;
      whole = leb-true (14 + (byte 16 * 256 + byte 17)) (length (long_frame byte rest)) f.0;
      unfragmented = g.0;
      transport = g.1;
    }

at_least_42 : (byte : ℕ → ℕ) (rest : List ℕ) → nat_le 42 (length (long_frame byte rest)) ≡ true
at_least_42 byte rest = sym (reaches_so 42 (long_frame byte rest))

all_eight : (a b c d e f g h : Bool) → a ≡ true → b ≡ true → c ≡ true → d ≡ true → e ≡ true → f ≡ true → g ≡ true → h ≡ true →
    (a && (b && (c && (d && (e && (f && (g && h))))))) ≡ true
all_eight a b c d e f g h ai bi ci di ei fi gi hi = (λ i. ai i && (bi i && (ci i && (di i && (ei i && (fi i && (gi i && hi i)))))))

pub is_flow : (byte : ℕ → ℕ) (rest : List ℕ) → FlowFacts byte rest → has_flow (long_frame byte rest) ≡ true
is_flow byte rest facts =
    let type_high : byte 12 ≡ 8 = facts.type_high in
    let type_low : byte 13 ≡ 0 = facts.type_low in
    let version : byte 14 ≡ 69 = facts.version in
    let least : 28 ≤ byte 16 * 256 + byte 17 = facts.least in
    let whole : 14 + (byte 16 * 256 + byte 17) ≤ length (long_frame byte rest) = facts.whole in
    all_eight (nat_le 42 (length (long_frame byte rest))) (byte 12 == 8) (byte 13 == 0) (byte 14 == 69) (nat_le 28 (byte 16 * 256 + byte 17))
    (nat_le (14 + (byte 16 * 256 + byte 17)) (length (long_frame byte rest))) (bit_and (byte 20 * 256 + byte 21) 16383 == 0) (byte 23 == 6 || byte 23 == 17)
    (at_least_42 byte rest) (ap (λ n. n == 8) type_high) (ap (λ n. n == 0) type_low) (ap (λ n. n == 69) version)
    (le-leb 28 (byte 16 * 256 + byte 17) least)
    (le-leb (14 + (byte 16 * 256 + byte 17)) (length (long_frame byte rest)) whole)
    facts.unfragmented facts.transport

-- ---- what follows for the rule

none_of : (t : Bool) → (t ≡ true → ⊥) → t ≡ false
none_of true not_so = absurd (not_so refl)
none_of false not_so = refl

pub passes : (setting : SteeringSizes) (byte : ℕ → ℕ) (rest : List ℕ) → (FlowFacts byte rest → ⊥) →
    steered setting (came_in byte rest) ≡ counted_end setting V.Pass (came_in byte rest)
passes setting byte rest not_so =
    ap (λ t. either t (by_service setting (came_in byte rest)) (counted_end setting V.Pass (came_in byte rest)))
    (none_of (has_flow (long_frame byte rest)) (λ is. not_so (flow_facts byte rest is)))

pub serves : (setting : SteeringSizes) (byte : ℕ → ℕ) (rest : List ℕ) → FlowFacts byte rest → steered setting (came_in byte rest) ≡ by_service setting (came_in byte rest)
serves setting byte rest facts =
    ap (λ t. either t (by_service setting (came_in byte rest)) (counted_end setting V.Pass (came_in byte rest))) (is_flow byte rest facts)

-- ---- the tests

module _ (byte : ℕ → ℕ) (rest : List ℕ) (are : (n : ℕ) → byte n < 256) where
  pub other_type : not (byte 12 + 256 * byte 13 == 8) ≡ true → FlowFacts byte rest → ⊥
  other_type test facts = let high : byte 12 ≡ 8 = facts.type_high in let low : byte 13 ≡ 0 = facts.type_low in grind (arith, nat_tests)

  pub ipv4_high : not (byte 12 + 256 * byte 13 == 8) ≡ false → byte 12 ≡ 8
  ipv4_high test = let a : byte 12 < 256 = are 12 in let b : byte 13 < 256 = are 13 in grind (arith, nat_tests)

  pub ipv4_low : not (byte 12 + 256 * byte 13 == 8) ≡ false → byte 13 ≡ 0
  ipv4_low test = let a : byte 12 < 256 = are 12 in let b : byte 13 < 256 = are 13 in grind (arith, nat_tests)

  pub other_version : not (byte 14 == 69) ≡ true → FlowFacts byte rest → ⊥
  other_version test facts = let is : byte 14 ≡ 69 = facts.version in grind (arith, nat_tests)

  pub version_4 : not (byte 14 == 69) ≡ false → byte 14 ≡ 69
  version_4 test = grind (arith, nat_tests)

  abbrev pub total : ℕ
  total = swap_bytes w16 ((byte 16 + 256 * byte 17) % 65536)

  pub total_is : total ≡ byte 16 * 256 + byte 17
  total_is = swapped_word (byte 16) (byte 17) (are 16) (are 17)

  pub too_short : nat_lt total 28 ≡ true → FlowFacts byte rest → ⊥
  too_short test facts =
      let below : total < 28 = ltb-true total 28 test in let least : 28 ≤ byte 16 * 256 + byte 17 = facts.least in
      let is : total ≡ byte 16 * 256 + byte 17 = total_is in omega arith

  pub long_enough : nat_lt total 28 ≡ false → 28 ≤ byte 16 * 256 + byte 17
  long_enough test = let above : 28 ≤ total = ltb-false total 28 test in let is : total ≡ byte 16 * 256 + byte 17 = total_is in omega arith

  pub too_long : length (long_frame byte rest) ≤ 2048 → nat_lt 2034 total ≡ true → FlowFacts byte rest → ⊥
  too_long most test facts =
      let above : 2034 < total = ltb-true 2034 total test in
      let whole : 14 + (byte 16 * 256 + byte 17) ≤ length (long_frame byte rest) = facts.whole in
      let is : total ≡ byte 16 * 256 + byte 17 = total_is in omega arith

  pub at_most : nat_lt 2034 total ≡ false → byte 16 * 256 + byte 17 ≤ 2034
  at_most test = let below : total ≤ 2034 = ltb-false 2034 total test in let is : total ≡ byte 16 * 256 + byte 17 = total_is in omega arith

  pub end_test : nat_lt 2034 total ≡ false → is_at_most_end (pos 14 +ℤ signed_value 64 total) (long_frame byte rest) ≡ nat_le (14 + total) (length (long_frame byte rest))
  end_test test =
      let at_most : total ≤ 2034 = ltb-false 2034 total test in
      ap (λ place. is_at_most_end (pos 14 +ℤ place) (long_frame byte rest)) (as_signed total (omega arith)) ∙ reaches_so (14 + total) (long_frame byte rest)

  pub not_whole : nat_lt 2034 total ≡ false → not (is_at_most_end (pos 14 +ℤ signed_value 64 total) (long_frame byte rest)) ≡ true → FlowFacts byte rest → ⊥
  not_whole small test facts =
      let beyond : not (nat_le (14 + total) (length (long_frame byte rest))) ≡ true = sym (ap not (end_test small)) ∙ test in
      let whole : 14 + (byte 16 * 256 + byte 17) ≤ length (long_frame byte rest) = facts.whole in
      let is : total ≡ byte 16 * 256 + byte 17 = total_is in grind (arith, nat_tests)

  pub is_whole : nat_lt 2034 total ≡ false → not (is_at_most_end (pos 14 +ℤ signed_value 64 total) (long_frame byte rest)) ≡ false →
      14 + (byte 16 * 256 + byte 17) ≤ length (long_frame byte rest)
  is_whole small test =
      let within : not (nat_le (14 + total) (length (long_frame byte rest))) ≡ false = sym (ap not (end_test small)) ∙ test in
      let is : total ≡ byte 16 * 256 + byte 17 = total_is in grind (arith, nat_tests)

  pub a_fragment : not (bit_and (byte 20 + 256 * byte 21) 65343 == 0) ≡ true → FlowFacts byte rest → ⊥
  a_fragment test facts =
      both_ways (bit_and (byte 20 * 256 + byte 21) 16383 == 0) (not-true _ (sym (ap not (fragment_test (byte 20) (byte 21) (are 20) (are 21))) ∙ test)) facts.unfragmented

  pub no_fragment : not (bit_and (byte 20 + 256 * byte 21) 65343 == 0) ≡ false → (bit_and (byte 20 * 256 + byte 21) 16383 == 0) ≡ true
  no_fragment test = not-false _ (sym (ap not (fragment_test (byte 20) (byte 21) (are 20) (are 21))) ∙ test)

  pub no_transport : (byte 23 == 6) ≡ false → not (byte 23 == 17) ≡ true → FlowFacts byte rest → ⊥
  no_transport not_tcp not_udp facts = let transport : (byte 23 == 6 || byte 23 == 17) ≡ true = facts.transport in
      both_ways (byte 23 == 6 || byte 23 == 17) ((λ i. not_tcp i || not-true _ not_udp i)) transport

  pub tcp : (byte 23 == 6) ≡ true → (byte 23 == 6 || byte 23 == 17) ≡ true
  tcp is = ap (λ t. t || byte 23 == 17) is

  pub udp : (byte 23 == 6) ≡ false → not (byte 23 == 17) ≡ false → (byte 23 == 6 || byte 23 == 17) ≡ true
  udp not_tcp is = (λ i. not_tcp i || not-false _ is i)

-- a short frame has no flow
pub short_has_none : (bytes : List ℕ) → reaches 42 bytes ≡ false → has_flow bytes ≡ false
short_has_none bytes short = first_not (nat_le 42 (length bytes)) _ (sym (reaches_so 42 bytes) ∙ short)
  where
    first_not : (x y : Bool) → x ≡ false → (x && y) ≡ false
    first_not x y is = ap (λ t. t && y) is
