-- The test of a flow says what a flow is, so the plan's choice is that of the rule.
use Rattle.std.proofs.Common.{◌≡◌, ◌⊎◌, inl, inr, ℕ, ◌+◌, ◌≤◌, ◌==◌, ◌&&◌, Bool, true, false, List, refl, sym, ap, arith, ◌∙◌, length}
use Rattle.std.specs.Prelude.{nat_le, slice_index, bit_and, ◌||◌, if◌then◌else◌}
use Rattle.std.proofs.lemmas.Bool.{eqb-true, leb-true, le-leb}
use Rattle.wire.specs.FlowForm.{HasFlow, be_word_at}
use Rattle.wire.specs.PlainIpv4.{total_length}
use Rattle.conntrack.specs.declared.choosing.Choice.TheVariants as C
use Rattle.conntrack.specs.SteeringRule.{choice_for_service, fits_tunnel}
use Rattle.conntrack.specs.Steering.{has_flow}
use Rattle.conntrack.specs.SteeringLaws.{PlanFollowsRule}

both : (x y : Bool) → (x && y) ≡ true → (x ≡ true) × (y ≡ true)
both true y is = (refl, is)
both false y is = absurd cc

either_of : (n : ℕ) → (n == 6 || n == 17) ≡ true → (n ≡ 6) ⊎ (n ≡ 17)
either_of n is = by (n == 6) refl
  where
    by : (t : Bool) → (n == 6) ≡ t → (n ≡ 6) ⊎ (n ≡ 17)
    by true six = inl (eqb-true n 6 six)
    by false other = inr (eqb-true n 17 (sym (ap (λ t. t || n == 17) other) ∙ is))

-- what is tested holds
tested : (frame : List ℕ) → has_flow frame ≡ true → HasFlow frame
tested frame is =
    let a = both (nat_le 42 (length frame)) _ is in
    let b = both (slice_index frame 12 == 0x08) _ a.1 in
    let c = both (slice_index frame 13 == 0x00) _ b.1 in
    let d = both (slice_index frame 14 == 0x45) _ c.1 in
    let e = both (nat_le 28 (total_length frame)) _ d.1 in
    let f = both (nat_le (14 + total_length frame) (length frame)) _ e.1 in
    let g = both (bit_and (be_word_at 20 frame) 0x3fff == 0) _ f.1 in
    let long : 42 ≤ length frame = leb-true 42 (length frame) a.0 in
    let least : 28 ≤ total_length frame = leb-true 28 (total_length frame) e.0 in
    record {
      plain = record {
        long = omega arith;
        ether_type_high = eqb-true (slice_index frame 12) 8 b.0;
        ether_type_low = eqb-true (slice_index frame 13) 0 c.0;
        version_and_header_length = eqb-true (slice_index frame 14) 69 d.0;
        total_at_least = (let more : 20 ≤ total_length frame = omega arith in more);
        whole = leb-true (14 + total_length frame) (length frame) f.0;
      };
      total_at_least = least;
      unfragmented = eqb-true (bit_and (be_word_at 20 frame) 16383) 0 g.0;
      transport = either_of (slice_index frame 23) g.1;
    }

all_eight : (a b c d e f g h : Bool) → a ≡ true → b ≡ true → c ≡ true → d ≡ true → e ≡ true → f ≡ true → g ≡ true → h ≡ true →
    (a && (b && (c && (d && (e && (f && (g && h))))))) ≡ true
all_eight a b c d e f g h ai bi ci di ei fi gi hi = (λ i. ai i && (bi i && (ci i && (di i && (ei i && (fi i && (gi i && hi i)))))))

one_of : (n : ℕ) → (n ≡ 6) ⊎ (n ≡ 17) → (n == 6 || n == 17) ≡ true
one_of n (inl six) = ap (λ m. m == 6 || m == 17) six
one_of n (inr seventeen) = ap (λ m. m == 6 || m == 17) seventeen

pub passes_test : (frame : List ℕ) → HasFlow frame → has_flow frame ≡ true
passes_test frame flow =
    let least : 28 ≤ total_length frame = flow.total_at_least in
    let whole : 14 + total_length frame ≤ length frame = flow.plain.whole in
    all_eight (nat_le 42 (length frame)) (slice_index frame 12 == 0x08) (slice_index frame 13 == 0x00) (slice_index frame 14 == 0x45) (nat_le 28 (total_length frame))
    (nat_le (14 + total_length frame) (length frame)) (bit_and (be_word_at 20 frame) 0x3fff == 0) (slice_index frame 23 == 6 || slice_index frame 23 == 17)
    (le-leb 42 (length frame) (omega arith))
    (ap (λ n. n == 8) flow.plain.ether_type_high) (ap (λ n. n == 0) flow.plain.ether_type_low) (ap (λ n. n == 69) flow.plain.version_and_header_length)
    (le-leb 28 (total_length frame) least) (le-leb (14 + total_length frame) (length frame) whole)
    (ap (λ n. n == 0) flow.unfragmented) (one_of (slice_index frame 23) flow.transport)

none_of : (t : Bool) → (t ≡ true → ⊥) → t ≡ false
none_of true not_so = absurd (not_so refl)
none_of false not_so = refl

pub follows_rule : PlanFollowsRule
follows_rule frame records = record {
  without_flow = λ none. ap (λ t. if t then choice_for_service (fits_tunnel frame) records records.vip else C.Pass) (none_of (has_flow frame) (λ is. none (tested frame is)));
  with_flow = λ flow. ap (λ t. if t then choice_for_service (fits_tunnel frame) records records.vip else C.Pass) (passes_test frame flow);
}
