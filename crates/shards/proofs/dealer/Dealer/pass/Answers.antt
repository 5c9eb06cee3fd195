use Rattle.std.proofs.Common.{rules, ◌≡◌, ◌<◌, ◌≤◌, ℕ, true, false, [], ◌∷◌, length, sym, ap, ◌∙◌, arith}
use Rattle.shards.specs.NewShards.{is_dealt_at}
use Rattle.semantics.proofs.shared.EachLemmas.{or_within}
use Rattle.shards.specs.HeldCells.{held_at, room_at, room_of}
use Rattle.shards.specs.GuardedView.{keys}
use Rattle.shards.specs.declared.deeds.OrderPart.TheVariants.{ByCaller}
use Rattle.shards.specs.OrderRule.{account, account_deeds}
use Rattle.shards.proofs.OrderDealing.{place_there, fresh_there, seat_there, others_there}
use Rattle.shards.proofs.Dealing.{place_within, new_seat, new_pass, nothing_at, rest_of_rows}
use Rattle.shards.proofs.dealer.Dealer.pass.Goals as goal

pub column-parts-requires-clause-held : goal.column-parts-requires-clause-held
column-parts-requires-clause-held g c =
    (let many = c.in_ok-held.ensures.count in let roomed = c.self.invariant.0.roomed in let sized = c.self.invariant.0.sized in omega (arith, many, roomed, sized))

pub column-parts-requires-clause-none : goal.column-parts-requires-clause-none
column-parts-requires-clause-none g c =
    λ number below. c.in_ok-held.ensures.none number (let roomed = c.self.invariant.0.roomed in let sized = c.self.invariant.0.sized in omega (arith, roomed, sized, below))

pub column-parts-requires-clause-waiting : goal.column-parts-requires-clause-waiting
column-parts-requires-clause-waiting g c =
    let below : c.caller_place-place.result < length c.self.inside.dealt.items = (let n = c.len.ensures in let ok = c.self.inside.dealt.ok.0 in let t = c.if-place-len.false in omega (arith, n, ok, t)) in
    let waits : is_dealt_at c.self.inside.dealt.items c.caller_place-place.result ≡ false =
    or_within c.self.inside.dealt.items true c.index.result.now c.caller_place-place.result below ∙ sym c.index.ensures ∙ c.if-index.false in
    place_within g.B.Naming.table (keys g.B.Naming.plan g.B.Naming.order) g.B.Naming.count c.self.inside.rooms.items c.self.inside.dealt.items c.self.inside.rows.items c.caller_place-place.result c.args.who c.self.invariant.0 waits c.caller_place-place.ensures

pub column-parts-requires-clause-new : goal.column-parts-requires-clause-new
column-parts-requires-clause-new g c =
    let below : c.caller_place-place.result < length c.self.inside.dealt.items = (let n = c.len.ensures in let ok = c.self.inside.dealt.ok.0 in let t = c.if-place-len.false in omega (arith, n, ok, t)) in
    let waits : is_dealt_at c.self.inside.dealt.items c.caller_place-place.result ≡ false =
    or_within c.self.inside.dealt.items true c.index.result.now c.caller_place-place.result below ∙ sym c.index.ensures ∙ c.if-index.false in
    let enough : (number : ℕ) → number < length c.self.inside.rooms.items → room_of c.args.who (room_at c.self.inside.rooms.items number) ≤ (held_at c.in_ok-held.held.items number).room = search rules in
    λ number within. new_seat g.B.Naming.table (keys g.B.Naming.plan g.B.Naming.order) g.B.Naming.count c.self.inside.rooms.items c.self.inside.dealt.items c.self.inside.rows.items c.caller_place-place.result c.args.who c.self.invariant.0 waits c.caller_place-place.ensures
    number (held_at c.in_ok-held.held.items number) within (enough number (let roomed = c.self.invariant.0.roomed in let sized = c.self.invariant.0.sized in omega (arith, roomed, sized, within)))

pub invariant_of-result : goal.invariant_of-result
invariant_of-result g c =
    let below : c.caller_place-place.result < length c.self.inside.dealt.items = (let n = c.len.ensures in let ok = c.self.inside.dealt.ok.0 in let t = c.if-place-len.false in omega (arith, n, ok, t)) in
    let waits : is_dealt_at c.self.inside.dealt.items c.caller_place-place.result ≡ false =
    or_within c.self.inside.dealt.items true c.index.result.now c.caller_place-place.result below ∙ sym c.index.ensures ∙ c.if-index.false in (
      new_pass g.B.Naming.table (keys g.B.Naming.plan g.B.Naming.order) g.B.Naming.count c.self.inside.rooms.items c.self.inside.dealt.items c.self.inside.rows.items c.caller_place-place.result c.args.who c.self.invariant.0 waits c.caller_place-place.ensures
          c.column-parts.result.items c.column-parts.ensures.count.0 c.column-parts.ensures.parts,
      (seat_there g.B.Naming.order c.self.inside.dealt.items c.self.inside.places.items c.caller_place-place.result c.args.who c.self.invariant.1 waits c.caller_place-place.ensures c.index_mut-2.result.now c.index_mut-2.ensures.value c.into_seat-seat.result (c.into_seat-seat.ensures.0 ∙ ap (λ b. b.table_id) c.replace.ensures.value) (ap (λ b. b.views) (sym c.replace.ensures.value) ∙ c.into_seat-seat.ensures.2) c.into_seat-seat.ensures.3).0,
    )

pub invariant_of-self : goal.invariant_of-self
invariant_of-self g c =
    let below : c.caller_place-place.result < length c.self.inside.dealt.items = (let n = c.len.ensures in let ok = c.self.inside.dealt.ok.0 in let t = c.if-place-len.false in omega (arith, n, ok, t)) in
    let waits : is_dealt_at c.self.inside.dealt.items c.caller_place-place.result ≡ false =
    or_within c.self.inside.dealt.items true c.index.result.now c.caller_place-place.result below ∙ sym c.index.ensures ∙ c.if-index.false in (
      rest_of_rows g.B.Naming.table (keys g.B.Naming.plan g.B.Naming.order) g.B.Naming.count c.self.inside.rooms.items c.self.inside.dealt.items c.self.inside.rows.items c.column-parts.new.rows.items c.caller_place-place.result
          c.self.invariant.0 below c.column-parts.ensures.count.1 c.column-parts.ensures.others c.column-parts.ensures.lengths,
      others_there g.B.Naming.order c.self.inside.dealt.items c.self.inside.places.items c.caller_place-place.result c.args.who c.self.invariant.1 waits c.caller_place-place.ensures _ below,
    )

pub returns-clause-nothing : goal.returns-clause-nothing
returns-clause-nothing g c =
    let below : c.caller_place-place.result < length c.self.inside.dealt.items = (let n = c.len.ensures in let ok = c.self.inside.dealt.ok.0 in let t = c.if-place-len.false in omega (arith, n, ok, t)) in
    let waits : is_dealt_at c.self.inside.dealt.items c.caller_place-place.result ≡ false =
    or_within c.self.inside.dealt.items true c.index.result.now c.caller_place-place.result below ∙ sym c.index.ensures ∙ c.if-index.false in
    nothing_at g.B.Naming.table (keys g.B.Naming.plan g.B.Naming.order) g.B.Naming.count c.self.inside.rooms.items c.self.inside.dealt.items c.self.inside.rows.items c.caller_place-place.result c.args.who c.self.invariant.0 waits c.caller_place-place.ensures
    c.column-parts.result.items c.column-parts.ensures.count.0 c.column-parts.ensures.parts (account_deeds c.into_seat-seat.result.me.0)

pub index_mut-requires-2 : goal.index_mut-requires-2
index_mut-requires-2 g c =
    let below : c.caller_place-place.result < length c.self.inside.dealt.items = (let n = c.len.ensures in let ok = c.self.inside.dealt.ok.0 in let t = c.if-place-len.false in omega (arith, n, ok, t)) in
    let waits : is_dealt_at c.self.inside.dealt.items c.caller_place-place.result ≡ false =
    or_within c.self.inside.dealt.items true c.index.result.now c.caller_place-place.result below ∙ sym c.index.ensures ∙ c.if-index.false in
    (let there = place_there g.B.Naming.order c.self.inside.dealt.items c.self.inside.places.items c.caller_place-place.result c.args.who c.self.invariant.1 waits c.caller_place-place.ensures in let ok = c.self.inside.places.ok.0 in omega (arith, there, ok))

pub into_seat-seat-requires : goal.into_seat-seat-requires
into_seat-seat-requires g c =
    let below : c.caller_place-place.result < length c.self.inside.dealt.items = (let n = c.len.ensures in let ok = c.self.inside.dealt.ok.0 in let t = c.if-place-len.false in omega (arith, n, ok, t)) in
    let waits : is_dealt_at c.self.inside.dealt.items c.caller_place-place.result ≡ false =
    or_within c.self.inside.dealt.items true c.index.result.now c.caller_place-place.result below ∙ sym c.index.ensures ∙ c.if-index.false in
    let fresh = fresh_there g.B.Naming.order c.self.inside.dealt.items c.self.inside.places.items c.caller_place-place.result c.args.who c.self.invariant.1 waits c.caller_place-place.ensures c.index_mut-2.result.now c.index_mut-2.ensures.value in
    (account (ByCaller c.args.who) [] ∷ [], ap (λ b. b.views) c.replace.ensures.value ∙ fresh.knows)

pub returns-clause-idle : goal.returns-clause-idle
returns-clause-idle g c =
    let below : c.caller_place-place.result < length c.self.inside.dealt.items = (let n = c.len.ensures in let ok = c.self.inside.dealt.ok.0 in let t = c.if-place-len.false in omega (arith, n, ok, t)) in
    let waits : is_dealt_at c.self.inside.dealt.items c.caller_place-place.result ≡ false =
    or_within c.self.inside.dealt.items true c.index.result.now c.caller_place-place.result below ∙ sym c.index.ensures ∙ c.if-index.false in
    (seat_there g.B.Naming.order c.self.inside.dealt.items c.self.inside.places.items c.caller_place-place.result c.args.who c.self.invariant.1 waits c.caller_place-place.ensures c.index_mut-2.result.now c.index_mut-2.ensures.value c.into_seat-seat.result (c.into_seat-seat.ensures.0 ∙ ap (λ b. b.table_id) c.replace.ensures.value) (ap (λ b. b.views) (sym c.replace.ensures.value) ∙ c.into_seat-seat.ensures.2) c.into_seat-seat.ensures.3).1
