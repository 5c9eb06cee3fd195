use Rattle.std.proofs.Common.{◌≡◌, ◌<◌, ◌≤◌, ◌+◌, ℕ, List, [], ◌∷◌, length, refl, sym, ap, ◌∙◌, subst, arith, length-append}
use Rattle.semantics.specs.Each.{Each}
use Rattle.atomic_table.specs.declared.badge.Badge.{Badge}
use Rattle.shards.specs.declared.rule.Known.{Known}
use Rattle.shards.specs.LockRule.{pass_of}
use Rattle.shards.specs.HeldCells.{HeldIds, no_ids, held_at, most_held, room_of}
use Rattle.shards.specs.NewShards.{badges_at, IsPartOfSeat}
use Rattle.shards.specs.Passes.{badge_at}
use Rattle.shards.specs.ShardPasses.{ShardPassView}
use Rattle.semantics.proofs.shared.EachLemmas.{each_first, each_rest, each_start, at_or, set_count}
use Rattle.shards.proofs.Dealing.{row_there, rows_left, others_left, lengths_left, parts_more, part_of_seat, seat_of_new, room_of_new}
use Rattle.shards.proofs.dealer.column.Goals as goal

abbrev Waits : List HeldIds → ℕ → HeldIds → Type 0
Waits all k held = held ≡ held_at all k

pub rows-init : goal.rows-init
rows-init c = record {
  counted = ap (λ xs. length xs) c.requires.empty;
  end_is = (let n = c.len-number-end.ensures in let ok = c.args.rows.now.ok.0 in omega (arith, n, ok));
  same_count = refl;
  room = c.requires.room;
  together = (let h = c.requires.held in omega (arith, h));
  waiting = each_start (Waits c.args.held.items) c.args.held.items (λ place held there. at_or c.args.held.items place held no_ids there);
  left = λ k past. refl;
  made = λ k below. absurd (omega (arith, below));
  others = λ k other apart. refl;
  lengths = λ k. refl;
}

pub into_seat-seat-requires : goal.into_seat-seat-requires
into_seat-seat-requires c =
    let i = c.rows.invariant in
    let number = c.rows.number in
    let old = c.args.rows.now.items in
    let there : number < length old = (let e = i.end_is in let t = c.rows-test.true in omega (arith, e, t)) in
    let below : number < length c.rows.rows.items = (let n = i.same_count in omega (arith, n, there)) in
    let badge_is : c.take.result ≡ badge_at (badges_at old number) c.args.place =
    c.take.ensures.badge ∙ ap (λ (r : List (Badge Known)). badge_at r c.args.place) (row_there c.rows.rows.items number c.index_mut.result.now below c.index_mut.ensures.value ∙ i.left number (omega arith)) in
    let new = c.requires.new number there in
    (pass_of new.key new.who [] [], ap (λ (b : Badge Known). b.views) badge_is ∙ new.fresh)

pub new-requires-clause-seat : goal.new-requires-clause-seat
new-requires-clause-seat c =
    let i = c.rows.invariant in
    let number = c.rows.number in
    let old = c.args.rows.now.items in
    let there : number < length old = (let e = i.end_is in let t = c.rows-test.true in omega (arith, e, t)) in
    let below : number < length c.rows.rows.items = (let n = i.same_count in omega (arith, n, there)) in
    let badge_is : c.take.result ≡ badge_at (badges_at old number) c.args.place =
    c.take.ensures.badge ∙ ap (λ (r : List (Badge Known)). badge_at r c.args.place) (row_there c.rows.rows.items number c.index_mut.result.now below c.index_mut.ensures.value ∙ i.left number (omega arith)) in
    let seat = c.into_seat-seat.ensures in
    seat_of_new (badge_at (badges_at old number) c.args.place) (held_at c.args.held.items number) (c.requires.new number there) c.into_seat-seat.result.me (ap (λ (b : Badge Known). b.views) (sym badge_is) ∙ seat.2) seat.3

pub new-requires-clause-none : goal.new-requires-clause-none
new-requires-clause-none c =
    let i = c.rows.invariant in
    let number = c.rows.number in
    let there : number < length c.args.rows.now.items = (let e = i.end_is in let t = c.rows-test.true in omega (arith, e, t)) in
    let some_left : 0 < length c.rows.held.items = (let t = i.together in omega (arith, t, there)) in
    ap (λ (h : HeldIds). h.ids) (each_first (Waits c.args.held.items) number c.rows.held.items c.remove.result i.waiting some_left c.remove.ensures.value) ∙ c.requires.none number there

pub new-requires-clause-room : goal.new-requires-clause-room
new-requires-clause-room c =
    let i = c.rows.invariant in
    let number = c.rows.number in
    let old = c.args.rows.now.items in
    let there : number < length old = (let e = i.end_is in let t = c.rows-test.true in omega (arith, e, t)) in
    let below : number < length c.rows.rows.items = (let n = i.same_count in omega (arith, n, there)) in
    let some_left : 0 < length c.rows.held.items = (let t = i.together in omega (arith, t, there)) in
    let badge_is : c.take.result ≡ badge_at (badges_at old number) c.args.place =
    c.take.ensures.badge ∙ ap (λ (r : List (Badge Known)). badge_at r c.args.place) (row_there c.rows.rows.items number c.index_mut.result.now below c.index_mut.ensures.value ∙ i.left number (omega arith)) in
    let seat = c.into_seat-seat.ensures in
    let me = c.into_seat-seat.result.me in
    subst (λ (h : HeldIds). room_of me.0.who (most_held me.0.key.plan) ≤ h.room) (sym (each_first (Waits c.args.held.items) number c.rows.held.items c.remove.result i.waiting some_left c.remove.ensures.value))
    (room_of_new (badge_at (badges_at old number) c.args.place) (held_at c.args.held.items number) (c.requires.new number there) me (ap (λ (b : Badge Known). b.views) (sym badge_is) ∙ seat.2) seat.3)

pub rows-preserved : goal.rows-preserved
rows-preserved c =
    let i = c.rows.invariant in
    let number = c.rows.number in
    let old = c.args.rows.now.items in
    let now = c.rows.rows.items in
    let place = c.args.place in
    let row = c.index_mut.result.now in
    let after = c.take.new.self in
    let there : number < length old = (let e = i.end_is in let t = c.rows-test.true in omega (arith, e, t)) in
    let below : number < length now = (let n = i.same_count in omega (arith, n, there)) in
    let is = c.index_mut.ensures.value in
    let badge_is : c.take.result ≡ badge_at (badges_at old number) place =
    c.take.ensures.badge ∙ ap (λ (r : List (Badge Known)). badge_at r place) (row_there now number row below is ∙ i.left number (omega arith)) in
    let seat = c.into_seat-seat.ensures in
    let items = c.push_reserved.ensures.items in
    record {
      counted = ap (λ xs. length xs) items ∙ length-append c.rows.parts.items (c.new.result ∷ []) ∙ ap (λ n. n + 1) i.counted;
      end_is = i.end_is;
      same_count = set_count now number after ∙ i.same_count;
      room = (let r = i.room in let grown = c.push_reserved.ensures.capacity in omega (arith, r, grown));
      together = (let t = i.together in let shorter = c.remove.ensures.len in let a = c.rows.held.ok.0 in let b = c.remove.new.self.ok.0 in omega (arith, t, shorter, a, b, there));
      waiting = subst (λ (hs : List HeldIds). Each (Waits c.args.held.items) (number + 1) hs) (sym c.remove.ensures.items) (each_rest (Waits c.args.held.items) number c.rows.held.items i.waiting);
      left = rows_left old now number place row after below is c.take.ensures.others c.take.ensures.count i.left;
      made = parts_more (λ (k : ℕ) (part : ShardPassView). IsPartOfSeat (badge_at (badges_at old k) place) part) c.rows.parts.items c.push_reserved.new.self.items number c.new.result i.counted items
          (part_of_seat (badge_at (badges_at old number) place) c.into_seat-seat.result c.new.result (seat.0 ∙ ap (λ (b : Badge Known). b.table_id) badge_is) (ap (λ (b : Badge Known). b.views) (sym badge_is) ∙ seat.2) seat.3 c.new.ensures) i.made;
      others = others_left old now number place row after below is c.take.ensures.others c.take.ensures.count i.others;
      lengths = lengths_left old now number place row after below is c.take.ensures.others c.take.ensures.count i.lengths;
    }

pub returns-clause-parts : goal.returns-clause-parts
returns-clause-parts c = λ number there. c.rows.invariant.made number (let e = c.rows.invariant.end_is in let t = c.rows-test.false in omega (arith, e, t, there))
