use Rattle.std.proofs.Common.{◌≡◌, ◌<◌, ◌+◌, ℕ, List, [], ◌∷◌, length, sym, ap, ◌∙◌, subst, arith, length-append}
use Rattle.std.specs.Prelude.{Some, slice_index_or}
use Rattle.std.proofs.lemmas.List.{length-map, map-append}
use Rattle.semantics.specs.declared.call.Entry.{Entry}
use Rattle.shard_core.specs.JournaledShard.{JournaledShard}
use Rattle.journals.specs.KeptEntries.{written_entries, ArePlanned}
use Rattle.semantics.specs.History.{IsLegalJournal}
use Rattle.journals.specs.JournalsView.{JournalsView, entries_at}
use Rattle.shards.specs.CallerView.{IsSettled}
use Rattle.shards.specs.Passes.{pass_at, view_at}
use Rattle.semantics.specs.Each.{Each}
use Rattle.shards.specs.GuardedView.{keyed}
use Rattle.shards.specs.Seats.{IsLockOf}
use Rattle.semantics.proofs.shared.EachLemmas.{each_first, each_rest}
use Rattle.shards.proofs.Settling.{legal_more, settled_more, untouched_less}
use Rattle.shards.specs.declared.deeds.Account.{Account}
use Rattle.shards.specs.declared.deeds.OrderPart.TheVariants.{ByCaller, AtFirst}
use Rattle.semantics.specs.declared.options.Options.{Options}
use Rattle.shards.specs.OrderRule.{account, IsOneOfAccounts, IsEnd}
use Rattle.shards.proofs.ClosedShards.{planned_more}
use Rattle.shards.proofs.OrderShards.{numbered}
use Rattle.shards.proofs.OrderClosing.{HasShard, gathered, gathered_more, one_order_gathered}
use Rattle.shards.proofs.sharing.Shards.close_behind.Goals as goal

pub settled-shard-requires-clause-lock : goal.settled-shard-requires-clause-lock
settled-shard-requires-clause-lock g c =
    let i = c.shards.invariant in
    let some_left : 0 < length c.shards.locks.items = (let t = i.together in let e = c.shards-test.true in omega (arith, t, e)) in
    each_first (λ n lock. IsLockOf (g.B.Naming.table n) (keyed (g.B.Naming.plan n) g.B.Naming.order) lock) c.shards.number c.shards.locks.items c.remove.result i.left some_left c.remove.ensures.value

pub shards-preserved : goal.shards-preserved
shards-preserved g c =
    let i = c.shards.invariant in
    let old = c.args.passes.items in
    let now = c.shards.passes.items in
    let after = c.settled-shard.new.passes.items in
    let number = c.shards.number in
    let written : List JournaledShard = c.shards.closed.items in
    let journals : List (List Entry) = written_entries written in
    let journal : List Entry = c.settled-shard.result.journal in
    let many : length journals ≡ number = length-map written (λ (s : JournaledShard). s.journal) ∙ i.made in
    let s = c.settled-shard.ensures in
    let items = ap written_entries c.push_reserved.ensures.items ∙ map-append (λ (s : JournaledShard). s.journal) written (c.settled-shard.result ∷ []) in
    record {
      count_is = i.count_is;
      together = (let t = i.together in let shorter = c.remove.ensures.len in let a = c.shards.locks.ok.0 in let b = c.remove.new.self.ok.0 in let e = c.shards-test.true in omega (arith, t, shorter, a, b, e));
      small = i.small;
      left = subst (λ xs. Each (λ n lock. IsLockOf (g.B.Naming.table n) (keyed (g.B.Naming.plan n) g.B.Naming.order) lock) (number + 1) xs) (sym c.remove.ensures.items)
          (each_rest (λ n lock. IsLockOf (g.B.Naming.table n) (keyed (g.B.Naming.plan n) g.B.Naming.order) lock) number c.shards.locks.items i.left);
      maps = i.maps;
      options = i.options;
      maps_are = i.maps_are;
      options_fit = i.options_fit;
      one_each = i.one_each;
      made = ap (λ xs. length xs) c.push_reserved.ensures.items ∙ length-append written (c.settled-shard.result ∷ []) ∙ ap (λ n. n + 1) i.made;
      room = (let r = i.room in let grown = c.push_reserved.ensures.capacity in omega (arith, r, grown));
      planned = subst (ArePlanned c.self.inside.maps.items c.self.inside.options) (sym c.push_reserved.ensures.items)
          (planned_more c.self.inside.maps.items c.self.inside.options written c.settled-shard.result number i.made i.planned
          (i.plans.each number (let e = i.count_is in let t = c.shards-test.true in omega (arith, e, t)) ∙ ap Some (sym s.plan)));
      passes = s.count ∙ i.passes;
      legal = subst (λ (js : List (List Entry)). (k : ℕ) → k < number + 1 → IsLegalJournal (g.B.Naming.plan k) (slice_index_or js k [])) (sym items)
          (legal_more old now after journals number journal many g.B.Naming.plan s.legal i.legal);
      callers = λ k. s.callers k ∙ i.callers k;
      deeds = λ k. s.deeds k ∙ i.deeds k;
      order_is = i.order_is;
      plans = i.plans;
      seat_is = s.seat;
      gathered = subst (λ (js : List (List Entry)). (k : ℕ) → k < number + 1 → HasShard k (slice_index_or js k []) c.settled-shard.new.seat.me.0) (sym items)
          (gathered_more number journals journal c.shards.seat.me c.settled-shard.new.seat.me many s.taken i.gathered);
      untouched = untouched_less old now after journals number journal many i.callers i.untouched i.passes s.others;
      settled = subst (λ (js : List (List Entry)). (k m : ℕ) → k < length old → m < number + 1 → IsSettled (pass_at old k).who (view_at (pass_at old k) m) (slice_index_or js m [])) (sym items)
          (settled_more old now after journals number journal many i.callers i.untouched i.passes s.settled i.settled);
    }

pub returns-clause-settled : goal.returns-clause-settled
returns-clause-settled g c =
    let i = c.shards.invariant in
    λ place below number less.
    subst (λ (js : JournalsView). IsSettled (pass_at c.args.passes.items place).who (view_at (pass_at c.args.passes.items place) number) (entries_at js number)) (sym c.written.ensures)
    (i.settled place number below (let t = i.together in let e = c.shards-test.false in let n = i.count_is in omega (arith, t, e, n, less)))

pub settled-shard-requires-clause-numbered : goal.settled-shard-requires-clause-numbered
settled-shard-requires-clause-numbered g c =
    let i = c.shards.invariant in
    numbered _ _ g.B.Naming.count g.B.Naming.plan c.shards.number i.plans (let e = i.count_is in let t = c.shards-test.true in omega (arith, e, t))

pub gather-requires-clause-seat : goal.gather-requires-clause-seat
gather-requires-clause-seat g c = c.gather_all.ensures.seat ∙ sym c.shards.invariant.order_is.table_is

pub gather-requires-clause-other : goal.gather-requires-clause-other
gather-requires-clause-other g c =
    let is = c.into_seat.ensures.seat in
    (AtFirst, (is.0 ∙ sym c.shards.invariant.order_is.table_is, is.1))

pub returns-clause-did : goal.returns-clause-did
returns-clause-did g c =
    let i = c.shards.invariant in
    let end = c.gather_all.ensures in
    let first = gathered c.gather_all.new.seat.me c.gather.new.seat.me c.into_seat.result.me AtFirst c.args.first c.gather.ensures.both c.into_seat.ensures.seat.1 c.into_seat.ensures.deeds in
    one_order_gathered g.B.Naming.plan g.B.Naming.count (c.args.self.options.workers + 2) _ c.written.result c.args.passes.items c.args.first c.gather_all.new.seat.me c.gather.new.seat.me first
    (subst (λ (n : ℕ). IsEnd c.self.inside.order.shared.key.plans.items n c.gather.new.seat.me.0) (i.order_is.callers_are ∙ ap (λ (o : Options). o.workers + 2) i.options) c.end.ensures)
    i.order_is.sized i.order_is.plans
    (λ number below. let was = i.gathered number (let t = i.together in let e = c.shards-test.false in let n = i.count_is in omega (arith, t, e, n, below)) in
    subst (λ (js : JournalsView). HasShard number (entries_at js number) c.gather_all.new.seat.me.0) (sym c.written.ensures)
    (record { deeds = was.deeds; written = was.written; has = end.kept _ was.has }))
    (λ place below. subst (λ (one : Account). IsOneOfAccounts one c.gather_all.new.seat.me.0) (λ k. account (ByCaller (i.callers place k)) (i.deeds place k))
    (end.all place (let e = i.passes in omega (arith, e, below))))
