use Rattle.std.proofs.Common.{◌++◌, ◌∷◌, [], List, ap, arith, length, length-append, refl, rules, subst, sym}
use Rattle.folders.proofs.shared.ReadingLemmas.{more_on, none_on, sent_on, then_end}
use Rattle.wire.specs.declared.records.Sent.{Sent}
use Rattle.xlb_commands.specs.Taking.{AreRecordsTaken}
use Rattle.xlb_commands.proofs.Refusals.{kept_still, kept_twice}
use Rattle.xlb_commands.proofs.TakingLemmas.{past_both, past_none, taken_none, taken_of_both}
use Rattle.xlb_commands.proofs.next_records.fill_piece.Goals as goal

pub records-init : goal.records-init
records-init g c =
    let none = ap length c.clear.ensures in
    record {
      records = [];
      read = none_on _ _ _;
      past = past_none _;
      taken = subst (λ (them : List Sent). AreRecordsTaken c.args.taking.now [] them) (sym c.clear.ensures) (taken_none _);
      counted = omega arith;
      room = c.requires.room;
      fewer = omega (arith, none);
      kept = kept_still _;
      made = kept_still _;
      steady = refl;
    }

pub take_record-requires-clause-front : goal.take_record-requires-clause-front
take_record-requires-clause-front g c = rw c.in-Ok-Some.field-0-is at c.in-Ok-Some.ensures.front

pub take_record-requires-clause-room : goal.take_record-requires-clause-room
take_record-requires-clause-room g c =
    let room = c.records.invariant.room in
    let count = c.in-Ok-Some.ensures.count in
    omega (arith, room, count)

pub take_record-requires-clause-can_pass : goal.take_record-requires-clause-can_pass
take_record-requires-clause-can_pass g c =
    let so_far = c.records.invariant in
    let abreast = c.requires.abreast.1 in
    let both = length-append abreast.past so_far.records in
    let before = abreast.counted in
    let counted = so_far.counted in
    let room = so_far.room in
    record {
      behind = record {
        part = c.requires.abreast.0;
        frames = abreast.frames;
        past = abreast.past ++ so_far.records;
        passed = so_far.past c.requires.abreast.0 abreast.frames abreast.past abreast.passed;
      };
      few = omega (arith, both, before, counted, room);
    }

pub records-preserved : goal.records-preserved
records-preserved g c =
    let so_far = c.records.invariant in
    let found = c.in-Ok-Some.ensures in
    let took = c.in_ok-take_record-in-Ok-Some.ensures in
    let one = took.record in
    let both = length-append so_far.records (one.0 ∷ []) in
    let counted = so_far.counted in
    let found_count = found.count in
    let count = took.count in
    let room = so_far.room in
    let less = found.fewer in
    let fewer = took.fewer in
    let raw = took.raw in
    let so_few = so_far.fewer in
    let few = took.few in
    record {
      records = so_far.records ++ one.0 ∷ [];
      read = more_on _ _ _ _ _ _ _ so_far.records (one.0 ∷ []) so_far.read (sent_on _ _ _ _ _ _ one.0 found.read one.1 one.2);
      past = past_both _ _ _ so_far.records (one.0 ∷ []) so_far.past one.3;
      taken = subst (λ (them : List Sent). AreRecordsTaken c.args.taking.now (so_far.records ++ one.0 ∷ []) them) (sym one.6)
          (taken_of_both _ _ so_far.records (one.0 ∷ []) _ _ so_far.past so_far.taken one.5);
      counted = omega (arith, both, counted, found_count, count);
      room = omega (arith, room, found_count, count, less, fewer, raw);
      fewer = omega (arith, so_few, less, fewer, few, raw);
      kept = kept_twice _ _ _ so_far.kept c.find.ensures.kept;
      made = kept_twice _ _ _ so_far.made c.find.ensures.begun_kept;
      steady = search rules;
    }

pub returns-in-Ok-None-clause-last : goal.returns-in-Ok-None-clause-last
returns-in-Ok-None-clause-last g c = λ is.
    let so_far = c.records.invariant in
    let end = rw c.in-Ok-None.field-0-is at c.in-Ok-None.ensures.whole in
    (so_far.records, then_end _ _ _ _ _ _ c.find.new.self.cut so_far.read end, so_far.past, so_far.taken)

pub returns-clause-more : goal.returns-clause-more
returns-clause-more g c = λ is.
    let so_far = c.records.invariant in
    (so_far.records, so_far.read, so_far.past, so_far.taken)
