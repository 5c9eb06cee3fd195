use Rattle.std.proofs.Common.{reverse, length, refl, sym, ◌∙◌, ap, ◌≡◌, ◌<◌, arith, w32, rules}
use mir.Val.{to_z, of_z, SFits}
use Rattle.std.proofs.lemmas.Int.{to_z-of_z}
use Rattle.std.specs.Prelude.{IsTrue, IsFalse}
use Rattle.semantics.specs.declared.call.Call.TheVariants.{Update}
use Rattle.semantics.specs.declared.call.Reply.TheVariants.{Answer}
use Rattle.semantics.specs.History.{meets, journal_is_full}
use Rattle.std.proofs.lemmas.List.{length-reverse}
use Rattle.journal.specs.Entries.{update_entry}
use Rattle.shard_core.proofs.RoomLemmas.{served_has_room}
use Rattle.shard_core.proofs.ChangeLemmas.{put_kept, put_room, contents_updated, readers_updated}
use Rattle.shard_core.proofs.StepLemmas.{step_taken, few_stamps}
use Rattle.shard_core.proofs.shard.Shard.update.Goals as goal

pub put_value-requires-clause-kept : goal.put_value-requires-clause-kept
put_value-requires-clause-kept c cell found =
    let inside = c.self.inside in
    let fits : SFits w32 c.update_answer-code.result = search rules in
    let same : to_z w32 (of_z w32 c.update_answer-code.result) ≡ c.update_answer-code.result = to_z-of_z w32 c.update_answer-code.result fits in
    put_kept inside.plan (reverse inside.journal.entries) inside.cells inside.keys c.args.key.now cell c.self.invariant.plan_is c.self.invariant.contents found

pub put_value-requires-clause-room : goal.put_value-requires-clause-room
put_value-requires-clause-room c done absent =
    let inside = c.self.inside in
    let fits : SFits w32 c.update_answer-code.result = search rules in
    let same : to_z w32 (of_z w32 c.update_answer-code.result) ≡ c.update_answer-code.result = to_z-of_z w32 c.update_answer-code.result fits in
    let met : IsTrue (meets inside.plan (reverse inside.journal.entries) c.args.who (Update inside.plan.number c.args.key.now c.args.value.now c.args.flags)) = rw (← c.self.view_is) at c.requires in
    let has_room : IsFalse (journal_is_full inside.plan (reverse inside.journal.entries) (Update inside.plan.number c.args.key.now c.args.value.now c.args.flags)) =
    sym (rw (← c.self.view_is) at c.lacks_room.ensures) ∙ c.if-lacks_room.false in
    let room : length inside.journal.entries < inside.plan.reserve = served_has_room inside.plan inside.journal.entries c.args.who
    (Update inside.plan.number c.args.key.now c.args.value.now c.args.flags) c.self.invariant.plan_is.at_most_eight c.self.invariant.legal met has_room in
    put_room inside.plan (reverse inside.journal.entries) inside.cells inside.keys c.args.key.now c.args.flags c.update_answer-code.result inside.readers c.self.invariant.plan_is c.self.invariant.contents
    (omega (arith, room, length-reverse inside.journal.entries)) c.self.invariant.readers_are (rw (← c.self.view_is) at c.update_answer-code.ensures) (sym same ∙ done) absent

pub invariant_of-self : goal.invariant_of-self
invariant_of-self c =
    let inside = c.self.inside in
    let fits : SFits w32 c.update_answer-code.result = search rules in
    let same : to_z w32 (of_z w32 c.update_answer-code.result) ≡ c.update_answer-code.result = to_z-of_z w32 c.update_answer-code.result fits in
    let met : IsTrue (meets inside.plan (reverse inside.journal.entries) c.args.who (Update inside.plan.number c.args.key.now c.args.value.now c.args.flags)) = rw (← c.self.view_is) at c.requires in
    let has_room : IsFalse (journal_is_full inside.plan (reverse inside.journal.entries) (Update inside.plan.number c.args.key.now c.args.value.now c.args.flags)) =
    sym (rw (← c.self.view_is) at c.lacks_room.ensures) ∙ c.if-lacks_room.false in
    rw (c.append_update.ensures, same) (step_taken inside.plan inside.journal inside.cells c.put_value.new.cells inside.keys c.put_value.new.keys inside.readers c.put_value.new.readers c.args.who
    (Update inside.plan.number c.args.key.now c.args.value.now c.args.flags) (Answer c.update_answer-code.result)
    (update_entry inside.journal.shard c.args.who c.args.key.now c.args.value.now c.args.flags c.update_answer-code.result) c.self.invariant
    (record {
      met = met;
      has_room = has_room;
      replied = ap Answer (rw (← c.self.view_is) at c.update_answer-code.ensures);
      contents = contents_updated inside.plan c.args.who (reverse inside.journal.entries) inside.cells c.put_value.new.cells inside.keys c.put_value.new.keys inside.readers c.put_value.new.readers inside.plan.number c.args.key.now c.args.value.now c.args.flags c.update_answer-code.result
          c.self.invariant.plan_is c.self.invariant.contents c.self.invariant.readers_are (rw (← c.self.view_is) at c.update_answer-code.ensures) (rw same at c.put_value.ensures.done) (rw same at c.put_value.ensures.refused);
      readers = readers_updated inside.plan (reverse inside.journal.entries) inside.cells c.put_value.new.cells inside.keys c.put_value.new.keys inside.readers c.put_value.new.readers inside.plan.number c.args.key.now c.args.value.now c.args.flags c.update_answer-code.result
          c.self.invariant.plan_is c.self.invariant.contents c.self.invariant.readers_are (rw (← c.self.view_is) at c.update_answer-code.ensures) (rw same at c.put_value.ensures.done) (rw same at c.put_value.ensures.refused);
      keeps = λ _ _. refl;
    }) (ap (λ shard. update_entry shard c.args.who c.args.key.now c.args.value.now c.args.flags c.update_answer-code.result) c.self.invariant.journal_is.number))

pub put_value-requires-clause-stamps : goal.put_value-requires-clause-stamps
put_value-requires-clause-stamps c =
    let inside = c.self.inside in
    few_stamps inside.plan inside.journal inside.cells inside.keys inside.readers c.self.invariant
