use Rattle.std.proofs.Common.{reverse, refl, sym, ◌∙◌, ap, ◌≡◌, w32, rules}
use mir.Val.{to_z, of_z, SFits}
use Rattle.std.proofs.lemmas.Int.{to_z-of_z}
use Rattle.std.specs.Prelude.{IsTrue, IsFalse}
use Rattle.semantics.specs.declared.call.Call.TheVariants.{Delete}
use Rattle.semantics.specs.declared.call.Reply.TheVariants.{Answer}
use Rattle.semantics.specs.History.{meets, journal_is_full}
use Rattle.journal.specs.Entries.{delete_entry}
use Rattle.shard_core.proofs.ChangeLemmas.{can_retire, deleted_keyed, contents_deleted, readers_deleted}
use Rattle.shard_core.proofs.StepLemmas.{step_taken, few_stamps}
use Rattle.shard_core.proofs.shard.Shard.delete.Goals as goal

pub retire_key-requires-clause-keyed : goal.retire_key-requires-clause-keyed
retire_key-requires-clause-keyed c done =
    let inside = c.self.inside in
    let fits : SFits w32 c.delete_answer-code.result = search rules in
    let same : to_z w32 (of_z w32 c.delete_answer-code.result) ≡ c.delete_answer-code.result = to_z-of_z w32 c.delete_answer-code.result fits in
    deleted_keyed inside.plan (reverse inside.journal.entries) inside.cells inside.keys c.args.key.now c.delete_answer-code.result c.self.invariant.contents
    (rw (← c.self.view_is) at c.delete_answer-code.ensures) (sym same ∙ done)

pub retire_key-requires-clause-retired : goal.retire_key-requires-clause-retired
retire_key-requires-clause-retired c cell done found =
    let inside = c.self.inside in
    let fits : SFits w32 c.delete_answer-code.result = search rules in
    let same : to_z w32 (of_z w32 c.delete_answer-code.result) ≡ c.delete_answer-code.result = to_z-of_z w32 c.delete_answer-code.result fits in
    can_retire inside.plan (reverse inside.journal.entries) inside.cells inside.keys c.args.key.now cell c.delete_answer-code.result inside.readers c.self.invariant.plan_is c.self.invariant.contents c.self.invariant.readers_are
    (rw (← c.self.view_is) at c.delete_answer-code.ensures) (sym same ∙ done) found

pub invariant_of-self : goal.invariant_of-self
invariant_of-self c =
    let inside = c.self.inside in
    let fits : SFits w32 c.delete_answer-code.result = search rules in
    let same : to_z w32 (of_z w32 c.delete_answer-code.result) ≡ c.delete_answer-code.result = to_z-of_z w32 c.delete_answer-code.result fits in
    let met : IsTrue (meets inside.plan (reverse inside.journal.entries) c.args.who (Delete inside.plan.number c.args.key.now)) = rw (← c.self.view_is) at c.requires in
    let has_room : IsFalse (journal_is_full inside.plan (reverse inside.journal.entries) (Delete inside.plan.number c.args.key.now)) =
    sym (rw (← c.self.view_is) at c.lacks_room.ensures) ∙ c.if-lacks_room.false in
    rw (c.append_delete.ensures, same) (step_taken inside.plan inside.journal inside.cells c.retire_key.new.cells inside.keys c.retire_key.new.keys inside.readers c.retire_key.new.readers c.args.who
    (Delete inside.plan.number c.args.key.now) (Answer c.delete_answer-code.result)
    (delete_entry inside.journal.shard c.args.who c.args.key.now c.delete_answer-code.result) c.self.invariant
    (record {
      met = met;
      has_room = has_room;
      replied = ap Answer (rw (← c.self.view_is) at c.delete_answer-code.ensures);
      contents = contents_deleted inside.plan _ (reverse inside.journal.entries) inside.cells c.retire_key.new.cells inside.keys c.retire_key.new.keys inside.readers c.retire_key.new.readers inside.plan.number c.args.key.now c.delete_answer-code.result
          (λ q. refl) c.self.invariant.legal c.self.invariant.contents c.self.invariant.readers_are (rw (← c.self.view_is) at c.delete_answer-code.ensures) (rw same at c.retire_key.ensures.cells) (rw same at c.retire_key.ensures.keys) (rw same at c.retire_key.ensures.refused);
      readers = readers_deleted inside.plan (reverse inside.journal.entries) inside.cells c.retire_key.new.cells inside.keys c.retire_key.new.keys inside.readers c.retire_key.new.readers inside.plan.number c.args.key.now c.delete_answer-code.result
          c.self.invariant.contents c.self.invariant.readers_are (rw (← c.self.view_is) at c.delete_answer-code.ensures) (rw same at c.retire_key.ensures.readers) (rw same at c.retire_key.ensures.refused);
      keeps = λ _ _. refl;
    }) (ap (λ shard. delete_entry shard c.args.who c.args.key.now c.delete_answer-code.result) c.self.invariant.journal_is.number))

pub retire_key-requires-clause-stamps : goal.retire_key-requires-clause-stamps
retire_key-requires-clause-stamps c =
    let inside = c.self.inside in
    few_stamps inside.plan inside.journal inside.cells inside.keys inside.readers c.self.invariant
