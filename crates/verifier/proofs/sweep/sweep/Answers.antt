use Rattle.std.proofs.Common.{arith, ◌<◌, refl, subst, ◌∙◌}
use Rattle.std.specs.Prelude.{pos}
use Rattle.isa.specs.declared.operation.Width.TheVariants.{Bits32}
use Rattle.isa.specs.declared.operation.AluOp.TheVariants.{Add}
use Rattle.isa.specs.declared.operation.Register.TheVariants.{R0}
use Rattle.isa.specs.declared.operation.SourceOperand.TheVariants.{Imm}
use Rattle.ebpf_decode.specs.declared.insn.Insn.TheVariants.{Alu}
use Rattle.std.proofs.Math.ListN.{length-set}
use Rattle.ebpf_decode.specs.InstructionEncoding.{total_slots}
use Rattle.image_shape.proofs.shared.SlotLemmas.{slot_within, next_at, whole_at, instruction_here, none_inside}
use Rattle.verifier.specs.Dataflow.{states_of}
use Rattle.verifier.specs.Resolving.{AreMemories}
use Rattle.verifier.specs.Pending.{known_entry}
use Rattle.verifier.specs.Surveys.{known_along}
use Rattle.verifier.proofs.SweepLemmas.{here_not_negative, held_here, held_at_start, held_on, accepted, refused, kept_none, kept_more}
use Rattle.std.proofs.lemmas.Result.{err_from_is_err_and}
use Rattle.verifier.proofs.ReaderLemmas.{mark_at_start, mark_next, mark_whole}
use Rattle.verifier.proofs.MemoryLemmas.{noted_at_start, noted_next}
use Rattle.verifier.proofs.sweep.sweep.Goals as goal

pub slots-init : goal.slots-init
slots-init g c = record {
  at = refl;
  room = c.told-memories;
  held = held_at_start _ _ _ _ _ c.opening-entry.ensures c.new-pending.ensures;
  noted = noted_at_start _ _ _;
  mark = mark_at_start _ _;
  kept = kept_none (g.K.Keeper.keeps c.args.keeper.now) c.args.version c.args.maps.now c.args.code.now c.requires.fresh;
}

pub bounds-memories-slot : goal.bounds-memories-slot
bounds-memories-slot g c =
    let within : c.slots.slot < total_slots c.args.code.now = slot_within _ _ _ c.slots-test.true c.slots.invariant.at in
    omega (arith, c.requires.few)

pub advance-requires-clause-within : goal.advance-requires-clause-within
advance-requires-clause-within g c =
    let within : c.slots.slot < total_slots c.args.code.now = slot_within _ _ _ c.slots-test.true c.slots.invariant.at in
    omega (arith, c.requires.few)

pub advance-requires-clause-not_negative : goal.advance-requires-clause-not_negative
advance-requires-clause-not_negative g c =
    here_not_negative c.args.code.now c.slots.insn-index (Alu Bits32 Add R0 (Imm (pos 0))) c.slots.slot c.requires.shape c.slots-test.true
    c.slots.invariant.at

pub returns-in_err-advance-clause-refused : goal.returns-in_err-advance-clause-refused
returns-in_err-advance-clause-refused g c =
    let within : c.slots.slot < total_slots c.args.code.now = slot_within _ _ _ c.slots-test.true c.slots.invariant.at
    in let here = held_here _ _ _ _ c.slots.entry c.slots.pending within c.slots.invariant.held
    in let p = err_from_is_err_and c.from_residual.result c.from_residual.ensures.1
    in rw (p.1, p.2) (refused (g.K.Keeper.keeps c.keep.new.self) _ _ _ c.slots.insn-index c.slots.slot _ c.slots.entry c.slots.pending _ c.requires.shape
    (instruction_here _ _ _ _ c.slots-test.true c.slots.invariant.at) within c.slots.invariant.at c.slots.invariant.held c.in_err-advance.ensures.stopped
    (kept_more (g.K.Keeper.keeps c.keep.new.self) _ _ _ c.slots.insn-index c.slots.slot (known_entry c.slots.entry) c.slots.invariant.at here
    (c.keep.ensures _ c.slots.invariant.kept)))

pub slots-preserved : goal.slots-preserved
slots-preserved g c =
    let within : c.slots.slot < total_slots c.args.code.now = slot_within _ _ _ c.slots-test.true c.slots.invariant.at
    in let here = held_here _ _ _ _ c.slots.entry c.slots.pending within c.slots.invariant.held
    in let found = instruction_here c.args.code.now c.slots.insn-index (Alu Bits32 Add R0 (Imm (pos 0))) c.slots.slot c.slots-test.true c.slots.invariant.at
    in record {
      at = rw c.slot_count.ensures.count (next_at _ _ _ _ c.slots-test.true c.slots.invariant.at);
      room = length-set c.slots.memories c.slots.slot c.memory_of.result ∙ c.slots.invariant.room;
      held = rw c.slot_count.ensures.count (held_on _ _ _ _ _ c.slots.entry _ c.slots.pending _ found within
          (λ k after before. none_inside _ _ _ _ k c.slots-test.true c.slots.invariant.at after before)
          c.in_ok-advance.ensures.later c.in_ok-advance.ensures.next c.in_ok-advance.ensures.passes c.slots.invariant.held);
      noted = rw c.slot_count.ensures.count (noted_next _ _ c.slots.memories _ _ _ _ found
          (λ k after before. none_inside _ _ _ _ k c.slots-test.true c.slots.invariant.at after before) (omega (arith, c.requires.few))
          c.memory_of.ensures here c.slots.invariant.noted);
      mark = rw c.slot_count.ensures.count (mark_next _ _ _ _ c.slots.reads _ _ found
          (λ k after before. none_inside _ _ _ _ k c.slots-test.true c.slots.invariant.at after before)
          c.only_reads-reads.ensures here c.slots.invariant.mark);
      kept = kept_more (g.K.Keeper.keeps c.keep.new.self) _ _ _ c.slots.insn-index c.slots.slot (known_entry c.slots.entry) c.slots.invariant.at here
          (c.keep.ensures _ c.slots.invariant.kept);
    }

pub returns-clause-passed : goal.returns-clause-passed
returns-clause-passed g c = record {
  accepted = accepted _ _ _ _ _ _ c.requires.shape (whole_at _ _ _ c.slots-test.false c.slots.invariant.at) c.slots.invariant.held;
  noted = subst (AreMemories _ (states_of c.args.version c.args.maps.now c.args.code.now) _) (whole_at _ _ _ c.slots-test.false c.slots.invariant.at) c.slots.invariant.noted;
  reader = mark_whole _ _ _ _ (whole_at _ _ _ c.slots-test.false c.slots.invariant.at) c.slots.invariant.mark;
  kept = subst (λ count. g.K.Keeper.keeps c.slots.keeper (known_along c.args.version c.args.maps.now c.args.code.now count))
      (let last = c.slots-test.false in omega arith) c.slots.invariant.kept;
}
