use Rattle.ebpf_decode.proofs.SlotFacts.{slot_small, more_small}
use Rattle.ebpf_decode.proofs.writing.put_instruction.Goals as goal

pub put_slot-requires-clause-dst : goal.put_slot-requires-clause-dst
put_slot-requires-clause-dst c = rw c.slot_of.ensures (slot_small c.args.insn).0

pub put_slot-requires-clause-src : goal.put_slot-requires-clause-src
put_slot-requires-clause-src c = rw c.slot_of.ensures (slot_small c.args.insn).1

pub put_slot-requires-in-Some-clause-dst : goal.put_slot-requires-in-Some-clause-dst
put_slot-requires-in-Some-clause-dst c = (more_small c.args.insn c.in-Some.second c.in-Some.ensures).0

pub put_slot-requires-in-Some-clause-src : goal.put_slot-requires-in-Some-clause-src
put_slot-requires-in-Some-clause-src c = (more_small c.args.insn c.in-Some.second c.in-Some.ensures).1
