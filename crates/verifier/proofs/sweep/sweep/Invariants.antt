use Rattle.std.proofs.Common.{◌≡◌, length, take}
use Rattle.ebpf_decode.specs.InstructionEncoding.{total_slots}
use Rattle.verifier.specs.Dataflow.{states_of}
use Rattle.verifier.specs.Resolving.{AreMemories}
use Rattle.verifier.specs.Surveys.{known_along}
use Rattle.verifier.proofs.SweepLemmas.{IsHeld}
use Rattle.verifier.proofs.ReaderLemmas.{IsMark}
use Rattle.verifier.proofs.sweep.sweep.Given as goal

abbrev pub invariant-slots : goal.invariant-slots
invariant-slots g l = record {
  at : l.slot ≡ total_slots (take l.insn-index l.code);
  room : length l.memories ≡ 4096;
  held : IsHeld l.fn.version l.maps l.code l.slot l.entry l.pending;
  noted : AreMemories l.code (states_of l.fn.version l.maps l.code) l.memories l.slot;
  mark : IsMark l.code (states_of l.fn.version l.maps l.code) l.slot l.reads;
  kept : g.K.Keeper.keeps l.keeper (known_along l.fn.version l.maps l.code l.insn-index);
}
