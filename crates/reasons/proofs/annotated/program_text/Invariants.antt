use Rattle.std.proofs.Common.{◌≡◌, take, string_bytes}
use Rattle.verifier.specs.Dataflow.{states_of}
use Rattle.verifier.specs.Surveys.{slot_of_index}
use Rattle.reasons.specs.Annotations.{indexed_text, indexed_entry}
use Rattle.reasons.proofs.annotated.program_text.Given as goal

abbrev pub invariant-loop-index : goal.invariant-loop-index
invariant-loop-index l = record {
  at : l.slot ≡ slot_of_index l.code l.index;
  out : string_bytes l.out ≡ indexed_text (indexed_entry (states_of l.image.version l.image.maps l.image.code) l.code) 0 (take l.index l.code);
}
