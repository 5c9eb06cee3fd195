use Rattle.std.proofs.Common.{◌≡◌, ◌∙◌, ◌↔◌, List, IsTrue, ap, subst, length}
use Rattle.ebpf_decode.specs.declared.insn.Insn.{Insn}
use Rattle.ebpf_decode.specs.declared.map.MapDef.{MapDef}
use Rattle.ebpf_decode.specs.InstructionEncoding.{total_slots}
use Rattle.verifier.specs.Readers.{IsReader}
use Rattle.std.proofs.lemmas.Result.{err_from_is_err_and}
use Rattle.xlb_commands.specs.Results.{accepted_text, yes_or_no}
use Rattle.xlb_commands.specs.Refused.{not_judged, not_accepted, no_line}
use Rattle.xlb_commands.proofs.commands.check.Goals as goal

pub returns-in-Ok-clause-done : goal.returns-in-Ok-clause-done
returns-in-Ok-clause-done g c =
    let image = c.in_ok-image.image in
    let verified = c.in-Ok.verified in
    let shown = c.image.result.now in
    let reader = c.is_reader.result in
    let maps : shown.maps ≡ image.maps = c.image.ensures.same.0 ∙ c.in-Ok.ensures.accepted.0 in
    let code : shown.code ≡ image.code = c.image.ensures.same.1 ∙ c.in-Ok.ensures.accepted.1 in
    record {
      image = image;
      file = c.in_ok-image.ensures.file;
      states = verified.states;
      accepted = c.in-Ok.ensures.accepted.2;
      safe = c.in-Ok.ensures.safe;
      reader = reader;
      reads = subst (λ (insns : List Insn). IsTrue reader ↔ IsReader insns verified.states) c.in-Ok.ensures.accepted.1
          (c.is_reader.ensures.sound, c.is_reader.ensures.exact);
      line =
          c.in_ok-accepted-in-Ok.ensures
          ∙ (ap (λ (insns : List Insn). accepted_text (total_slots insns) (length shown.maps) (yes_or_no reader)) code
          ∙ ap (λ (defs : List MapDef). accepted_text (total_slots image.code) (length defs) (yes_or_no reader)) maps);
    }

pub returns-in_err-image-clause-refused : goal.returns-in_err-image-clause-refused
returns-in_err-image-clause-refused g c =
    let p = err_from_is_err_and c.from_residual.result c.from_residual.ensures.1 in
    rw (p.1, p.2) (not_judged c.in_err-image.ensures.refused)

pub returns-in_err-accepted-in-Ok-clause-refused : goal.returns-in_err-accepted-in-Ok-clause-refused
returns-in_err-accepted-in-Ok-clause-refused g c =
    let p = err_from_is_err_and c.from_residual-in_err-accepted-in-Ok.result c.from_residual-in_err-accepted-in-Ok.ensures.1 in
    rw p.1 (no_line c.in_ok-image.image c.in_ok-image.ensures.file c.in-Ok.ensures.safe p.2)

pub returns-clause-refused : goal.returns-clause-refused
returns-clause-refused g c =
    not_accepted c.in_ok-image.image c.in-Err.reject c.in_ok-image.ensures.file c.in-Err.ensures.rejected c.rejected.ensures
