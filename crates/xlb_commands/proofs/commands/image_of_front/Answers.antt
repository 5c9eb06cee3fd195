use Rattle.std.proofs.Common.{◌∙◌, ℕ, List, IsTrue, ap, sym, subst, rules}
use Rattle.ebpf_decode.specs.ImageFormat.{IsImageEncoding, first_decode_fault, may_ask_memory}
use Rattle.xlb_commands.proofs.commands.image_of_front.Goals as goal

pub returns-in-Ok-clause-found : goal.returns-in-Ok-clause-found
returns-in-Ok-clause-found c = λ bytes front.
    let is : IsTrue c.is_whole.result = search rules in
    let whole = c.is_whole.ensures.all is bytes _ front in
    subst (λ (text : List ℕ). IsImageEncoding text c.in-Ok.image) (c.deref-2.ensures.value ∙ sym whole) c.in-Ok.ensures.found

pub fault_of_long-fault-requires : goal.fault_of_long-fault-requires
fault_of_long-fault-requires c = c.requires (sym c.is_whole.ensures.counted ∙ c.if-not-is_whole.true)

pub returns-then-not-is_whole-clause-refused : goal.returns-then-not-is_whole-clause-refused
returns-then-not-is_whole-clause-refused c = λ bytes front. record {
  why = c.fault_of_long-fault.result;
  refusal = c.fault_of_long-fault.ensures bytes front;
  is = c.refused_image.ensures;
}

pub returns-in-Err-clause-refused : goal.returns-in-Err-clause-refused
returns-in-Err-clause-refused c = λ bytes front.
    let is : IsTrue c.is_whole.result = search rules in
    let whole = c.is_whole.ensures.all is bytes _ front in
    let same = c.deref-2.ensures.value ∙ sym whole in
    record {
      why = c.in-Err.fault;
      refusal = record {
        first = λ other. ap first_decode_fault (sym same) ∙ c.in-Err.ensures.fault other;
        asked = λ memory. subst (λ (text : List ℕ). IsTrue (may_ask_memory text)) same (c.in-Err.ensures.asked memory);
      };
      is = c.refused_image-in-Err.ensures;
    }
