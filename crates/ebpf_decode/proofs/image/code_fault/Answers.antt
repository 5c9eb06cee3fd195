use Rattle.std.proofs.Common.{sym}
use Rattle.ebpf_decode.proofs.PartLaws.{too_long}
use Rattle.ebpf_decode.proofs.image.code_fault.Goals as goal

pub returns-then-code-gt-MAX_SLOTS-clause-fault : goal.returns-then-code-gt-MAX_SLOTS-clause-fault
returns-then-code-gt-MAX_SLOTS-clause-fault c = sym (too_long c.args.code.now c.if-code-gt-MAX_SLOTS.true)
