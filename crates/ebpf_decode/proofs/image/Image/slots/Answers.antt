-- A program of 1 to 4096 slots has no more instructions than slots.
use Rattle.std.proofs.Common.{arith}
use Rattle.ebpf_decode.proofs.PartLaws.{length_at_most}
use Rattle.ebpf_decode.proofs.image.Image.slots.Goals as goal

pub total_slots-requires : goal.total_slots-requires
total_slots-requires c = rw c.code.ensures.code (omega (arith, length_at_most c.args.self.now.code, c.code.ensures.encodable.few_slots))

pub returns-clause-some : goal.returns-clause-some
returns-clause-some c = rw (c.total_slots.ensures, c.code.ensures.code) (omega (arith, length_at_most c.args.self.now.code, c.code.ensures.encodable.some_code))
