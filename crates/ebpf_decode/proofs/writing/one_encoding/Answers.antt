use Rattle.std.proofs.Common.{ap}
use Rattle.ebpf_decode.specs.ImageFormat.{fault_of}
use Rattle.ebpf_decode.proofs.shared.ImageLaws as laws
use Rattle.ebpf_decode.proofs.writing.one_encoding.Goals as goal

pub returns-clause-one_encoding : goal.returns-clause-one_encoding
returns-clause-one_encoding c = λ a b image is_a is_b. laws.one_encoding a b image is_a is_b

pub returns-clause-one_image : goal.returns-clause-one_image
returns-clause-one_image c = λ bytes a b is_a is_b. laws.one_image bytes a b is_a is_b

pub returns-clause-one_instruction : goal.returns-clause-one_instruction
returns-clause-one_instruction c = λ bytes a b is_a is_b. laws.one_instruction bytes a b is_a is_b

pub returns-clause-no_fault : goal.returns-clause-no_fault
returns-clause-no_fault c = λ bytes image is. ap fault_of (laws.read_again bytes image is)
