use Rattle.std.proofs.Common.{◌≡◌, ◌++◌, ◌∷◌, take}
use Rattle.std.specs.List.{flat_map}
use Rattle.isa.specs.declared.operation.Register.TheVariants.{R0, R4}
use Rattle.ebpf_decode.specs.declared.insn.Insn.TheVariants.{Lddw}
use Rattle.steer.specs.ShippedProgram.{hash_byte, key_offsets}
use Rattle.steer.proofs.blocks.put_hash.Given as goal

-- the bytes so far went into the hash
abbrev pub invariant-bytes : goal.invariant-bytes
invariant-bytes l =
    l.code.items ≡ l.fn.code.items ++ (Lddw R0 0xcbf29ce484222325 ∷ Lddw R4 0x00000100000001b3 ∷ flat_map hash_byte (take l.offset-index key_offsets))
