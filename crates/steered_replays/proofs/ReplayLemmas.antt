-- A replay of an accepted image that is the shipped one is a replay of the shipped program.
use Rattle.std.proofs.Common.{◌≡◌, ℕ, List, ◌∙◌, ap, subst}
use Rattle.ebpf_decode.specs.declared.insn.Insn.{Insn}
use Rattle.ebpf_decode.specs.declared.map.MapDef.{MapDef}
use Rattle.ebpf_decode.specs.ImageContents.{Contents}
use Rattle.wire.specs.declared.records.Sent.{Sent}
use Rattle.semantics.specs.declared.options.Options.{Options}
use Rattle.semantics.specs.Program.{Program}
use Rattle.verifier.specs.Verified.{Verified}
use Rattle.machine.specs.Running.{program_of}
use Rattle.steer.specs.ShippedProgram.{sized_image}
use Rattle.steer.specs.SteeringLaws.{of_size, shipped_program}
use Rattle.control.specs.declared.command.Command.{Command}
use Rattle.actors.specs.declared.outcome.Outcome.{Outcome}
use Rattle.actors.specs.Accounted.{IsAccounted}

-- the image is the shipped one for a flow table of so many notes and a lookup table of this size
pub record IsShipped (verified : Verified) (notes size : ℕ) : Type 0 where
  pub maps : verified.maps ≡ (sized_image notes size).maps
  pub code : verified.code ≡ (sized_image notes size).code

pub shipped_of : (verified : Verified) (notes size : ℕ) →
    record { version = verified.version; maps = verified.maps; code = verified.code } ≡ sized_image notes size → IsShipped verified notes size
shipped_of verified notes size is = record { maps = ap (λ (image : Contents). image.maps) is; code = ap (λ (image : Contents). image.code) is }

pub program_is : (verified : Verified) (notes size shards : ℕ) → IsShipped verified notes size → program_of verified shards ≡ shipped_program notes (of_size shards size)
program_is verified notes size shards shipped =
    ap (λ (code : List Insn). (λ (program : Program). program) (record { code = code; maps = verified.maps; shards = shards })) shipped.code
    ∙ ap (λ (maps : List MapDef). (λ (program : Program). program) (record { code = (sized_image notes size).code; maps = maps; shards = shards })) shipped.maps

pub of_shipped : (verified : Verified) (notes size : ℕ) (script : List Command) (options : Options) (records : List Sent) (outcome : Outcome) → IsShipped verified notes size →
    IsAccounted (program_of verified options.shards) script options records outcome →
    IsAccounted (shipped_program notes (of_size options.shards size)) script options records outcome
of_shipped verified notes size script options records outcome shipped accounted =
    subst (λ (program : Program). IsAccounted program script options records outcome) (program_is verified notes size options.shards shipped) accounted
