-- A program that is accepted, only reads, and is safe, by computation: so none of these definitions is empty.
use Rattle.std.specs.Prelude.{List, Option}
use Rattle.ebpf_decode.specs.ImageContents.{IsEncodable}
use Rattle.ebpf_decode.specs.declared.version.Version.TheVariants.{V1}
use Rattle.semantics.specs.Safety.{IsSafeImage}
use Rattle.abstract_state.specs.declared.state.State.{State}
use Rattle.verifier.specs.Dataflow.{Accepts}
use Rattle.verifier.specs.Readers.{IsReader}
use Rattle.guarantees.specs.RunRows.{row_setting}

-- the program of the run in RunRows: the image format encodes it, these entry states let it through, and it only reads
pub record SafeRow : Type 0 where
  pub encodable : IsEncodable V1 row_setting.maps row_setting.code
  pub states : List (Option State)
  pub accepted : Accepts V1 row_setting.maps row_setting.code states
  pub reads : IsReader row_setting.code states
  pub safe : IsSafeImage row_setting.maps row_setting.code
