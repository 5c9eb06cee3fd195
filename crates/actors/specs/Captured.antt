-- What each record of a capture is.
use Rattle.std.specs.Prelude.{◌≤◌, ◌<◌, ◌^◌, All, length}
use Rattle.wire.specs.declared.records.Sent.{Sent}
use Rattle.actors.specs.RunsOverShards.{time_of}

-- bytes, no more than a captured frame may have, and a moment whose nanoseconds fit 64 bits
pub record IsCaptured (captured : Sent) : Type 0 where
  pub short : length captured.bytes.items ≤ 2048
  pub bytes : All (λ byte. byte < 256) captured.bytes.items
  pub time : time_of captured < 2 ^ 64
