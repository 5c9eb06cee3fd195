-- The script that a timed script means for a capture.
use Rattle.std.specs.Prelude.{ℕ, List}
use Rattle.capture_readings.specs.declared.readings.Reading.{Reading}
use Rattle.wire.specs.declared.records.Sent.{Sent}
use Rattle.timed_scripts.specs.MeantScript.{IsMeantScript}
use Rattle.xlb_commands.specs.Files.{FileBytes}
use Rattle.xlb_commands.specs.Replays.{IsCaptureOf}

-- what is printed is the script that the one file means for the records of the other, which is a capture that is read in this way
pub record IsScriptShown (files : FileBytes) (reading : Reading) (capture timed : List ℕ) (printed : List ℕ) : Type 0 where
  pub records : List Sent
  pub captured : IsCaptureOf files reading capture records
  pub bytes : List ℕ
  pub read : files timed bytes
  pub late : List ℕ
  pub meant : IsMeantScript records bytes printed late
