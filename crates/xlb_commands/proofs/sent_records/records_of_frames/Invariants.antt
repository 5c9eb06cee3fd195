use Rattle.std.proofs.Common.{◌≡◌, take}
use Rattle.wire.specs.CaptureFormat.{records_bytes}
use Rattle.xlb_commands.proofs.sent_records.records_of_frames.Given as goal

abbrev pub invariant-frames : goal.invariant-frames
invariant-frames l = l.bytes.items ≡ records_bytes (take l.sent-index l.frames)
