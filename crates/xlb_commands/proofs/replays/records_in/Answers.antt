use Rattle.std.proofs.Common.{◌≡◌, ◌∙◌, ℕ, Bool, false, List, refl, subst, sym}
use Rattle.capture_readings.specs.Readings.{AreCaptureBytes, AreLeft, alters}
use Rattle.capture_readings.specs.declared.readings.Reading.{Reading}
use Rattle.xlb_commands.specs.Refused.{left_refused}
use Rattle.xlb_commands.proofs.replays.records_in.Goals as goal

-- where nothing is altered, the bytes are read as they are
as_they_are : (reading : Reading) (bytes : List ℕ) → alters reading ≡ false → AreCaptureBytes reading bytes bytes
as_they_are reading bytes none = subst (λ (b : Bool). AreLeft b reading bytes bytes) (sym none) refl

pub returns-in-Ok-clause-records : goal.returns-in-Ok-clause-records
returns-in-Ok-clause-records c = record {
  left = c.args.bytes.now;
  left_are = as_they_are c.args.reading c.args.bytes.now (sym c.alters-is_altered.ensures.alters ∙ c.if-is_altered.false);
  spelled = c.in-Ok.ensures.records;
}

pub returns-in-Err-clause-refused : goal.returns-in-Err-clause-refused
returns-in-Err-clause-refused c =
    left_refused c.args.bytes.now
    (as_they_are c.args.reading c.args.bytes.now (sym c.alters-is_altered.ensures.alters ∙ c.if-is_altered.false)) c.in-Err.ensures.refused
