use Rattle.std.proofs.Common.{◌≡◌, ℕ, Bool, true, List, subst, sym}
use Rattle.capture_readings.specs.Readings.{AreAltered, AreCaptureBytes, AreLeft, IsAltered, alters}
use Rattle.capture_readings.specs.declared.readings.AlteredCapture.{AlteredCapture}
use Rattle.capture_readings.specs.declared.readings.Reading.{Reading}
use Rattle.xlb_commands.specs.Refused.{IsNoCapture, left_refused}
use Rattle.xlb_commands.proofs.replays.altered_records_of.Goals as goal

-- what is left of the bytes, as it was read
left_as_read : (reading : Reading) (bytes read : List ℕ) (altered : AlteredCapture) → alters reading ≡ true → IsAltered reading bytes altered
    → read ≡ altered.bytes.items → AreCaptureBytes reading bytes read
left_as_read reading bytes read altered some is same =
    subst (λ (b : Bool). AreLeft b reading bytes read) (sym some)
    (subst (λ (left : List ℕ). AreAltered reading bytes left) (sym same) is.are)

pub returns-in-Ok-clause-records : goal.returns-in-Ok-clause-records
returns-in-Ok-clause-records c = record {
  left = c.deref.result.now;
  left_are = left_as_read c.args.reading c.args.bytes.now c.deref.result.now c.in_ok-read.read c.requires c.in_ok-read.ensures.altered
      c.deref.ensures.value;
  spelled = c.in-Ok.ensures.records;
}

pub returns-clause-refused : goal.returns-clause-refused
returns-clause-refused c =
    left_refused c.deref.result.now
    (left_as_read c.args.reading c.args.bytes.now c.deref.result.now c.in_ok-read.read c.requires c.in_ok-read.ensures.altered
    c.deref.ensures.value)
    (subst (λ fault. IsNoCapture c.deref.result.now fault) (sym c.in_whole_file.ensures) c.in-Err.ensures.refused)
