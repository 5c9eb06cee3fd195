use Rattle.std.proofs.Common.{◌≡◌, ◌+◌, ◌⊎◌, inl, inr, ap, subst, Err, ℕ, List, arith}
use Rattle.wire.specs.declared.capture_fault.CaptureFault.{CaptureFault}
use Rattle.wire.specs.declared.capture_fault.CaptureFault.TheVariants.{Device}
use Rattle.wire.specs.CaptureFormat.{RefusesCapture}
use Rattle.xlb_commands.specs.Refused.{no_records}
use Rattle.xlb_commands.proofs.replays.records_of.Goals as goal

-- bytes in memory are never refused by a device
not_by_device : (bytes : List ℕ) (why : CaptureFault) → (why ≡ Device → ⊥) → why ≡ Device ⊎ RefusesCapture bytes why → RefusesCapture bytes why
not_by_device bytes why never (inl device) = absurd (never device)
not_by_device bytes why never (inr refused) = refused

-- nothing is one more than it was
not_more : 0 ≡ 0 + 1 → ⊥
not_more e = omega (arith, e)

pub returns-in-Err-clause-refused : goal.returns-in-Err-clause-refused
returns-in-Err-clause-refused c =
    let never : c.in-Err.fault ≡ Device → ⊥ = λ device. not_more (c.in-Err.ensures.device.0 (ap (λ why. Err why) device)) in
    no_records c.in-Err.fault
    (subst (λ (bytes : List ℕ). RefusesCapture bytes c.in-Err.fault) c.new.ensures (not_by_device c.new.result c.in-Err.fault never c.in-Err.ensures.fault))
    c.hinted.ensures
