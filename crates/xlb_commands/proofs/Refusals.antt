-- What a refusal by a later call says of the files as they were before the earlier ones.
use Rattle.std.proofs.Common.{◌≡◌, ℕ, List, Option, Some, None, arith, refl, subst}
use Rattle.journals.specs.JournalsView.{JournalsView}
use Rattle.journals.specs.JournalText.{journals_text}
use Rattle.capture_readings.specs.declared.readings.Reading.{Reading}
use Rattle.xlb_commands.specs.declared.fault.Fault.{Fault}
use Rattle.xlb_commands.specs.Files.{FileBytes, AreKept}
use Rattle.xlb_commands.specs.Replays.{HasBytes, AreWritten}
use Rattle.xlb_commands.specs.Refused.{HasFailed, IsUnserved, device_failed, lacks_memory, IsUnwritten, not_written, no_room, AreUnwritten, IsFrameRefusal, no_frame_bytes, too_long, too_short, no_frame_memory}
use Rattle.xlb_commands.specs.Refused.{IsScriptRefusal, no_script_bytes, no_script, IsCaptureRefusal, no_capture_bytes, no_capture}

-- one failure more, counted from before a call that did not fail
pub failed_since : (first second third : ℕ) → second ≡ first → HasFailed second third → HasFailed first third
failed_since first second third same failed = omega arith

pub unserved_since : (failed since : Type 0) (fault : Fault) → (failed → since) → IsUnserved failed fault → IsUnserved since fault
unserved_since failed since fault so (device_failed device is) = device_failed (so device) is
unserved_since failed since fault so (lacks_memory is) = lacks_memory is

pub unwritten_since : (failed since : Type 0) (fault : Fault) → (failed → since) → IsUnwritten failed fault → IsUnwritten since fault
unwritten_since failed since fault so (not_written unserved) = not_written (unserved_since failed since fault so unserved)
unwritten_since failed since fault so (no_room is) = no_room is

pub unfiled_since : (journals : Option (List ℕ)) (failed since : Type 0) (fault : Fault) → (failed → since) → AreUnwritten journals failed fault
    → AreUnwritten journals since fault
unfiled_since journals failed since fault so is =
    record { name = is.name; named = is.named; unserved = unserved_since failed since fault so is.unserved }

pub frame_refusal_before : (before after : FileBytes) (failed since : Type 0) (name : List ℕ) (fault : Fault) → AreKept before after → (failed → since)
    → IsFrameRefusal after failed name fault → IsFrameRefusal before since name fault
frame_refusal_before before after failed since name fault kept so (no_frame_bytes unserved) = no_frame_bytes (unserved_since failed since fault so unserved)
frame_refusal_before before after failed since name fault kept so (too_long bytes read size is) = too_long bytes ((kept name bytes).1 read) size is
frame_refusal_before before after failed since name fault kept so (too_short bytes read size is) = too_short bytes ((kept name bytes).1 read) size is
frame_refusal_before before after failed since name fault kept so (no_frame_memory bytes read least most is) =
    no_frame_memory bytes ((kept name bytes).1 read) least most is

-- kept by one reading after another
pub kept_twice : (a b c : FileBytes) → AreKept a b → AreKept b c → AreKept a c
kept_twice a b c first second = λ name bytes. (
  (λ had. (second name bytes).0 ((first name bytes).0 had)),
  (λ has. (first name bytes).1 ((second name bytes).1 has)),
)

-- and by looking back
pub kept_back : (a b : FileBytes) → AreKept a b → AreKept b a
kept_back a b kept = λ name bytes. ((kept name bytes).1, (kept name bytes).0)

-- and by doing nothing
pub kept_still : (a : FileBytes) → AreKept a a
kept_still a = λ name bytes. ((λ has. has), (λ has. has))

pub script_refusal_before : (before after : FileBytes) (failed since : Type 0) (name : Option (List ℕ)) (fault : Fault) → AreKept before after → (failed → since)
    → IsScriptRefusal after failed name fault → IsScriptRefusal before since name fault
script_refusal_before before after failed since None fault kept so is = is
script_refusal_before before after failed since (Some name) fault kept so (no_script_bytes unserved) =
    no_script_bytes (unserved_since failed since fault so unserved)
script_refusal_before before after failed since (Some name) fault kept so (no_script bytes why read explains is) =
    no_script bytes why ((kept name bytes).1 read) explains is

pub capture_refusal_before : (before after : FileBytes) (failed since : Type 0) (reading : Reading) (name : List ℕ) (fault : Fault) → AreKept before after → (failed → since)
    → IsCaptureRefusal after failed reading name fault → IsCaptureRefusal before since reading name fault
capture_refusal_before before after failed since reading name fault kept so (no_capture_bytes unserved) =
    no_capture_bytes (unserved_since failed since fault so unserved)
capture_refusal_before before after failed since reading name fault kept so (no_capture bytes read is) = no_capture bytes ((kept name bytes).1 read) is

-- where a file is named for the journals, it has their text
pub written_down : (files : FileBytes) (name : Option (List ℕ)) (bytes : List ℕ) (journals : JournalsView)
    → ((file : List ℕ) → name ≡ Some file → bytes ≡ journals_text journals) → HasBytes files name bytes → AreWritten files name journals
written_down files None bytes journals same has = has
written_down files (Some file) bytes journals same has = subst (λ (it : List ℕ). files file it) (same file refl) has
