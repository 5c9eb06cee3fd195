-- Which journals an audit accepts: those that a replay writes among them.
use Rattle.std.specs.Prelude.{◌≡◌, ◌≢◌, ℕ, List}
use Rattle.ebpf_decode.specs.ImageContents.{Contents}
use Rattle.ebpf_decode.specs.declared.map.MapDef.{MapDef}
use Rattle.journals.specs.JournalText.{journals_text}
use Rattle.journals.specs.JournalsView.{JournalsView}
use Rattle.journals.specs.declared.fault.FileFault.TheVariants.{BadJournalFile}
use Rattle.audit.specs.declared.fault.AuditFault.TheVariants.{Illegal}
use Rattle.xlb_commands.specs.declared.fault.Fault.{Fault}
use Rattle.xlb_commands.specs.declared.fault.Fault.TheVariants as faults
use Rattle.xlb_commands.specs.Files.{FileBytes, IsImageFile}
use Rattle.xlb_commands.specs.Replays.{AreAccepted}
use Rattle.xlb_commands.specs.Refused.{HasFailed, IsAuditRefusal}

-- the file has no other bytes
abbrev pub HasOnly : FileBytes → List ℕ → List ℕ → Type 0
HasOnly files name bytes = (other : List ℕ) → files name other → other ≡ bytes

-- where the file is an image, it is one of these maps
abbrev pub HasMaps : FileBytes → List ℕ → List MapDef → Type 0
HasMaps files name maps = (image : Contents) → IsImageFile files name image → image.maps ≡ maps

-- the fault blames no line of a file of journals (55), and no entry of them (53)
pub record BlamesNoEntry (fault : Fault) : Type 0 where
  pub no_line : (line : ℕ) → fault ≢ faults.Journals (BadJournalFile line)
  pub no_entry : (shard place : ℕ) → fault ≢ faults.Audit (Illegal shard place)

-- An audit of journals that are accepted, under whatever name they are, and of an image of their maps: if it is refused, this is not for a
-- line or an entry of the journals.
abbrev pub AuditsAccept : FileBytes → Type 0
AuditsAccept files =
    (maps : List MapDef) (view : JournalsView) → AreAccepted maps view → (image journals : List ℕ) → HasMaps files image maps →
    HasOnly files journals (journals_text view) → (first last : ℕ) (fault : Fault) →
    IsAuditRefusal files (HasFailed first last) image journals fault → BlamesNoEntry fault
