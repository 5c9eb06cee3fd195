-- An audit of the journals that a replay wrote blames none of their lines and none of their entries.
use Rattle.std.proofs.Common.{◌≡◌, ◌∙◌, ◌<◌, ℕ, List, Some, refl, subst, sym}
use Rattle.semantics.specs.Program.{Program}
use Rattle.semantics.specs.declared.options.Options.{Options}
use Rattle.semantics.specs.declared.plan.ShardPlan.{ShardPlan}
use Rattle.semantics.specs.ShardPlan.{plan_at}
use Rattle.semantics.specs.History.{IsLegalJournal}
use Rattle.ebpf_decode.specs.declared.map.MapDef.{MapDef}
use Rattle.ebpf_decode.specs.declared.fault.DecodeFault.{DecodeFault}
use Rattle.folders.specs.declared.folder.FolderFault.{FolderFault}
use Rattle.wire.specs.declared.records.Sent.{Sent}
use Rattle.control.specs.declared.command.Command.{Command}
use Rattle.journals.specs.JournalsView.{JournalsView, entries_at}
use Rattle.journals.specs.JournalReading.{IsJournalsFile, RefusesJournals}
use Rattle.journals.specs.JournalText.{journals_text}
use Rattle.journals.specs.FileJournals.{ReadBackWhereLegal}
use Rattle.journals.specs.LegalJournals.{AreLegal}
use Rattle.journals.specs.declared.fault.FileFault.{FileFault}
use Rattle.journals.specs.declared.fault.FileFault.TheVariants.{Device, Memory, BadJournalFile}
use Rattle.audit.specs.Audited.{ExplainsJournals}
use Rattle.audit.specs.declared.fault.AuditFault.{AuditFault}
use Rattle.audit.specs.declared.fault.AuditFault.TheVariants as audits
use Rattle.actors.specs.Accounted.{IsAccounted}
use Rattle.actors.specs.declared.outcome.Outcome.{Outcome}
use Rattle.xlb_commands.specs.declared.fault.Fault.{Fault}
use Rattle.xlb_commands.specs.declared.fault.Fault.TheVariants as faults
use Rattle.xlb_commands.specs.Files.{FileBytes}
use Rattle.xlb_commands.specs.Refused.{IsImageRefusal, IsUnserved, no_audited_image, no_journal_bytes, no_journals, not_legal}
use Rattle.xlb_commands.specs.Refused.{no_verdict}
use Rattle.xlb_commands.specs.Refused.{device_failed, lacks_memory, no_image_bytes, no_image}
use Rattle.xlb_commands.specs.AcceptedJournals.{AuditsAccept, BlamesNoEntry}
use Rattle.xlb_commands.specs.Replays.{AreAccepted}

same_plan : (one other : ShardPlan) → Some one ≡ Some other → one ≡ other
same_plan one other e = cc

-- the journals that are accounted for are legal, shard by shard
pub are_legal : (program : Program) (script : List Command) (options : Options) (records : List Sent) (outcome : Outcome)
    → IsAccounted program script options records outcome → AreLegal outcome.journals
are_legal program script options records outcome account = λ number within plan is.
    let counted : number < account.count = subst (λ (count : ℕ). number < count) account.count_is within in
    let of_maps : plan_at program.maps outcome.journals.options number ≡ Some plan =
    subst (λ (maps : List MapDef). plan_at maps outcome.journals.options number ≡ Some plan) account.maps is in
    let of_options : plan_at program.maps options number ≡ Some plan =
    subst (λ (its : Options). plan_at program.maps its number ≡ Some plan) account.options_are of_maps in
    let same : account.plan number ≡ plan = same_plan (account.plan number) plan (sym (account.plans.each number counted) ∙ of_options) in
    subst (λ (its : ShardPlan). IsLegalJournal its (entries_at outcome.journals number)) same (account.legal number counted)

of_folder : (why : FolderFault) (fault : Fault) → fault ≡ faults.Folder why → BlamesNoEntry fault
of_folder why fault is = record { no_line = λ line e. absurd cc; no_entry = λ shard place e. absurd cc }

of_unserved : (failed : Type 0) (fault : Fault) → IsUnserved failed fault → BlamesNoEntry fault
of_unserved failed fault (device_failed had is) = of_folder _ fault is
of_unserved failed fault (lacks_memory is) = of_folder _ fault is

of_decode : (why : DecodeFault) (fault : Fault) → fault ≡ faults.Decode why → BlamesNoEntry fault
of_decode why fault is = record { no_line = λ line e. absurd cc; no_entry = λ shard place e. absurd cc }

of_image : (files : FileBytes) (failed : Type 0) (name : List ℕ) (fault : Fault) → IsImageRefusal files failed name fault → BlamesNoEntry fault
of_image files failed name fault (no_image_bytes unserved) = of_unserved failed fault unserved
of_image files failed name fault (no_image bytes why read refusal is) = of_decode why fault is

of_memory : (fault : Fault) → fault ≡ faults.Memory → BlamesNoEntry fault
of_memory fault is = record { no_line = λ line e. absurd cc; no_entry = λ shard place e. absurd cc }

of_lacking : (fault : Fault) → fault ≡ faults.Journals Memory → BlamesNoEntry fault
of_lacking fault is = record { no_line = λ line e. absurd cc; no_entry = λ shard place e. absurd cc }

of_audit_memory : (fault : Fault) → fault ≡ faults.Audit audits.Memory → BlamesNoEntry fault
of_audit_memory fault is = record { no_line = λ line e. absurd cc; no_entry = λ shard place e. absurd cc }

-- bytes that are the file of journals are refused for no line
of_bytes : (maps : List MapDef) (bytes : List ℕ) (journals : JournalsView) (why : FileFault) (fault : Fault)
    → IsJournalsFile maps bytes journals → RefusesJournals maps bytes why → fault ≡ faults.Journals why → BlamesNoEntry fault
of_bytes maps bytes journals Device fault file refuses is = absurd refuses
of_bytes maps bytes journals Memory fault file refuses is = of_lacking fault is
of_bytes maps bytes journals (BadJournalFile line) fault file refuses is = absurd (refuses.1 journals file)

-- legal journals are not refused for an entry
of_entries : (view : JournalsView) (why : AuditFault) (fault : Fault) → AreLegal view → ExplainsJournals view why → fault ≡ faults.Audit why
    → BlamesNoEntry fault
of_entries view audits.Memory fault legal explains is = of_audit_memory fault is
of_entries view (audits.Illegal shard place) fault legal explains is = absurd (explains.1 legal)

-- the file of the journals, as bytes of a file of an image of the same maps
bytes_are : (maps others : List MapDef) (bytes : List ℕ) (journals : JournalsView) → maps ≡ others → bytes ≡ journals_text journals
    → IsJournalsFile maps (journals_text journals) journals → IsJournalsFile others bytes journals
bytes_are maps others bytes journals same text file =
    subst (λ (its : List MapDef). IsJournalsFile its bytes journals) same
    (subst (λ (its : List ℕ). IsJournalsFile maps its journals) (sym text) file)

-- where the text of the journals of an outcome is read back, an audit accepts them
pub accepted_of : (program : Program) (script : List Command) (options : Options) (records : List Sent) (outcome : Outcome)
    → IsAccounted program script options records outcome → ReadBackWhereLegal outcome.journals → AreAccepted program.maps outcome.journals
accepted_of program script options records outcome account back =
    let legal = are_legal program script options records outcome account in
    record { spelled = bytes_are outcome.journals.maps program.maps _ outcome.journals account.maps refl (back legal); legal = legal }

-- accepted journals are blamed for nothing
pub audits_accept : (files : FileBytes) → AuditsAccept files
audits_accept files maps view accepted image journals of_maps only first last fault (no_audited_image refused) = of_image files _ image fault refused
audits_accept files maps view accepted image journals of_maps only first last fault (no_journal_bytes contents is unserved) = of_unserved _ fault unserved
audits_accept files maps view accepted image journals of_maps only first last fault (no_journals contents bytes why is read refuses equal) =
    of_bytes contents.maps bytes view why fault (bytes_are maps contents.maps bytes view (sym (of_maps contents is)) (only bytes read) accepted.spelled)
    refuses equal
audits_accept files maps view accepted image journals of_maps only first last fault (not_legal other why of explains equal) =
    let same : other ≡ view =
    of.only view (bytes_are maps of.image.maps of.bytes view (sym (of_maps of.image of.file)) (only of.bytes of.read) accepted.spelled) in
    of_entries other why fault (subst AreLegal (sym same) accepted.legal) explains equal
audits_accept files maps view accepted image journals of_maps only first last fault (no_verdict other of its is) = of_memory fault is
