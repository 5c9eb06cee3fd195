-- The file of what a replay sends of a program that only reads.
use Rattle.std.proofs.Common.{◌≡◌, ◌∙◌, ◌++◌, ◌∷◌, ℕ, List, [], ap, refl, subst}
use Rattle.std.specs.List.{AllByRecursion}
use Rattle.ebpf_decode.specs.declared.insn.Insn.{Insn}
use Rattle.ebpf_decode.specs.declared.map.MapDef.{MapDef}
use Rattle.semantics.specs.declared.options.Options.{Options}
use Rattle.semantics.specs.Program.{Program}
use Rattle.semantics.specs.ShardPlan.{AreOptions}
use Rattle.control.specs.declared.command.Command.{Command}
use Rattle.wire.specs.declared.records.Sent.{Sent}
use Rattle.wire.specs.CaptureFormat.{header_bytes, record_bytes, records_bytes, capture_bytes}
use Rattle.semantics.specs.Replay.{Captured}
use Rattle.actors.specs.Shares.{all_captured}
use Rattle.actors.specs.Accounted.{IsAccounted}
use Rattle.actors.specs.declared.outcome.Outcome.{Outcome}
use Rattle.guarantees.specs.ReaderReplays.{SendsAsAtOpening}
use Rattle.actors.specs.Captured.{IsCaptured}
use Rattle.xlb_commands.specs.Replays.{frame_records, reader_file}
use Rattle.xlb_commands.proofs.Outcomes.{options_fit}

pub records_are : (sents : List Sent) → records_bytes sents ≡ frame_records (all_captured sents)
records_are [] = refl
records_are (sent ∷ sents) = ap (λ (rest : List ℕ). record_bytes sent ++ rest) (records_are sents)

abbrev program_over : List MapDef → List Insn → ℕ → Program
program_over maps code shards = record { code = code; maps = maps; shards = shards }

-- a replay without commands, in which no run was stopped
pub reader_file_is : (maps : List MapDef) (code : List Insn) (script : List Command) (options : Options) (records : List Sent) (outcome : Outcome)
    → SendsAsAtOpening maps code → AreOptions outcome.journals.maps outcome.journals.options → AllByRecursion IsCaptured records
    → IsAccounted (program_over maps code options.shards) script options records outcome → outcome.updates.items ≡ [] → script ≡ []
    → outcome.counts.stopped ≡ 0
    → capture_bytes outcome.sent.items ≡ reader_file (program_over maps code options.shards) records
reader_file_is maps code script options records outcome alike fit captured accounted none_set none unstopped =
    let fits : AreOptions maps options =
    options_fit (program_over maps code options.shards) script options records outcome fit accounted in
    let without : IsAccounted (program_over maps code options.shards) [] options records outcome =
    subst (λ (commands : List Command). IsAccounted (program_over maps code options.shards) commands options records outcome) none accounted in
    ap (λ (rest : List ℕ). header_bytes ++ rest)
    (records_are outcome.sent.items
    ∙ ap (λ (frames : List Captured). frame_records frames) (alike options records outcome fits captured without none_set unstopped))
