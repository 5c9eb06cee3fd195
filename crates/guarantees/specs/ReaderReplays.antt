-- What a replay of a program that only reads sends: the program's run trace frame by frame, over maps in which nothing has happened.
use Rattle.std.specs.Prelude.{◌≡◌, ℕ, zero, suc, List, [], ◌∷◌, ◌++◌, length, Option, Some, None, slice_get}
use Rattle.std.specs.Prelude.{if◌then◌else◌}
use Rattle.std.specs.List.{AllByRecursion}
use Rattle.ebpf_decode.specs.declared.insn.Insn.{Insn}
use Rattle.ebpf_decode.specs.declared.map.MapDef.{MapDef}
use Rattle.ebpf_decode.specs.InstructionEncoding.{total_slots}
use Rattle.wire.specs.declared.records.Sent.{Sent}
use Rattle.semantics.specs.declared.call.Call.{Call}
use Rattle.semantics.specs.declared.call.Reply.{Reply}
use Rattle.semantics.specs.declared.call.Reply.TheVariants.{Null}
use Rattle.semantics.specs.declared.options.Options.{Options}
use Rattle.semantics.specs.declared.plan.ShardPlan.{ShardPlan}
use Rattle.semantics.specs.declared.verdict.Verdict.{Verdict}
use Rattle.semantics.specs.declared.verdict.Verdict.TheVariants.{Tx}
use Rattle.semantics.specs.Program.{Program}
use Rattle.semantics.specs.History.{shard_of_call}
use Rattle.semantics.specs.RunTrace.{RunStand, HasExited}
use Rattle.semantics.specs.ShardPlan.{plan_at, AreOptions}
use Rattle.semantics.specs.Replay.{Captured}
use Rattle.actors.specs.Shares.{is_short, all_captured}
use Rattle.actors.specs.declared.outcome.Outcome.{Outcome}
use Rattle.actors.specs.Accounted.{IsAccounted}
use Rattle.actors.specs.RunsOverShards.{start_of}
use Rattle.actors.specs.Captured.{IsCaptured}
use Rattle.guarantees.specs.ReaderRuns.{opening_reply, stand_with}

-- ---- the maps as they were opened

-- options with N shards for each map: what a shard answers as it was opened does not depend on the others
abbrev pub options_of : ℕ → Options
options_of shards = record { workers = 1; shards = shards; journal = 16 }

abbrev pub opening_answer_in : Option ShardPlan → Call → Reply
opening_answer_in (Some plan) call = opening_reply plan call
opening_answer_in None call = Null

-- what the program's maps answer as they were opened
abbrev pub opening_answer : Program → Call → Reply
opening_answer program call = opening_answer_in (plan_at program.maps (options_of program.shards) (shard_of_call call)) call

-- ---- what is sent

-- the frame of a run that ends with this verdict, at its record's moment
abbrev pub sent_by_verdict : Sent → Verdict → List ℕ → List Captured
sent_by_verdict captured Tx bytes = record { seconds = captured.seconds; micros = captured.micros; bytes = bytes } ∷ []
sent_by_verdict captured verdict bytes = []

abbrev pub sent_where : Sent → RunStand → List Captured
sent_where captured (HasExited verdict last) = sent_by_verdict captured verdict last.frame.bytes
sent_where captured stand = []

-- what is sent of a record, by the program's run on its frame over maps in which nothing has happened
abbrev pub sent_at_opening : Program → Sent → List Captured
sent_at_opening program captured =
    if is_short captured.bytes.items then []
    else sent_where captured (stand_with (total_slots program.code) program (opening_answer program) (start_of captured 0))

abbrev pub sent_if_there : Program → Option Sent → List Captured
sent_if_there program (Some captured) = sent_at_opening program captured
sent_if_there program None = []

-- what is sent of the first N records, in the capture's order
abbrev pub all_sent_at_opening : Program → List Sent → ℕ → List Captured
all_sent_at_opening program records zero = []
all_sent_at_opening program records (suc number) =
    all_sent_at_opening program records number ++ sent_if_there program (slice_get records number)

-- ---- the law

-- A replay without commands, and without updates before its first record, in which no run was stopped sends what the runs over maps in
-- which nothing has happened send: for every number of workers the same.
abbrev pub SendsAsAtOpening : List MapDef → List Insn → Type 0
SendsAsAtOpening maps code =
    (options : Options) (records : List Sent) (outcome : Outcome) → AreOptions maps options → AllByRecursion IsCaptured records →
    (let program : Program = record { code = code; maps = maps; shards = options.shards } in
    IsAccounted program [] options records outcome → outcome.updates.items ≡ [] → outcome.counts.stopped ≡ 0 →
    all_captured outcome.sent.items ≡ all_sent_at_opening program records (length records))
