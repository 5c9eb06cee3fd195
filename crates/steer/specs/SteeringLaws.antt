-- What the shipped program does: for every input frame, worker, time, number of notes and number of shards, and for all replies that have
-- their calls' form, a run of it has the outcome of the steering rule's plan (conntrack's Steering), and a run that is over is a result of
-- the rule (conntrack's Results).
use Rattle.std.specs.Prelude.{◌≡◌, ℕ, List}
use Rattle.ebpf_decode.specs.InstructionEncoding.{total_slots}
use Rattle.semantics.specs.declared.call.Reply.{Reply}
use Rattle.semantics.specs.declared.verdict.Verdict.{Verdict}
use Rattle.semantics.specs.MachineState.{MachineState, initial_state}
use Rattle.semantics.specs.Program.{Program}
use Rattle.semantics.specs.RunTrace.{RunTrace, HasExited, trace_of, AreReplies, whole_trace}
use Rattle.semantics.specs.System.{IsInputFrame, input_frame}
use Rattle.maglev.specs.RingSize.{IsRingSize}
use Rattle.map_port.specs.Exchanges.{Exchange, calls_in, replies_in}
use Rattle.conntrack.specs.Results.{IsResult}
use Rattle.block_runs.specs.Plan.{outcome_of, plan_outcome}
use Rattle.conntrack.specs.Steering.{SteeringSizes, steering}
use Rattle.steer.specs.ShippedProgram.{sized_image}

abbrev pub of_size : ℕ → ℕ → SteeringSizes
of_size shards size = record { shards = shards; size = size }

-- the shipped program over a flow table of so many notes, and N shards to a map
abbrev pub shipped_program : ℕ → SteeringSizes → Program
shipped_program notes setting = record {
  code = (sized_image notes setting.size).code;
  maps = (sized_image notes setting.size).maps;
  shards = setting.shards;
}

-- on every frame that comes in, on any worker at any time, whatever the number of notes, and on all replies that have their calls' form,
-- the outcome of the shipped program is that of the steering rule, within as many instructions as the program has slots
abbrev pub ShippedSteers : Type 0
ShippedSteers =
    (notes size shards : ℕ) → IsRingSize size → (frame : List ℕ) → IsInputFrame frame → (worker now : ℕ) (replies : List Reply) →
    AreReplies (shipped_program notes (of_size shards size))
    (whole_trace (shipped_program notes (of_size shards size)) (initial_state (input_frame frame) worker now) replies).calls replies →
    outcome_of (whole_trace (shipped_program notes (of_size shards size)) (initial_state (input_frame frame) worker now) replies)
    ≡ plan_outcome (steering (of_size shards size) (input_frame frame)) replies

-- so a run that has exited, after these calls and replies, is a result of the rule
abbrev pub ExitedRunsAreResults : Type 0
ExitedRunsAreResults =
    (notes size shards : ℕ) → IsRingSize size → (frame : List ℕ) → IsInputFrame frame → (worker now : ℕ) (exchanges : List Exchange)
    (verdict : Verdict) (last : MachineState) →
    AreReplies (shipped_program notes (of_size shards size)) (calls_in exchanges) (replies_in exchanges) →
    whole_trace (shipped_program notes (of_size shards size)) (initial_state (input_frame frame) worker now) (replies_in exchanges)
    ≡ record { calls = calls_in exchanges; stand = HasExited verdict last } →
    IsResult (of_size shards size) (input_frame frame) exchanges verdict last.frame
