-- Which worker handles a flow.
use Rattle.std.specs.Prelude.{ℕ, ◌%◌, Option, Some, None}
use Rattle.wire.specs.declared.flow.FlowKey.{FlowKey}
use Rattle.wire.specs.FlowBytes.{flow_key_bytes}
use Rattle.wire.specs.Fnv.{fnv1a64_of}

-- the hash of the flow's key modulo the number of workers; a frame without a flow goes to worker 0
abbrev pub worker_of_flow : Option FlowKey → ℕ → ℕ
worker_of_flow None workers = 0
worker_of_flow (Some key) workers = fnv1a64_of (flow_key_bytes key) % workers
