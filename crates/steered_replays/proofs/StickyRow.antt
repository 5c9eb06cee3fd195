-- The run of a flow that is noted, by computation.
use Rattle.std.proofs.Common.{◌≡◌, inr, false, [], refl, arith}
use Rattle.wire.specs.FlowForm.{HasFlow}
use Rattle.wire.specs.FrameView.{FrameView}
use Rattle.semantics.specs.declared.call.Caller.TheVariants.{Controller}
use Rattle.semantics.specs.declared.plan.ShardPlan.{ShardPlan}
use Rattle.semantics.specs.declared.verdict.Verdict.TheVariants.{Tx}
use Rattle.semantics.specs.History.{IsLegalHistory}
use Rattle.map_port.specs.Exchanges.{calls_in, replies_in}
use Rattle.block_runs.specs.Plan.{Ended, plan_outcome}
use Rattle.conntrack.specs.declared.choosing.Choice.TheVariants as C
use Rattle.conntrack.specs.declared.steering_maps.SteeringMap.TheVariants.{Flows, Backends}
use Rattle.conntrack.specs.Steering.{steering}
use Rattle.conntrack.specs.SteeringLaws.{FinishedRunsAreResults}
use Rattle.conntrack.specs.SteeringRule.{frame_after}
use Rattle.std.specs.Prelude.{Some}
use Rattle.steered_replays.specs.StickyFlows.{GetsPastGuards, IsBackendNoted, RunOfNoted}
use Rattle.steered_replays.specs.StickyRow.{StickyRow, sticky_sizes, row_frame, row_key, sticky_plan, row_backend, row_tunnel, row_guards, row_exchanges}
use Rattle.steered_replays.specs.StickyRow.{row_flow_lookup, row_flow_load, row_backend_lookup, row_backend_load, row_count, row_flows, row_since, row_flows_before}
use Rattle.steered_replays.specs.StickyRow.{row_backends, row_backends_before}

abbrev flows : ShardPlan
flows = sticky_plan Flows 16 4096

abbrev backends : ShardPlan
backends = sticky_plan Backends 4 256

pub row_has_flow : HasFlow row_frame.bytes
row_has_flow = record {
  plain = record {
    long = omega arith;
    ether_type_high = refl;
    ether_type_low = refl;
    version_and_header_length = refl;
    total_at_least = omega arith;
    whole = omega arith;
  };
  total_at_least = omega arith;
  unfragmented = refl;
  transport = inr refl;
}

row_past : GetsPastGuards row_frame.bytes row_tunnel (replies_in row_guards)
row_past = record {
  has_flow = row_has_flow;
  fits = refl;
  service_cell = _;
  flags = 0;
  tunnel_cell = _;
  state = 1;
  source = 1;
  macs = 2;
  replies_are = refl;
  is_tracked = refl;
  tunnel_is = refl;
  is_ready = refl;
}

flows_legal : IsLegalHistory flows row_flows
flows_legal = (
  record { step = record { met = refl; replied = refl }; room = refl },
  (
    record { step = record { met = refl; replied = refl }; room = refl },
    (
      record { step = record { met = refl; replied = refl }; room = refl },
      (
        record { step = record { met = refl; replied = refl }; room = refl },
        (record { step = record { met = refl; replied = refl }; room = refl }, tt),
      ),
    ),
  ),
)

backends_legal : IsLegalHistory backends row_backends
backends_legal = (
  record { step = record { met = refl; replied = refl }; room = refl },
  (
    record { step = record { met = refl; replied = refl }; room = refl },
    (
      record { step = record { met = refl; replied = refl }; room = refl },
      (record { step = record { met = refl; replied = refl }; room = refl }, tt),
    ),
  ),
)

row_noted : IsBackendNoted flows row_key 2 0 row_flows_before
row_noted = record {
  who = Controller;
  shard = 1;
  flags = 0;
  since = row_since;
  before = [];
  history_is = refl;
  fits = omega arith;
  put_in = refl;
  untouched = (
    record { other_key = refl; other_cell = refl; no_eviction = λ evicts. (let same = evicts.call_is in cc same) },
    (record { other_key = refl; other_cell = refl; no_eviction = λ evicts. (let full = evicts.full in cc full) }, tt),
  );
}

row_run : RunOfNoted row_frame row_tunnel 2 row_backend 0 row_exchanges
row_run = record {
  guards = row_guards;
  flow_lookup = row_flow_lookup;
  flow_load = row_flow_load;
  backend_lookup = row_backend_lookup;
  backend_load = row_backend_load;
  last = row_count;
  exchanges_are = refl;
  past = row_past;
  flows = flows;
  flows_history = row_flows;
  noted = record {
    kind_is = refl;
    legal = flows_legal;
    later = [];
    between = [];
    earlier = row_flows_before;
    history_is = refl;
    cell = 0;
    noted = row_noted;
    untouched = tt;
  };
  backends = backends;
  backends_history = row_backends;
  up = record {
    kind_is = refl;
    legal = backends_legal;
    later = [];
    between = [];
    earlier = row_backends_before;
    history_is = refl;
    is_index = omega arith;
    record_is = refl;
    is_up = refl;
  };
}

pub sticky_row : FinishedRunsAreResults → StickyRow
unfolding row_run
sticky_row results =
    let sent : FrameView = frame_after (Some row_tunnel) (C.Tx 2 row_backend.address false) row_frame in
    let plan : plan_outcome (steering sticky_sizes row_frame) (replies_in row_exchanges) ≡ record { calls = calls_in row_exchanges; ending = Ended Tx sent } = refl in
    record {
      left = sent;
      ends = record { plan = plan; result = results sticky_sizes row_frame row_exchanges Tx sent plan };
      run = row_run;
      flows_plan = refl;
      flows_are = refl;
      backends_plan = refl;
      backends_are = refl;
    }
