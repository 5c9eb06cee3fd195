-- The run of a flow without a note, by computation.
use Rattle.std.proofs.Common.{◌≡◌, true, [], ◌∷◌, refl}
use Rattle.wire.specs.FrameView.{FrameView}
use Rattle.semantics.specs.declared.verdict.Verdict.TheVariants.{Tx}
use Rattle.map_port.specs.Exchanges.{calls_in, replies_in}
use Rattle.block_runs.specs.Plan.{Ended, plan_outcome}
use Rattle.conntrack.specs.declared.choosing.Choice.TheVariants as choices
use Rattle.conntrack.specs.Steering.{steering}
use Rattle.conntrack.specs.SteeringLaws.{FinishedRunsAreResults}
use Rattle.conntrack.specs.SteeringRule.{steered_frame}
use Rattle.steered_replays.specs.StickyRow.{row_backend, row_backend_load, row_backend_lookup, row_backends_before, row_count, row_frame, row_guards, row_tunnel, sticky_sizes}
use Rattle.steered_replays.specs.StrangerRow.{StrangerRow, note_update, row_now, row_ring_before, row_vip, slot_load, slot_lookup, stranger_exchanges, stranger_lookup}
use Rattle.steered_replays.specs.StrangerRuns.{ReachesNote, RunOfStranger, none_noted, somebody}
use Rattle.steered_replays.proofs.StickyRow.{row_has_flow}

row_reaches : ReachesNote row_frame.bytes row_vip row_tunnel (replies_in row_guards)
row_reaches = record {
  has_flow = row_has_flow;
  fits = refl;
  service_cell = _;
  flags = 0;
  tunnel_cell = _;
  state = 1;
  source = 1;
  macs = 2;
  replies_are = refl;
  vip_is = refl;
  tunnel_is = refl;
  is_ready = refl;
}

row_run : RunOfStranger 7 row_now row_frame row_vip row_tunnel 0 stranger_exchanges
row_run = record {
  guards = row_guards;
  note = stranger_lookup ∷ [];
  slot_lookup = slot_lookup;
  slot_load = slot_load;
  rest = row_backend_lookup ∷ row_backend_load ∷ note_update ∷ row_count;
  exchanges_are = refl;
  reaches = row_reaches;
  no_note = none_noted refl refl;
  slot = record { later = []; between = []; earlier = row_ring_before; history_is = refl; moment_is = refl };
  owner = somebody 2 refl row_backend_lookup row_backend_load (note_update ∷ row_count) refl
      (record { later = []; between = []; earlier = row_backends_before; history_is = refl; moment_is = refl });
}

pub stranger_row : FinishedRunsAreResults → StrangerRow
stranger_row results =
    let sent : FrameView = steered_frame row_tunnel (choices.Tx 2 row_backend.address true) row_frame in
    let plan : plan_outcome (steering sticky_sizes row_frame) (replies_in stranger_exchanges) ≡ record { calls = calls_in stranger_exchanges; ending = Ended Tx sent } = refl in
    record { left = sent; ends = record { plan = plan; result = results sticky_sizes row_frame stranger_exchanges Tx sent plan }; run = row_run; left_is = refl }
