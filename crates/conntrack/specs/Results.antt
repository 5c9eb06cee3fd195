-- The result of a finished run by the steering rule: verdict, frame, and what it asked of the maps. By some records the rule chose
-- something; verdict and frame are those of the choice. The calls that are neither Lookup nor Load are one Update of the flows, with the
-- flag ANY, where the rule notes the flow, and one atomic add of 1 to the verdict's count, which is looked up and raised last. The flows
-- are looked up once where the frame gets past the guards (the rule's first four cases) and its service is tracked, and else never. Which
-- call each record was read by is said by the plan (Steering).
use Rattle.std.specs.Prelude.{◌≡◌, ◌⊎◌, ℕ, ◌+◌, ◌==◌, ◌&&◌, Bool, false, not, List, [], ◌∷◌, ◌++◌, length, Option, Some, None}
use Rattle.std.specs.Prelude.{if◌then◌else◌}
use Rattle.wire.specs.FrameView.{FrameView}
use Rattle.semantics.specs.declared.call.Call.{Call}
use Rattle.semantics.specs.declared.call.Call.TheVariants.{Lookup, Load, Update}
use Rattle.semantics.specs.declared.call.CellRef.{CellRef}
use Rattle.semantics.specs.declared.call.Reply.{Reply}
use Rattle.semantics.specs.declared.call.Reply.TheVariants.{Cell}
use Rattle.semantics.specs.declared.linux.UpdateFlags.TheVariants.{Any}
use Rattle.semantics.specs.declared.verdict.Verdict.{Verdict}
use Rattle.semantics.specs.LittleEndian.{bytes_of_number}
use Rattle.semantics.specs.Linux.{flags_number}
use Rattle.semantics.specs.Semantics.{verdict_number}
use Rattle.map_port.specs.Exchanges.{Exchange}
use Rattle.conntrack.specs.declared.steering_maps.SteeringMap.TheVariants.{Flows, Stats}
use Rattle.conntrack.specs.declared.records.VipRecord.{VipRecord}
use Rattle.conntrack.specs.declared.choosing.Records.{Records}
use Rattle.conntrack.specs.declared.choosing.Choice.{Choice}
use Rattle.conntrack.specs.SteeringRule.{IsSteered, fits_tunnel, is_set_up, flow_update, frame_after, verdict_of_choice}
use Rattle.conntrack.specs.Steering.{SteeringSizes, steering_shard, has_flow, count_call}

-- ---- changes of the maps

-- the calls that are neither Lookup nor Load
abbrev pub change_of : Call → List Call
change_of (Lookup shard key) = []
change_of (Load cell offset size) = []
change_of call = call ∷ []

abbrev pub changes_in : List Exchange → List Call
changes_in [] = []
changes_in (exchange ∷ later) = change_of exchange.call ++ changes_in later

-- the note of the chosen backend, made with the flag ANY
abbrev pub note_call : SteeringSizes → Option (List ℕ × List ℕ) → List Call
note_call sizes None = []
note_call sizes (Some note) = Update (steering_shard sizes Flows note.0) note.0 note.1 (flags_number Any) ∷ []

-- ---- the verdict's count

abbrev pub count_key : Verdict → List ℕ
count_key verdict = bytes_of_number 4 (verdict_number verdict)

abbrev pub count_lookup : SteeringSizes → Verdict → Call
count_lookup sizes verdict = Lookup (steering_shard sizes Stats (count_key verdict)) (count_key verdict)

-- the verdict's count is looked up, and one is added to it
pub record IsRaised (sizes : SteeringSizes) (verdict : Verdict) (exchanges : List Exchange) : Type 0 where
  pub cell : CellRef
  pub old : Reply
  pub calls :
      exchanges ≡
      (record { call = count_lookup sizes verdict; reply = Cell cell }) ∷ (record { call = count_call cell; reply = old }) ∷ []

abbrev pub IsNoCell : Reply → Type 0
IsNoCell (Cell cell) = ⊥
IsNoCell reply = Unit {0}

-- the verdict's count is looked up and not found, so nothing is added: an array's shard never replies so
pub record IsNotFound (sizes : SteeringSizes) (verdict : Verdict) (exchanges : List Exchange) : Type 0 where
  pub absent : Reply
  pub no_cell : IsNoCell absent
  pub calls : exchanges ≡ (record { call = count_lookup sizes verdict; reply = absent }) ∷ []

-- ---- lookups of flows

-- the keys of the flows alone have sixteen bytes
abbrev pub flow_lookups : Call → ℕ
flow_lookups (Lookup shard key) = if length key == 16 then 1 else 0
flow_lookups call = 0

abbrev pub lookups_of_flows : List Exchange → ℕ
lookups_of_flows [] = 0
lookups_of_flows (exchange ∷ later) = flow_lookups exchange.call + lookups_of_flows later

abbrev pub is_tracked : Option VipRecord → Bool
is_tracked (Some vip) = not vip.is_notrack
is_tracked None = false

-- the frame has a flow for a tracked service, and its packet gets through the tunnel, which is set up
abbrev pub gets_to_note : List ℕ → Records → Bool
gets_to_note frame records = is_tracked records.vip && (is_set_up records.tunnel && (fits_tunnel frame && has_flow frame))

abbrev pub flow_lookups_due : List ℕ → Records → ℕ
flow_lookups_due frame records = if gets_to_note frame records then 1 else 0

-- ---- the result

pub record IsResult (sizes : SteeringSizes) (frame : FrameView) (exchanges : List Exchange) (verdict : Verdict) (left : FrameView) :
    Type 0 where
  -- the rule chose this by these records
  pub records : Records
  pub choice : Choice
  pub steered : IsSteered frame.bytes records choice
  pub verdict_is : verdict ≡ verdict_of_choice choice
  pub left_is : left ≡ frame_after records.tunnel choice frame
  -- the note, if there is one, and last the count
  pub before : List Exchange
  pub last : List Exchange
  pub all : exchanges ≡ before ++ last
  pub noted : changes_in before ≡ note_call sizes (flow_update frame.bytes choice)
  pub counted : IsRaised sizes verdict last ⊎ IsNotFound sizes verdict last
  pub flows_looked_up : lookups_of_flows exchanges ≡ flow_lookups_due frame.bytes records
