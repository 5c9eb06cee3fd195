-- Runs of a replay that find no note, at a moment of it: each sends its frame to the owner of its flow's slot, by the population of the
-- backends that the commands so far have left up. So two such runs of a flow, before a `down` and behind it, send to the same backend
-- exactly if the slot has the same owner.
use Rattle.std.specs.Prelude.{◌≡◌, ◌↔◌, ℕ, ◌+◌, ◌<◌, ◌==◌, if◌then◌else◌, true, false, List, [], ◌∷◌, ◌++◌, Option, Some, None, slice_get, take}
use Rattle.std.specs.List.{AllByRecursion}
use Rattle.wire.specs.FlowForm.{HasFlow, flow_bytes_of}
use Rattle.wire.specs.FrameView.{FrameView}
use Rattle.wire.specs.declared.records.Sent.{Sent}
use Rattle.semantics.specs.declared.call.Caller.TheVariants.{Controller}
use Rattle.semantics.specs.declared.call.CellRef.{CellRef}
use Rattle.semantics.specs.declared.call.Entry.{Entry}
use Rattle.semantics.specs.declared.call.Reply.{Reply}
use Rattle.semantics.specs.declared.call.Reply.TheVariants.{Cell, Null, Word}
use Rattle.semantics.specs.declared.options.Options.{Options}
use Rattle.semantics.specs.declared.plan.ShardPlan.{ShardPlan}
use Rattle.semantics.specs.CallerLaws.{own_entries}
use Rattle.semantics.specs.LittleEndian.{bytes_of_number}
use Rattle.semantics.specs.Program.{Program, shard_of_key}
use Rattle.semantics.specs.System.{input_frame}
use Rattle.maglev.specs.declared.backend.Backend.{Backend as Server}
use Rattle.maglev.specs.RingSize.{IsRingSize}
use Rattle.map_port.specs.Exchanges.{Exchange, replies_in}
use Rattle.shard_port.specs.Sessions.{exchange_entry}
use Rattle.conntrack.specs.declared.choosing.Choice.{Choice}
use Rattle.conntrack.specs.declared.records.TunnelRecord.{TunnelRecord}
use Rattle.conntrack.specs.declared.records.VipRecord.{VipRecord}
use Rattle.conntrack.specs.declared.steering_maps.SteeringMap.{SteeringMap}
use Rattle.conntrack.specs.declared.steering_maps.SteeringMap.TheVariants.{Backends, Ring}
use Rattle.conntrack.specs.Layouts.{backend_of, tunnel_of, vip_of}
use Rattle.conntrack.specs.SteeringMaps.{map_kind, map_place, sized_maps}
use Rattle.conntrack.specs.SteeringRule.{fits_tunnel, steered_frame, verdict_of_choice}
use Rattle.steer.specs.SteeringLaws.{of_size, shipped_program}
use Rattle.journals.specs.JournalsView.{JournalsView}
use Rattle.shards.specs.Passes.{PassView}
use Rattle.control.specs.declared.command.Action.TheVariants.{Down}
use Rattle.control.specs.declared.command.Command.{Command}
use Rattle.control.specs.Controlling.{IsTable}
use Rattle.actors.specs.declared.outcome.Applied.{Applied}
use Rattle.actors.specs.declared.outcome.Outcome.{Outcome}
use Rattle.actors.specs.declared.runner.RunEnd.{RunEnd}
use Rattle.actors.specs.declared.runner.RunEnd.TheVariants.{Stopped, Exited}
use Rattle.actors.specs.Commands.{made_in, with_updates}
use Rattle.actors.specs.Accounted.{PlacedRun, runs_in_work}
use Rattle.actors.specs.RunsOverShards.{IsTold, IsRunIn}
use Rattle.steered_replays.specs.SteeredRuns.{IsSteeredReplay}
use Rattle.steered_replays.specs.TablesAtEnd.{MapsAt, IsMoment, IsPlainReplay, carried_out, is_refused, last_histories, up_left, value_at}
use Rattle.steered_replays.specs.Fleets.{IsSentByTable, owner_in, sent_to, server_of, slot_of_flow}

-- ---- a run that finds no note

-- the frame has a flow whose packet gets through the tunnel, and by these replies, a run's first, it is for a service of this record and the
-- tunnel is set up
pub record ReachesNote (frame : List ℕ) (vip : VipRecord) (tunnel : TunnelRecord) (replies : List Reply) : Type 0 where
  pub has_flow : HasFlow frame
  pub fits : fits_tunnel frame ≡ true
  pub service_cell : CellRef
  pub flags : ℕ
  pub tunnel_cell : CellRef
  pub state : ℕ
  pub source : ℕ
  pub macs : ℕ
  pub replies_are : replies ≡ Cell service_cell ∷ Word flags ∷ Cell tunnel_cell ∷ Word state ∷ Word source ∷ Word macs ∷ []
  pub vip_is : vip ≡ vip_of (bytes_of_number 8 flags)
  pub tunnel_is : tunnel ≡ tunnel_of (bytes_of_number 8 source ++ (bytes_of_number 8 macs ++ bytes_of_number 8 state))
  pub is_ready : tunnel.is_ready ≡ true

-- By these replies, a run's next, no note decides: the service is not tracked, and nothing was asked; the Lookup of the flow found none; or
-- one was found, and the noted backend's record says that it is down.
pub data FindsNoNote (vip : VipRecord) (replies : List Reply) : Type 0 where
  untracked : vip.is_notrack ≡ true → replies ≡ [] → FindsNoNote vip replies
  none_noted : vip.is_notrack ≡ false → replies ≡ Null ∷ [] → FindsNoNote vip replies
  noted_is_down : vip.is_notrack ≡ false → (note_cell backend_cell : CellRef) (note word : ℕ) →
      (backend_of (bytes_of_number 8 word)).is_up ≡ false →
      replies ≡ Cell note_cell ∷ Word note ∷ Cell backend_cell ∷ Word word ∷ [] → FindsNoNote vip replies

-- ---- what it reads at a moment

-- the worker's Lookup and Load stand in the journal of the shard that has this key of an array, the Load right behind the moment's history
pub record IsReadAt (now : MapsAt) (map : SteeringMap) (key : List ℕ) (worker : ℕ) (lookup load : Exchange) : Type 0 where
  pub later : List Entry
  pub between : List Entry
  pub earlier : List Entry
  pub history_is :
      last_histories now.journals (shard_of_key (map_place map) (map_kind map) now.journals.options.shards key)
      ≡ later ++ exchange_entry worker load ∷ now.histories (shard_of_key (map_place map) (map_kind map) now.journals.options.shards key)
  pub moment_is :
      now.histories (shard_of_key (map_place map) (map_kind map) now.journals.options.shards key)
      ≡ between ++ exchange_entry worker lookup ∷ earlier

-- a slot without an owner leads to no backend; else the run reads the record of the owner at this moment
pub data ReadsOwner (now : MapsAt) (worker : ℕ) (owner : Option ℕ) (exchanges : List Exchange) : Type 0 where
  nobody : owner ≡ None → ReadsOwner now worker owner exchanges
  somebody : (number : ℕ) → owner ≡ Some number → (lookup load : Exchange) (last : List Exchange) → exchanges ≡ lookup ∷ load ∷ last →
      IsReadAt now Backends (bytes_of_number 4 number) worker lookup load → ReadsOwner now worker owner exchanges

-- A run on a frame for a service of this record that comes past its flow's note, and reads the flow's slot and then its owner's record, each
-- right behind the histories of this moment.
pub record RunOfStranger (size : ℕ) (now : MapsAt) (frame : FrameView) (vip : VipRecord) (tunnel : TunnelRecord) (worker : ℕ)
    (exchanges : List Exchange) : Type 0 where
  pub guards : List Exchange
  pub note : List Exchange
  pub slot_lookup : Exchange
  pub slot_load : Exchange
  pub rest : List Exchange
  pub exchanges_are : exchanges ≡ guards ++ (note ++ slot_lookup ∷ slot_load ∷ rest)
  pub reaches : ReachesNote frame.bytes vip tunnel (replies_in guards)
  pub no_note : FindsNoNote vip (replies_in note)
  pub slot : IsReadAt now Ring (bytes_of_number 4 (slot_of_flow size frame.bytes)) worker slot_lookup slot_load
  pub owner : ReadsOwner now worker (owner_in (value_at now Ring (bytes_of_number 4 (slot_of_flow size frame.bytes)))) rest

-- ---- what becomes of its frame

-- The record's frame is sent through the tunnel to the owner of its flow's slot by the population of these backends, or dropped where none
-- is up: that is what the rule chooses at this moment for a frame that is sent by no note, and the run's verdict and frame are of this
-- choice.
pub record IsSentToOwner (size : ℕ) (up : List Server) (now : MapsAt) (captured : Sent) (vip : VipRecord) (tunnel : TunnelRecord) (end : RunEnd)
    : Type 0 where
  pub owners : List ℕ
  pub table : IsTable size up owners
  pub choice : Choice
  pub by_table : IsSentByTable size now captured.bytes.items vip choice
  pub choice_is : choice ≡ sent_to vip (server_of up (slice_get owners (slot_of_flow size captured.bytes.items)))
  pub told : IsTold captured (verdict_of_choice choice) (steered_frame tunnel choice (input_frame captured.bytes.items)) end

-- so it is where a run that ended is one that finds no note
abbrev pub SentIfStranger : (size : ℕ) (up : List Server) (now : MapsAt) (plans : ℕ → ShardPlan) (count : ℕ) (program : Program)
    (worker : ℕ) (journals : JournalsView) (captured : Sent) (before : PassView) (end : RunEnd) (after : PassView)
    → IsRunIn plans count program worker journals captured before end after → Type 0
SentIfStranger size up now plans count program worker journals captured before Stopped after run = Unit {0}
SentIfStranger size up now plans count program worker journals captured before (Exited steps fate) after run =
    (vip : VipRecord) (tunnel : TunnelRecord) →
    RunOfStranger size now (input_frame captured.bytes.items) vip tunnel worker run.run.exchanges →
    IsSentToOwner size up now captured vip tunnel (Exited steps fate)

-- at each moment of a replay of the shipped program, of every run
abbrev pub StrangersAreSent : Type 0
StrangersAreSent =
    (notes size : ℕ) → IsRingSize size → (script : List Command) (options : Options) (records : List Sent) (outcome : Outcome)
    (plain : IsPlainReplay notes size script options records outcome)
    (steered : IsSteeredReplay size (shipped_program notes (of_size options.shards size)) script options records outcome plain.accounted)
    (commands : ℕ) (histories : ℕ → List Entry) → IsMoment notes size script options records outcome plain commands histories →
    (worker : ℕ) (below : worker < options.workers) →
    AllByRecursion
    (λ (one : PlacedRun plain.accounted.plan plain.accounted.count (shipped_program notes (of_size options.shards size)) worker outcome.journals records).
    SentIfStranger size (up_left [] (carried_out outcome.refused.items 0 (take commands script)))
    (record { journals = outcome.journals; histories = histories }) plain.accounted.plan plain.accounted.count
    (shipped_program notes (of_size options.shards size)) worker outcome.journals one.run.sent one.before one.ran.end one.after one.run.run)
    (runs_in_work (plain.accounted.work worker below))

-- A moment may lie right behind any place of a shard's journal where the controller has made there the updates of so many commands, and no
-- other: so it may lie behind each Load between two commands.
abbrev pub MomentsLieAnywhere : Type 0
MomentsLieAnywhere =
    (notes size : ℕ) (script : List Command) (options : Options) (records : List Sent) (outcome : Outcome)
    (plain : IsPlainReplay notes size script options records outcome) (commands : ℕ) (histories : ℕ → List Entry) →
    IsMoment notes size script options records outcome plain commands histories → (number : ℕ) (newer older : List Entry) →
    last_histories outcome.journals number ≡ newer ++ older →
    own_entries Controller older
    ≡ with_updates (sized_maps notes size) options number (made_in (take commands plain.accounted.commands.done)) [] →
    IsMoment notes size script options records outcome plain commands (λ shard. if shard == number then older else histories shard)

-- Two frames of a flow, for services of one record, that were sent so before a `down` that was carried out and behind it: they go to the same
-- backend exactly if the flow's slot has the same owner by the population of the backends that were up, and by that of all of them but
-- the one that went down.
abbrev pub StrangersMoveBetweenRuns : Type 0
StrangersMoveBetweenRuns =
    (size : ℕ) → IsRingSize size → (script : List Command) (refused : List Applied) (commands : ℕ) (command : Command) (number : ℕ) →
    slice_get script commands ≡ Some command → command.action ≡ Down number → is_refused refused commands ≡ false →
    (before after : MapsAt) (captured other : Sent) (vip : VipRecord) (tunnel its_tunnel : TunnelRecord) (end its_end : RunEnd)
    (one : IsSentToOwner size (up_left [] (carried_out refused 0 (take commands script))) before captured vip tunnel end)
    (two : IsSentToOwner size (up_left [] (carried_out refused 0 (take (commands + 1) script))) after other vip its_tunnel its_end) →
    flow_bytes_of other.bytes.items ≡ flow_bytes_of captured.bytes.items →
    (two.choice ≡ one.choice)
    ↔ (slice_get two.owners (slot_of_flow size captured.bytes.items) ≡ slice_get one.owners (slot_of_flow size captured.bytes.items))
