-- A replay on one thread, turn after turn, as one order of all deeds with a pass for each caller.
use Rattle.std.proofs.Common.{◌≡◌, ⊎_elim, ◌&&◌, not, true≢false, reverse, ℕ, zero, suc, ◌+◌, ◌-◌, ◌/◌, ◌%◌, ◌<◌, ◌≤◌, ◌==◌, nat_lt, Bool, true, false, List, [], ◌∷◌, ◌++◌, length, map, refl, sym, ap, ◌∙◌, subst, arith, eq-eqb, ne_eqb}
use Rattle.std.specs.Prelude.{Option, Some, None, slice_get, if◌then◌else◌}
use Rattle.std.proofs.Math.Nat.{mod-lt, div-add-mod}
use Rattle.std.proofs.lemmas.Bool.{cases_eq}
use Rattle.std.proofs.lemmas.Bool.Decides.{nat_tests}
use Rattle.wire.specs.FrameView.{FrameView}
use Rattle.wire.specs.declared.records.Sent.{Sent}
use Rattle.semantics.specs.declared.call.Caller.TheVariants.{Worker, Controller, Reclaimer}
use Rattle.semantics.proofs.shared.EachLemmas.{set_count}
use Rattle.semantics.specs.declared.options.Options.{Options}
use Rattle.semantics.specs.declared.plan.ShardPlan.{ShardPlan}
use Rattle.semantics.specs.Program.{Program}
use Rattle.ebpf_decode.specs.declared.map.MapDef.{MapDef}
use Rattle.machine.specs.declared.exit.Stop.{Stop}
use Rattle.machine.specs.declared.exit.Stop.TheVariants.{JournalFull}
use Rattle.shard_core.specs.JournaledShard.{JournaledShard}
use Rattle.shards.specs.declared.deeds.Deed.{Deed}
use Rattle.shards.specs.Passes.{PassView}
use Rattle.shard_port.specs.PassSessions.{WritesOwnSessions, WritesRefusedOwnSessions, IsOutsideAt}
use Rattle.runs.specs.FrameRuns.{HasStopped}
use Rattle.control.specs.declared.command.Command.{Command}
use Rattle.map_updates.specs.declared.update.MapUpdate.{MapUpdate}
use Rattle.control.specs.Controlling.{ControllerState}
use Rattle.semantics.specs.Replay.{Captured}
use Rattle.actors.specs.declared.account.Counts.{Counts}
use Rattle.actors.specs.declared.outcome.Applied.{Applied}
use Rattle.actors.specs.declared.outcome.ToldEnd.{ToldEnd}
use Rattle.actors.specs.declared.runner.Ran.{Ran}
use Rattle.actors.specs.declared.runner.RunEnd.{RunEnd}
use Rattle.actors.specs.declared.runner.RunEnd.TheVariants.{Stopped, Exited}
use Rattle.actors.specs.Shares.{frames_of, frame_at, is_short, worker_of_frame, share, all_captured}
use Rattle.actors.specs.Accounts.{runs_at, end_at, fate_of, counted, counts_of, sent_by, sent_of, record_end, ends_of, AreRunsOfShares}
use Rattle.actors.specs.Actors.{numbers_from}
use Rattle.actors.specs.Commands.{CommandDone, all_set, made_deeds, command_deeds}
use Rattle.actors.specs.Parts.{numbers_of, first_commands}
use Rattle.actors.specs.Rounds.{AreReclaimed, IsRoundDone, HasMadeRound, EndsWithRound}
use Rattle.actors.specs.RunsInOrder.{IsRunAt}
use Rattle.guarantees.specs.TurnByTurn.{TurnDeeds, is_turn_of, turns_of}
use Rattle.actors.specs.RunsOverShards.{IsNewPass, IsRunOf, start_of}
use Rattle.replay.specs.Turns.{Turn, TheCommand, TheRecord, TheRound, due_to, due_before, commands_between, rounds_at, turns_to, all_turns}
use Rattle.replay.specs.InTurn.{IsRunInTurn, IsHandledInTurn, TurnState, IsRecordTurn, IsCommandTurn, IsRoundTurn, AreTurns}
use Rattle.replay.proofs.PartLemmas.{numbers_next, noted_as_many, numbers_count}
use Rattle.replay.proofs.TurnBegun.{AreControllers, IsBegunWith, with_grown, with_more}
use Rattle.replay.proofs.TurnParts.{then_turns, both_turns, no_turns, last_at, turns_done, deeds_done, done_more, turns_more, order_more, order_same, turns_of_more, turns_of_none, pass_more, deeds_are, AreTurnsDone, all_grown, all_more, HasHandledIn, deeds_push}
use Rattle.actors.proofs.shared.PutLemmas.{share_of_short, share_of_other, share_of_own, worker_below}
use Rattle.shards.specs.Deeds.{made_on}
use Rattle.replay.specs.TurnOrder.{actor_of, GoesThrough}
use Rattle.replay.proofs.TurnDeeds.{IsSound, AreLeftBy, IsPassOf, Stands, IsMoreBy, no_more, both_by, others_stay}
use Rattle.replay.proofs.TurnLeaving.{ends_by_pass, stops_by_pass}
use Rattle.replay.proofs.TurnCommands.{by_pass, command_by_pass}
use Rattle.replay.proofs.TurnRounds.{round_by_pass}
use Rattle.replay.proofs.LastRound.{all_own, closes}
use Rattle.replay.proofs.TurnFates.{records_push, chain_push, with_run, run_here, run_else, fates_stay, fate_now, counts_stay, sent_stays, ends_stay}

-- ---- lists

record_there : (records : List Sent) (number : ℕ) (captured : Sent) → slice_get records number ≡ Some captured →
    frame_at (frames_of records) number ≡ captured.bytes.items
record_there [] number captured known = absurd cc
record_there (first ∷ later) zero captured known = let same : first ≡ captured = cc in ap (λ (sent : Sent). sent.bytes.items) same
record_there (first ∷ later) (suc number) captured known = record_there later number captured known

-- ---- the state of a replay

module _ (program : Program) (updates : List MapUpdate) (script : List Command) (options : Options) (records : List Sent) (size : ℕ) (plan : ℕ → ShardPlan) (count : ℕ) where
  pub record IsSimulated (number next rounds : ℕ) (state : TurnState) : Type 0 where
    pub order : List Deed
    pub sound : IsSound plan count order
    pub left : AreLeftBy plan count order state.all.shards
    pub maps : state.all.maps ≡ program.maps
    pub options_are : state.all.options ≡ options
    -- the workers
    pub runs : List (List Ran)
    pub lists : length runs ≡ options.workers
    pub passes : ℕ → PassView
    pub mine : (worker : ℕ) → worker < options.workers → IsPassOf count (Worker worker) order (passes worker)
    pub outside : (worker : ℕ) → worker < options.workers → (shard : ℕ) → shard < count → IsOutsideAt worker (passes worker) shard
    -- what was done in each turn
    pub parts : List TurnDeeds
    pub order_is : reverse order ≡ made_deeds program.maps options (all_set updates) ++ deeds_done parts
    pub handled : (worker : ℕ) → worker < options.workers →
        HasHandledIn (IsNewPass worker) (IsRunAt (IsRunOf count plan program worker) records)
        (share (frames_of records) options.workers worker number) (runs_at runs worker) (passes worker)
        (turns_of (frames_of records) options.workers worker parts)
    pub counts : state.counts ≡ counts_of (frames_of records) options.workers runs number
    pub sent : all_captured state.sent ≡ sent_of (frames_of records) options.workers runs number
    pub ends : state.ends ≡ ends_of (frames_of records) options.workers runs number
    -- the controller
    pub controller : PassView
    pub controls : IsPassOf count Controller order controller
    pub each_once : numbers_of state.noted ≡ numbers_from 0 next
    pub commands : List CommandDone
    pub begun : IsBegunWith plan program.maps options updates script size state.noted state.controller controller next order commands
    pub each_part : AreTurnsDone plan program.maps options count records commands parts
    -- before the first record nobody else does anything
    pub early : next < first_commands script → AreControllers order
    -- the reclaimer
    pub reclaimer : PassView
    pub reclaims : IsPassOf count Reclaimer order reclaimer
    pub reclaimed : AreReclaimed plan count rounds reclaimer

module _ (program : Program) (updates : List MapUpdate) (script : List Command) (options : Options) (records : List Sent) (size : ℕ) (plan : ℕ → ShardPlan) (count : ℕ)
    (writes : WritesOwnSessions) (writes_refused : WritesRefusedOwnSessions) (some_worker : 0 < options.workers)
    (numbered : (number : ℕ) → number < count → (plan number).number ≡ number)
    (staffed : (worker : ℕ) → worker < options.workers → (number : ℕ) → number < count → worker < (plan number).workers) where
  abbrev Simulated : ℕ → ℕ → ℕ → TurnState → Type 0
  Simulated = IsSimulated program updates script options records size plan count

  abbrev frames : List (List ℕ)
  frames = frames_of records

  -- what was done up to the end of a turn, and by whom it grew
  record Stepped (turn : Turn) (begun : List Deed) (earlier : List TurnDeeds) (number next rounds : ℕ) (after : TurnState) : Type 0 where
    now : Simulated number next rounds after
    more : IsMoreBy (actor_of records options.workers turn) begun now.order
    turns_are : turns_done now.parts ≡ turns_done earlier ++ turn ∷ []

  abbrev made : List Deed
  made = made_deeds program.maps options (all_set updates)

  -- a turn that is of no worker leaves each worker's
  handled_by_others : (runs : List (List Ran)) (passes : ℕ → PassView) (number : ℕ) (parts : List TurnDeeds) (one : TurnDeeds) →
      ((worker : ℕ) → is_turn_of frames options.workers worker one.turn ≡ false) →
      ((worker : ℕ) → worker < options.workers → HasHandledIn (IsNewPass worker) (IsRunAt (IsRunOf count plan program worker) records)
      (share frames options.workers worker number) (runs_at runs worker) (passes worker) (turns_of frames options.workers worker parts)) →
      (worker : ℕ) → worker < options.workers → HasHandledIn (IsNewPass worker) (IsRunAt (IsRunOf count plan program worker) records)
      (share frames options.workers worker number) (runs_at runs worker) (passes worker) (turns_of frames options.workers worker (parts ++ one ∷ []))
  handled_by_others runs passes number parts one others were worker below =
      subst (λ (list : List TurnDeeds). HasHandledIn (IsNewPass worker) (IsRunAt (IsRunOf count plan program worker) records)
      (share frames options.workers worker number) (runs_at runs worker) (passes worker) list)
      (sym (turns_of_none frames options.workers worker parts one (others worker))) (were worker below)

  -- the same behind a state that is the same
  abbrev at_same : (number next rounds : ℕ) (before after : TurnState) → after ≡ before → Simulated number next rounds before → Simulated number next rounds after
  at_same number next rounds before after same was = record {
    order = was.order;
    sound = was.sound;
    left = subst (λ (state : TurnState). AreLeftBy plan count was.order state.all.shards) (sym same) was.left;
    maps = ap (λ (state : TurnState). state.all.maps) same ∙ was.maps;
    options_are = ap (λ (state : TurnState). state.all.options) same ∙ was.options_are;
    runs = was.runs;
    lists = was.lists;
    passes = was.passes;
    mine = was.mine;
    outside = was.outside;
    parts = was.parts;
    order_is = was.order_is;
    handled = was.handled;
    counts = ap (λ (state : TurnState). state.counts) same ∙ was.counts;
    sent = ap (λ (state : TurnState). all_captured state.sent) same ∙ was.sent;
    ends = ap (λ (state : TurnState). state.ends) same ∙ was.ends;
    controller = was.controller;
    controls = was.controls;
    each_once = ap (λ (state : TurnState). numbers_of state.noted) same ∙ was.each_once;
    commands = was.commands;
    begun = subst (λ (state : TurnState). IsBegunWith plan program.maps options updates script size state.noted state.controller was.controller next was.order
        was.commands) (sym same) was.begun;
    each_part = was.each_part;
    early = was.early;
    reclaimer = was.reclaimer;
    reclaims = was.reclaims;
    reclaimed = was.reclaimed;
  }

  -- what became of a record that is long enough
  abbrev fate_long : List (List Ran) → ℕ → Option RunEnd
  fate_long runs number =
      end_at (runs_at runs (worker_of_frame (frame_at frames number) options.workers))
      (length (share frames options.workers (worker_of_frame (frame_at frames number) options.workers) number))

  -- ---- a round

  round_turn : (number next rounds : ℕ) (before after : TurnState) → (was : Simulated number next rounds before) → first_commands script ≤ next →
      IsRoundTurn before after → Stepped TheRound was.order was.parts number next (rounds + 1) after
  round_turn number next rounds before after was ready turn =
      let done = round_by_pass plan count numbered rounds was.order was.reclaimer before.all.shards after.all.shards
      (record { sound = was.sound; left = was.left; mine = was.reclaims }) was.reclaimed turn.round in
      let one : TurnDeeds = done_more TheRound Reclaimer was.order done.order' done.more in
      let is : reverse done.more.deeds ≡ done.did.made =
      deeds_are count Reclaimer was.order done.order' was.reclaimer done.pass' done.more done.did.made was.reclaims done.stands.mine done.did.deeds_are in
      record {
        now = record {
          order = done.order';
          sound = done.stands.sound;
          left = done.stands.left;
          maps = turn.maps ∙ was.maps;
          options_are = turn.options ∙ was.options_are;
          runs = was.runs;
          lists = was.lists;
          passes = was.passes;
          mine = λ worker below. others_stay count Reclaimer (Worker worker) was.order done.order' (was.passes worker) done.more refl (was.mine worker below);
          outside = was.outside;
          parts = was.parts ++ one ∷ [];
          order_is = order_more made was.parts TheRound Reclaimer was.order done.order' done.more was.order_is;
          handled = handled_by_others was.runs was.passes number was.parts one (λ worker. refl) was.handled;
          counts = turn.counts ∙ was.counts;
          sent = ap all_captured turn.sent ∙ was.sent;
          ends = turn.ends ∙ was.ends;
          controller = was.controller;
          controls = others_stay count Reclaimer Controller was.order done.order' was.controller done.more refl was.controls;
          each_once = ap numbers_of turn.noted ∙ was.each_once;
          commands = was.commands;
          begun = subst (λ (state : ControllerState). IsBegunWith plan program.maps options updates script size after.noted state was.controller next done.order'
              was.commands) (sym turn.controller)
              (subst (λ (noted : List Applied). IsBegunWith plan program.maps options updates script size noted before.controller was.controller next done.order'
              was.commands) (sym turn.noted)
              (with_grown plan program.maps options updates script size before.noted before.controller was.controller next Reclaimer was.order done.order'
              was.commands done.more was.begun));
          each_part = all_more plan program.maps options count records was.commands was.parts one was.each_part
              (subst (λ (list : List Deed). IsRoundDone plan count list) (sym is) done.did.round);
          early = λ less. absurd (omega (arith, less, ready));
          reclaimer = done.pass';
          reclaims = done.stands.mine;
          reclaimed = done.reclaimed;
        };
        more = done.more;
        turns_are = turns_more was.parts one;
      }

  round_did : (number next rounds : ℕ) (before after : TurnState) → (was : Simulated number next rounds before) → (ready : first_commands script ≤ next) →
      (turn : IsRoundTurn before after) →
      HasMadeRound plan count was.reclaimer.deeds (round_turn number next rounds before after was ready turn).now.reclaimer.deeds
  unfolding round_turn
  round_did number next rounds before after was ready turn =
      (round_by_pass plan count numbered rounds was.order was.reclaimer before.all.shards after.all.shards
      (record { sound = was.sound; left = was.left; mine = was.reclaims }) was.reclaimed turn.round).did

  -- ---- a command

  command_turn : (number next rounds : ℕ) (before after : TurnState) → (was : Simulated number next rounds before) →
      IsCommandTurn script next before after → Stepped (TheCommand next) was.order was.parts number (next + 1) rounds after
  command_turn number next rounds before after was turn =
      let done = command_by_pass plan count numbered turn.fault was.order was.controller before.controller before.all turn.command.action after.controller
      after.all (record { sound = was.sound; left = was.left; mine = was.controls }) turn.did turn.first in
      let last : Applied = record { command = next; fault = turn.fault } in
      let maps : after.all.maps ≡ program.maps = done.effect.moved.maps ∙ was.maps in
      let options_are : after.all.options ≡ options = done.effect.moved.options ∙ was.options_are in
      let there : IsBegunWith plan before.all.maps before.all.options updates script size before.noted before.controller was.controller next was.order was.commands =
      subst (λ (o : Options). IsBegunWith plan before.all.maps o updates script size before.noted before.controller was.controller next was.order was.commands)
      (sym was.options_are)
      (subst (λ (m : List MapDef). IsBegunWith plan m options updates script size before.noted before.controller was.controller next was.order was.commands)
      (sym was.maps) was.begun) in
      let alone : next < first_commands script → AreControllers done.order' =
      λ less. subst AreControllers (sym done.more.more) (both_by Controller done.more.deeds was.order done.more.made_by (was.early less)) in
      let many : length there.begun.account.done ≡ next =
      noted_as_many script before.noted there.begun.account.done there.begun.account.are_noted ∙ ap (λ (l : List ℕ). length l) was.each_once
      ∙ numbers_count 0 next in
      let commands : List CommandDone = was.commands ++ done.effect.one ∷ [] in
      let more : IsBegunWith plan after.all.maps after.all.options updates script size (before.noted ++ last ∷ []) after.controller done.pass' (next + 1)
      done.order' commands =
      with_more plan updates script size before.noted before.controller after.controller (by_pass before.all was.controller) (by_pass after.all done.pass')
      turn.command last next was.order done.order' was.commands there turn.known done.effect many done.more alone done.stands.mine.did in
      let moved : IsBegunWith plan program.maps options updates script size (before.noted ++ last ∷ []) after.controller done.pass' (next + 1) done.order' commands =
      subst (λ (o : Options). IsBegunWith plan program.maps o updates script size (before.noted ++ last ∷ []) after.controller done.pass' (next + 1) done.order'
      commands) options_are
      (subst (λ (m : List MapDef). IsBegunWith plan m after.all.options updates script size (before.noted ++ last ∷ []) after.controller done.pass' (next + 1)
      done.order' commands) maps more) in
      let one : TurnDeeds = done_more (TheCommand next) Controller was.order done.order' done.more in
      let is : reverse done.more.deeds ≡ command_deeds program.maps options done.effect.one =
      deeds_are count Controller was.order done.order' was.controller done.pass' done.more (command_deeds before.all.maps before.all.options done.effect.one)
      was.controls done.stands.mine done.effect.did
      ∙ ap (λ (m : List MapDef). command_deeds m before.all.options done.effect.one) was.maps
      ∙ ap (λ (o : Options). command_deeds program.maps o done.effect.one) was.options_are in
      let there_now : slice_get commands next ≡ Some done.effect.one =
      subst (λ (n : ℕ). slice_get commands n ≡ Some done.effect.one) (ap (λ (list : List CommandDone). length list) (sym there.same) ∙ many)
      (last_at was.commands done.effect.one) in
      record {
        now = record {
          order = done.order';
          sound = done.stands.sound;
          left = done.stands.left;
          maps = maps;
          options_are = options_are;
          runs = was.runs;
          lists = was.lists;
          passes = was.passes;
          mine = λ worker below. others_stay count Controller (Worker worker) was.order done.order' (was.passes worker) done.more refl (was.mine worker below);
          outside = was.outside;
          parts = was.parts ++ one ∷ [];
          order_is = order_more made was.parts (TheCommand next) Controller was.order done.order' done.more was.order_is;
          handled = handled_by_others was.runs was.passes number was.parts one (λ worker. refl) was.handled;
          counts = turn.counts ∙ was.counts;
          sent = ap all_captured turn.sent ∙ was.sent;
          ends = turn.ends ∙ was.ends;
          controller = done.pass';
          controls = done.stands.mine;
          each_once = numbers_next before.noted after.noted last next was.each_once refl turn.noted;
          commands = commands;
          begun = subst (λ (noted : List Applied). IsBegunWith plan program.maps options updates script size noted after.controller done.pass' (next + 1) done.order'
              commands) (sym turn.noted) moved;
          each_part = all_more plan program.maps options count records commands was.parts one
              (all_grown plan program.maps options count records was.commands (done.effect.one ∷ []) was.parts was.each_part) (done.effect.one, there_now, is);
          early = λ less. alone (omega (arith, less));
          reclaimer = was.reclaimer;
          reclaims = others_stay count Controller Reclaimer was.order done.order' was.reclaimer done.more refl was.reclaims;
          reclaimed = was.reclaimed;
        };
        more = done.more;
        turns_are = turns_more was.parts one;
      }

  -- ---- a run

  record IsRunByPass (worker : ℕ) (captured : Sent) (order : List Deed) (pass : PassView) (end : RunEnd) (after : List JournaledShard) : Type 0 where
    order' : List Deed
    pass' : PassView
    more : IsMoreBy (Worker worker) order order'
    stands : Stands plan count (Worker worker) order' after pass'
    outside : (shard : ℕ) → shard < count → IsOutsideAt worker pass' shard
    run : IsRunOf count plan program worker captured pass end pass'

  stop_outside : (worker : ℕ) (captured : Sent) (before after : PassView) (frame : FrameView) (stop : Stop) →
      HasStopped program (start_of captured worker) plan count worker before after frame stop → (shard : ℕ) → shard < count → IsOutsideAt worker after shard
  stop_outside worker captured before after frame (JournalFull shard) was = was.sessions.outside

  run_by_pass : (worker : ℕ) (captured : Sent) (order : List Deed) (pass : PassView) (end : RunEnd) (before after : List JournaledShard) →
      worker < options.workers → Stands plan count (Worker worker) order before pass → ((shard : ℕ) → shard < count → IsOutsideAt worker pass shard) →
      IsRunInTurn program captured worker before end after → IsRunByPass worker captured order pass end after
  run_by_pass worker captured order pass Stopped before after below stands outside turn =
      let done = stops_by_pass plan count worker numbered (staffed worker below) writes_refused program (start_of captured worker) order before after pass
      turn.frame turn.stop stands outside turn.run in
      record {
        order' = done.order';
        pass' = done.pass';
        more = done.more;
        stands = done.stands;
        outside = stop_outside worker captured pass done.pass' turn.frame turn.stop done.run;
        run = record { frame = turn.frame; stop = turn.stop; run = done.run };
      }
  run_by_pass worker captured order pass (Exited steps fate) before after below stands outside turn =
      let done = ends_by_pass plan count worker numbered (staffed worker below) writes program (start_of captured worker) order before after pass
      turn.verdict turn.steps turn.frame stands outside turn.run in
      record {
        order' = done.order';
        pass' = done.pass';
        more = done.more;
        stands = done.stands;
        outside = done.run.sessions.outside;
        run = record { verdict = turn.verdict; steps = turn.steps; frame = turn.frame; run = done.run; told = turn.told; counted = turn.counted };
      }

  -- ---- a record

  -- one that is too short changes nothing
  short_turn : (number next rounds : ℕ) (before after : TurnState) (captured : Sent) → (was : Simulated number next rounds before) →
      frame_at frames number ≡ captured.bytes.items → is_short captured.bytes.items ≡ true → after.all.shards ≡ before.all.shards →
      after.all.maps ≡ before.all.maps → after.all.options ≡ before.all.options → after.controller ≡ before.controller → after.noted ≡ before.noted →
      after.counts ≡ counted before.counts None → all_captured after.sent ≡ all_captured before.sent ++ [] →
      after.ends ≡ before.ends ++ record_end (worker_of_frame captured.bytes.items options.workers) None ∷ [] → slice_get records number ≡ Some captured →
      Stepped (TheRecord number) was.order was.parts (suc number) next rounds after
  short_turn number next rounds before after captured was there short shards maps opts controller noted counts sent ends known =
      let is : is_short (frame_at frames number) ≡ true = ap is_short there ∙ short in
      let none : fate_of frames options.workers was.runs number ≡ None =
      ap (λ (test : Bool). if test then None else fate_long was.runs number) is in
      let one : TurnDeeds = record { turn = TheRecord number; deeds = [] } in
      record {
        now = record {
          order = was.order;
          sound = was.sound;
          left = subst (λ (list : List JournaledShard). AreLeftBy plan count was.order list) (sym shards) was.left;
          maps = maps ∙ was.maps;
          options_are = opts ∙ was.options_are;
          runs = was.runs;
          lists = was.lists;
          passes = was.passes;
          mine = was.mine;
          outside = was.outside;
          parts = was.parts ++ one ∷ [];
          order_is = order_same made was.parts (TheRecord number) was.order was.order_is;
          handled = λ worker below. subst (λ (numbers : List ℕ). HasHandledIn (IsNewPass worker) (IsRunAt (IsRunOf count plan program worker) records) numbers
              (runs_at was.runs worker) (was.passes worker) (turns_of frames options.workers worker (was.parts ++ one ∷ [])))
              (sym (share_of_short frames options.workers worker number is))
              (handled_by_others was.runs was.passes number was.parts one
              (λ other. ap (λ (test : Bool). not test && (worker_of_frame (frame_at frames number) options.workers == other)) is) was.handled worker below);
          counts = counts ∙ ap (λ (c : Counts). counted c None) was.counts
              ∙ ap (λ (fate : Option RunEnd). counted (counts_of frames options.workers was.runs number) fate) (sym none);
          sent = sent ∙ ap (λ (list : List Captured). list ++ sent_by None) was.sent
              ∙ ap (λ (fate : Option RunEnd). sent_of frames options.workers was.runs number ++ sent_by fate) (sym none);
          ends = ends ∙ ap (λ (list : List ToldEnd). list ++ record_end (worker_of_frame captured.bytes.items options.workers) None ∷ []) was.ends
              ∙ ap (λ (bytes : List ℕ). ends_of frames options.workers was.runs number ++ record_end (worker_of_frame bytes options.workers) None ∷ []) (sym there)
              ∙ ap (λ (fate : Option RunEnd). ends_of frames options.workers was.runs number ++
              record_end (worker_of_frame (frame_at frames number) options.workers) fate ∷ []) (sym none);
          controller = was.controller;
          controls = was.controls;
          each_once = ap numbers_of noted ∙ was.each_once;
          commands = was.commands;
          begun = subst (λ (state : ControllerState). IsBegunWith plan program.maps options updates script size after.noted state was.controller next was.order
              was.commands) (sym controller)
              (subst (λ (list : List Applied). IsBegunWith plan program.maps options updates script size list before.controller was.controller next was.order
              was.commands) (sym noted) was.begun);
          each_part = all_more plan program.maps options count records was.commands was.parts one was.each_part (captured, known, λ same. refl);
          early = was.early;
          reclaimer = was.reclaimer;
          reclaims = was.reclaims;
          reclaimed = was.reclaimed;
        };
        more = no_more (actor_of records options.workers (TheRecord number)) was.order;
        turns_are = turns_more was.parts one;
      }

  -- any other one is one run more of the worker of its flow
  module _ (number next rounds : ℕ) (before after : TurnState) (captured : Sent) (was : Simulated number next rounds before)
      (ready : first_commands script ≤ next) (known : slice_get records number ≡ Some captured) (long : is_short captured.bytes.items ≡ false) (end : RunEnd)
      (turn : IsRunInTurn program captured (worker_of_frame captured.bytes.items options.workers) before.all.shards end after.all.shards) where
    abbrev own : ℕ
    own = worker_of_frame captured.bytes.items options.workers

    there : frame_at frames number ≡ captured.bytes.items
    there = record_there records number captured known

    who : worker_of_frame (frame_at frames number) options.workers ≡ own
    who = ap (λ (bytes : List ℕ). worker_of_frame bytes options.workers) there

    is_long : is_short (frame_at frames number) ≡ false
    is_long = ap is_short there ∙ long

    below_own : own < options.workers
    below_own = worker_below captured.bytes.items options.workers some_worker

    done : IsRunByPass own captured was.order (was.passes own) end after.all.shards
    done = run_by_pass own captured was.order (was.passes own) end before.all.shards after.all.shards below_own
        (record { sound = was.sound; left = was.left; mine = was.mine own below_own }) (was.outside own below_own) turn

    abbrev ran : Ran
    ran = record { number = number; end = end }

    abbrev runs' : List (List Ran)
    runs' = with_run own ran was.runs

    abbrev passes' : ℕ → PassView
    passes' worker = if worker == own then done.pass' else was.passes worker

    pass_here : passes' own ≡ done.pass'
    pass_here = ap (λ (test : Bool). if test then done.pass' else was.passes own) (eq-eqb own own refl)

    pass_else : (worker : ℕ) → (worker ≡ own → ⊥) → passes' worker ≡ was.passes worker
    pass_else worker apart = ap (λ (test : Bool). if test then done.pass' else was.passes worker) (ne_eqb worker own apart)

    are : AreRunsOfShares frames options.workers number was.runs
    are worker below = (was.handled worker below).handled.records_are

    abbrev mine : TurnDeeds
    mine = done_more (TheRecord number) (Worker own) was.order done.order' done.more

    turn_is : (worker : ℕ) → is_turn_of frames options.workers worker (TheRecord number) ≡ (own == worker)
    turn_is worker = ap (λ (bytes : List ℕ). not (is_short bytes) && (worker_of_frame bytes options.workers == worker)) there
        ∙ ap (λ (test : Bool). not test && (own == worker)) long

    within : own < length was.runs
    within = subst (λ (n : ℕ). own < n) (sym was.lists) below_own

    -- what is so of each worker's runs and pass
    abbrev OfEach : (ℕ → List Ran → PassView → Type 0) → Type 0
    OfEach P = (worker : ℕ) → worker < options.workers → P worker (runs_at runs' worker) (passes' worker)

    each : (P : ℕ → List Ran → PassView → Type 0) → P own (runs_at was.runs own ++ ran ∷ []) done.pass' →
        ((worker : ℕ) → worker < options.workers → (worker ≡ own → ⊥) → P worker (runs_at was.runs worker) (was.passes worker)) → OfEach P
    each P here others worker below = ⊎_elim
        (λ (same : worker ≡ own). subst (λ (w : ℕ). P w (runs_at runs' w) (passes' w)) (sym same)
        (subst (λ (list : List Ran). P own list (passes' own)) (sym (run_here own ran was.runs within))
        (subst (λ (pass : PassView). P own (runs_at was.runs own ++ ran ∷ []) pass) (sym pass_here) here)))
        (λ (apart : worker ≡ own → ⊥). subst (λ (list : List Ran). P worker list (passes' worker)) (sym (run_else own worker ran was.runs apart))
        (subst (λ (pass : PassView). P worker (runs_at was.runs worker) pass) (sym (pass_else worker apart)) (others worker below apart)))
        (cases_eq worker own)

    mine_then : OfEach (λ worker list pass. IsPassOf count (Worker worker) done.order' pass)
    mine_then = each (λ worker list pass. IsPassOf count (Worker worker) done.order' pass) done.stands.mine
        (λ worker below apart. others_stay count (Worker own) (Worker worker) was.order done.order' (was.passes worker) done.more
        (ne_eqb own worker (λ same. apart (sym same))) (was.mine worker below))

    outside_then : OfEach (λ worker list pass. (shard : ℕ) → shard < count → IsOutsideAt worker pass shard)
    outside_then = each (λ worker list pass. (shard : ℕ) → shard < count → IsOutsideAt worker pass shard) done.outside
        (λ worker below apart. was.outside worker below)

    abbrev IsHandledNow : ℕ → List Ran → PassView → Type 0
    IsHandledNow worker list pass =
        HasHandledIn (IsNewPass worker) (IsRunAt (IsRunOf count plan program worker) records) (share frames options.workers worker (suc number)) list pass
        (turns_of frames options.workers worker (was.parts ++ mine ∷ []))

    handled_own : IsHandledNow own (runs_at was.runs own ++ ran ∷ []) done.pass'
    handled_own =
        let before = was.handled own below_own in
        let run : IsRunAt (IsRunOf count plan program own) records (was.passes own) ran done.pass' =
        record { sent = captured; known = known; run = done.run } in
        subst (λ (list : List TurnDeeds). HasHandledIn (IsNewPass own) (IsRunAt (IsRunOf count plan program own) records)
        (share frames options.workers own (suc number)) (runs_at was.runs own ++ ran ∷ []) done.pass' list)
        (sym (turns_of_more frames options.workers own was.parts mine true (turn_is own ∙ eq-eqb own own refl)))
        (record {
          handled = record {
            records_are = records_push (runs_at was.runs own) ran ∙ ap (λ (list : List ℕ). list ++ number ∷ []) before.handled.records_are
                ∙ sym (share_of_own frames options.workers own number is_long (eq-eqb (worker_of_frame (frame_at frames number) options.workers) own who));
            before = before.handled.before;
            is_new = before.handled.is_new;
            chain = chain_push (IsRunAt (IsRunOf count plan program own) records) before.handled.before (was.passes own) done.pass' (runs_at was.runs own) ran
                before.handled.chain run;
          };
          of_runs = deeds_push (IsRunAt (IsRunOf count plan program own) records) before.handled.before (was.passes own) done.pass' (runs_at was.runs own) ran
              before.handled.chain run (turns_of frames options.workers own was.parts) mine before.of_runs refl
              (pass_more count (Worker own) was.order done.order' (was.passes own) done.pass' done.more (was.mine own below_own) done.stands.mine);
        })

    handled_then : OfEach IsHandledNow
    handled_then = each IsHandledNow handled_own
        (λ worker below apart. subst (λ (numbers : List ℕ). HasHandledIn (IsNewPass worker) (IsRunAt (IsRunOf count plan program worker) records) numbers
        (runs_at was.runs worker) (was.passes worker) (turns_of frames options.workers worker (was.parts ++ mine ∷ [])))
        (sym (share_of_other frames options.workers worker number is_long
        (ne_eqb (worker_of_frame (frame_at frames number) options.workers) worker (λ same. apart (sym same ∙ who)))))
        (subst (λ (list : List TurnDeeds). HasHandledIn (IsNewPass worker) (IsRunAt (IsRunOf count plan program worker) records)
        (share frames options.workers worker number) (runs_at was.runs worker) (was.passes worker) list)
        (sym (turns_of_none frames options.workers worker was.parts mine (turn_is worker ∙ ne_eqb own worker (λ same. apart (sym same)))))
        (was.handled worker below)))

    fate : fate_of frames options.workers runs' number ≡ Some end
    fate = fate_now frames options.workers own number ran was.runs below_own was.lists are is_long who

    same_below : (one : ℕ) → one < number → fate_of frames options.workers runs' one ≡ fate_of frames options.workers was.runs one
    same_below = fates_stay frames options.workers own number ran was.runs below_own was.lists are

    long_turn : after.all.maps ≡ before.all.maps → after.all.options ≡ before.all.options → after.controller ≡ before.controller →
        after.noted ≡ before.noted → after.counts ≡ counted before.counts (Some end) → all_captured after.sent ≡ all_captured before.sent ++ sent_by (Some end) →
        after.ends ≡ before.ends ++ record_end own (Some end) ∷ [] → Stepped (TheRecord number) was.order was.parts (suc number) next rounds after
    long_turn maps opts controller noted counts sent ends = record {
      now = record {
        order = done.order';
        sound = done.stands.sound;
        left = done.stands.left;
        maps = maps ∙ was.maps;
        options_are = opts ∙ was.options_are;
        runs = runs';
        lists = set_count was.runs own _ ∙ was.lists;
        passes = passes';
        mine = mine_then;
        outside = outside_then;
        parts = was.parts ++ mine ∷ [];
        order_is = order_more made was.parts (TheRecord number) (Worker own) was.order done.order' done.more was.order_is;
        handled = handled_then;
        counts = counts ∙ ap (λ (c : Counts). counted c (Some end)) (was.counts ∙ sym (counts_stay frames options.workers was.runs runs' number same_below))
            ∙ ap (λ (one : Option RunEnd). counted (counts_of frames options.workers runs' number) one) (sym fate);
        sent = sent ∙ ap (λ (list : List Captured). list ++ sent_by (Some end)) (was.sent ∙ sym (sent_stays frames options.workers was.runs runs' number same_below))
            ∙ ap (λ (one : Option RunEnd). sent_of frames options.workers runs' number ++ sent_by one) (sym fate);
        ends = ends ∙ ap (λ (list : List ToldEnd). list ++ record_end own (Some end) ∷ [])
            (was.ends ∙ sym (ends_stay frames options.workers was.runs runs' number same_below))
            ∙ ap (λ (worker : ℕ). ends_of frames options.workers runs' number ++ record_end worker (Some end) ∷ []) (sym who)
            ∙ ap (λ (one : Option RunEnd). ends_of frames options.workers runs' number ++
            record_end (worker_of_frame (frame_at frames number) options.workers) one ∷ []) (sym fate);
        controller = was.controller;
        controls = others_stay count (Worker own) Controller was.order done.order' was.controller done.more refl was.controls;
        each_once = ap numbers_of noted ∙ was.each_once;
        commands = was.commands;
        begun = subst (λ (state : ControllerState). IsBegunWith plan program.maps options updates script size after.noted state was.controller next done.order'
            was.commands) (sym controller)
            (subst (λ (list : List Applied). IsBegunWith plan program.maps options updates script size list before.controller was.controller next done.order'
            was.commands) (sym noted)
            (with_grown plan program.maps options updates script size before.noted before.controller was.controller next (Worker own) was.order done.order'
            was.commands done.more was.begun));
        each_part = all_more plan program.maps options count records was.commands was.parts mine was.each_part
            (captured, known, λ short. absurd (true≢false (sym short ∙ long)));
        early = λ less. absurd (omega (arith, less, ready));
        reclaimer = was.reclaimer;
        reclaims = others_stay count (Worker own) Reclaimer was.order done.order' was.reclaimer done.more refl was.reclaims;
        reclaimed = was.reclaimed;
      };
      more = subst (λ (worker : ℕ). IsMoreBy (Worker worker) was.order done.order') (sym who) done.more;
      turns_are = turns_more was.parts mine;
    }

  by_end : (number next rounds : ℕ) (before after : TurnState) (captured : Sent) → (was : Simulated number next rounds before) →
      first_commands script ≤ next → slice_get records number ≡ Some captured → (end : Option RunEnd) →
      IsHandledInTurn program options.workers captured before.all.shards end after.all.shards →
      after.all.maps ≡ before.all.maps → after.all.options ≡ before.all.options → after.controller ≡ before.controller → after.noted ≡ before.noted →
      after.counts ≡ counted before.counts end → all_captured after.sent ≡ all_captured before.sent ++ sent_by end →
      after.ends ≡ before.ends ++ record_end (worker_of_frame captured.bytes.items options.workers) end ∷ [] →
      Stepped (TheRecord number) was.order was.parts (suc number) next rounds after
  by_end number next rounds before after captured was ready known None handled maps opts controller noted counts sent ends =
      short_turn number next rounds before after captured was (record_there records number captured known) handled.short handled.nothing maps opts controller
      noted counts sent ends known
  by_end number next rounds before after captured was ready known (Some end) handled maps opts controller noted counts sent ends =
      long_turn number next rounds before after captured was ready known handled.long end handled.run maps opts controller noted counts sent ends

  record_turn : (number next rounds : ℕ) (before after : TurnState) → (was : Simulated number next rounds before) → first_commands script ≤ next →
      IsRecordTurn program records options.workers number before after → Stepped (TheRecord number) was.order was.parts (suc number) next rounds after
  record_turn number next rounds before after was ready turn =
      by_end number next rounds before after turn.captured was ready turn.known turn.end turn.handled turn.maps turn.options turn.controller turn.noted turn.counts
      turn.sent turn.ends

  -- ---- turn after turn

  abbrev Turned : List Turn → TurnState → TurnState → Type 0
  Turned = AreTurns program script records options.workers

  turns_split : (first second : List Turn) (before after : TurnState) → Turned (first ++ second) before after →
      (middle : TurnState) × Turned first before middle × Turned second middle after
  turns_split [] second before after turns = (before, refl, turns)
  turns_split (turn ∷ first) second before after turns =
      let rest = turns_split first second turns.0 after turns.2 in
      (rest.0, (turns.0, turns.1, rest.1), rest.2)

  -- the order goes through the states
  abbrev Through : (turns : List Turn) (before after : TurnState) → Turned turns before after → List Deed → List Deed → Type 0
  Through = GoesThrough program script records options.workers count

  then_through : (turn : Turn) (later : List Turn) (before after : TurnState) (are : Turned (turn ∷ later) before after) (begun middle order : List Deed) →
      IsMoreBy (actor_of records options.workers turn) begun middle → AreLeftBy plan count middle are.0.all.shards →
      Through later are.0 after are.2 middle order → Through (turn ∷ later) before after are begun order
  then_through turn later before after are begun middle order more left rest = (
    more.deeds,
    more.made_by,
    λ number within. ap (made_on number) (sym more.more) ∙ sym (left.written number within),
    subst (λ (list : List Deed). Through later are.0 after are.2 list order) more.more rest,
  )

  through_both : (first second : List Turn) (before after : TurnState) (are : Turned (first ++ second) before after) (begun middle order : List Deed) →
      Through first before (turns_split first second before after are).0 (turns_split first second before after are).1 begun middle →
      Through second (turns_split first second before after are).0 after (turns_split first second before after are).2 middle order →
      Through (first ++ second) before after are begun order
  unfolding turns_split
  through_both [] second before after are begun middle order same rest =
      subst (λ (list : List Deed). Through second before after are list order) same rest
  through_both (turn ∷ first) second before after are begun middle order one rest = (
    one.0,
    one.1,
    one.2,
    through_both first second are.0 after are.2 (one.0 ++ begun) middle order one.3 rest,
  )

  -- what was done up to the end of some turns, and how it grew
  pub record Went (turns : List Turn) (before after : TurnState) (are : Turned turns before after) (begun : List Deed) (earlier : List TurnDeeds)
      (number next rounds : ℕ) : Type 0 where
    pub now : Simulated number next rounds after
    pub through : Through turns before after are begun now.order
    pub turns_are : turns_done now.parts ≡ turns_done earlier ++ turns

  commands_turned : (count_of : ℕ) (number next rounds : ℕ) (before after : TurnState) → (was : Simulated number next rounds before) →
      (turns : Turned (map (λ (one : ℕ). TheCommand one) (numbers_from next count_of)) before after) →
      Went (map (λ (one : ℕ). TheCommand one) (numbers_from next count_of)) before after turns was.order was.parts number (next + count_of) rounds
  commands_turned zero number next rounds before after was turns =
      subst (λ (n : ℕ). Went [] before after turns was.order was.parts number n rounds) (omega arith)
      (record { now = at_same number next rounds before after turns was; through = refl; turns_are = no_turns was.parts })
  commands_turned (suc count_of) number next rounds before after was turns =
      let one = command_turn number next rounds before turns.0 was turns.1 in
      let rest = commands_turned count_of number (next + 1) rounds turns.0 after one.now turns.2 in
      subst (λ (n : ℕ). Went (map (λ (one : ℕ). TheCommand one) (numbers_from next (suc count_of))) before after turns was.order was.parts number n rounds) (omega arith)
      (record {
        now = rest.now;
        through = then_through (TheCommand next) (map (λ (one : ℕ). TheCommand one) (numbers_from (next + 1) count_of)) before after turns was.order
            one.now.order rest.now.order one.more one.now.left rest.through;
        turns_are = then_turns (TheCommand next) (map (λ (one : ℕ). TheCommand one) (numbers_from (next + 1) count_of)) was.parts one.now.parts rest.now.parts
            one.turns_are rest.turns_are;
      })

  between_turned : (number from end rounds : ℕ) (before after : TurnState) → from ≤ end → (was : Simulated number from rounds before) →
      (turns : Turned (commands_between from end) before after) → Went (commands_between from end) before after turns was.order was.parts number end rounds
  between_turned number from end rounds before after up was turns =
      subst (λ (n : ℕ). Went (commands_between from end) before after turns was.order was.parts number n rounds) (omega (arith, up))
      (commands_turned (end - from) number from rounds before after was turns)

  round_over : (number : ℕ) → (suc number % 64 == 0) ≡ true → number / 64 + 1 ≡ suc number / 64
  round_over number is =
      let whole : suc number % 64 ≡ 0 = grind (arith, nat_tests) in
      let now = div-add-mod (suc number) 64 in
      let earlier = div-add-mod number 64 in
      let less = mod-lt number {m = 64} (omega arith) in
      omega (arith, whole, now, earlier, less)

  round_on : (number : ℕ) → (suc number % 64 == 0) ≡ false → number / 64 ≡ suc number / 64
  round_on number is =
      let some : 0 < suc number % 64 = grind (arith, nat_tests) in
      let now = div-add-mod (suc number) 64 in
      let earlier = div-add-mod number 64 in
      let more = mod-lt (suc number) {m = 64} (omega arith) in
      let less = mod-lt number {m = 64} (omega arith) in
      omega (arith, some, now, earlier, less, more)

  round_turned : (number next : ℕ) (before after : TurnState) → (was : Simulated (suc number) next (number / 64) before) → first_commands script ≤ next →
      (turns : Turned (rounds_at (suc number)) before after) → Went (rounds_at (suc number)) before after turns was.order was.parts (suc number) next (suc number / 64)
  round_turned number next before after was ready turns = by_test (suc number % 64 == 0) refl turns
    where
      by_test : (due : Bool) → (suc number % 64 == 0) ≡ due → (turns : Turned (if due then TheRound ∷ [] else []) before after) →
          Went (if due then TheRound ∷ [] else []) before after turns was.order was.parts (suc number) next (suc number / 64)
      by_test true is one =
          let done = round_turn (suc number) next (number / 64) before one.0 was ready one.1 in
          let now = at_same (suc number) next (number / 64 + 1) one.0 after one.2 done.now in
          subst (λ (n : ℕ). Went (TheRound ∷ []) before after one was.order was.parts (suc number) next n) (round_over number is)
          (record { now = now; through = then_through TheRound [] before after one was.order done.now.order done.now.order done.more done.now.left refl; turns_are = done.turns_are })
      by_test false is none =
          subst (λ (n : ℕ). Went [] before after none was.order was.parts (suc number) next n) (round_on number is)
          (record { now = at_same (suc number) next (number / 64) before after none was; through = refl; turns_are = no_turns was.parts })

  -- ---- which commands are due

  due_within : (starts : List ℕ) (number : ℕ) → due_to starts number ≤ length starts
  due_within [] number = omega arith
  due_within (start ∷ later) number = by_test (nat_lt number start) (due_within later number)
    where
      by_test : (early : Bool) → due_to later number ≤ length later → (if early then 0 else suc (due_to later number)) ≤ length (start ∷ later)
      by_test true rest = omega arith
      by_test false rest = omega (arith, rest)

  due_grows : (starts : List ℕ) (number : ℕ) → due_to starts number ≤ due_to starts (suc number)
  due_grows [] number = omega arith
  due_grows (start ∷ later) number = by_tests (nat_lt number start) (nat_lt (suc number) start) refl refl (due_grows later number)
    where
      by_tests : (early still : Bool) → nat_lt number start ≡ early → nat_lt (suc number) start ≡ still → due_to later number ≤ due_to later (suc number) →
          (if early then 0 else suc (due_to later number)) ≤ (if still then 0 else suc (due_to later (suc number)))
      by_tests true still is next rest = omega arith
      by_tests false true is next rest = absurd (let past : start ≤ number = grind (arith, nat_tests) in let before : suc number < start = grind (arith, nat_tests) in omega (arith, past, before))
      by_tests false false is next rest = omega (arith, rest)

  before_within : (starts : List ℕ) (number : ℕ) → due_before starts number ≤ length starts
  before_within starts zero = omega arith
  before_within starts (suc number) = due_within starts number

  due_after : (starts : List ℕ) (number : ℕ) → due_before starts number ≤ due_to starts number
  due_after starts zero = omega arith
  due_after starts (suc number) = due_grows starts number

  due_later : (starts : List ℕ) (number : ℕ) → due_to starts 0 ≤ due_to starts number
  due_later starts zero = omega arith
  due_later starts (suc number) = (let earlier = due_later starts number in let more = due_grows starts number in omega (arith, earlier, more))

  -- ---- all of them

  abbrev turns_of_record : List ℕ → ℕ → List Turn
  turns_of_record starts number =
      commands_between (due_before starts number) (due_to starts number) ++ TheRecord number ∷ rounds_at (suc number)

  -- the turns from one record to the next
  one_more : (starts : List ℕ) (number : ℕ) (before after : TurnState) → (was : Simulated number (due_before starts number) (number / 64) before) →
      first_commands script ≡ due_to starts 0 → (turns : Turned (turns_of_record starts number) before after) →
      Went (turns_of_record starts number) before after turns was.order was.parts (suc number) (due_to starts number) (suc number / 64)
  one_more starts number before after was first_are turns =
      let ready : first_commands script ≤ due_to starts number = (let later = due_later starts number in omega (arith, later, first_are)) in
      let commands = commands_between (due_before starts number) (due_to starts number) in
      let due = turns_split commands (TheRecord number ∷ rounds_at (suc number)) before after turns in
      let commanded = between_turned number (due_before starts number) (due_to starts number) (number / 64) before due.0 (due_after starts number) was due.1 in
      let ran = record_turn number (due_to starts number) (number / 64) due.0 due.2.0 commanded.now ready due.2.1 in
      let rest = round_turned number (due_to starts number) due.2.0 after ran.now ready due.2.2 in
      record {
        now = rest.now;
        through = through_both commands (TheRecord number ∷ rounds_at (suc number)) before after turns was.order commanded.now.order rest.now.order
            commanded.through
            (then_through (TheRecord number) (rounds_at (suc number)) due.0 after due.2 commanded.now.order ran.now.order rest.now.order ran.more ran.now.left
            rest.through);
        turns_are = both_turns commands (TheRecord number ∷ rounds_at (suc number)) was.parts commanded.now.parts rest.now.parts commanded.turns_are
            (then_turns (TheRecord number) (rounds_at (suc number)) commanded.now.parts ran.now.parts rest.now.parts ran.turns_are rest.turns_are);
      }

  records_turned : (starts : List ℕ) (number : ℕ) (first after : TurnState) → (was : Simulated 0 0 0 first) → first_commands script ≡ due_to starts 0 →
      (turns : Turned (turns_to starts number) first after) →
      Went (turns_to starts number) first after turns was.order was.parts number (due_before starts number) (number / 64)
  records_turned starts zero first after was first_are turns = record { now = at_same 0 0 0 first after turns was; through = refl; turns_are = no_turns was.parts }
  records_turned starts (suc number) first after was first_are turns =
      let parts = turns_split (turns_to starts number) (turns_of_record starts number) first after turns in
      let earlier = records_turned starts number first parts.0 was first_are parts.1 in
      let rest = one_more starts number parts.0 after earlier.now first_are parts.2 in
      record {
        now = rest.now;
        through = through_both (turns_to starts number) (turns_of_record starts number) first after turns was.order earlier.now.order rest.now.order
            earlier.through rest.through;
        turns_are = both_turns (turns_to starts number) (turns_of_record starts number) was.parts earlier.now.parts rest.now.parts earlier.turns_are rest.turns_are;
      }

  -- and behind them nobody does anything more
  pub record AllWent (starts : List ℕ) (number : ℕ) (first after : TurnState) (turns : Turned (all_turns starts number) first after) (begun : List Deed)
      (earlier : List TurnDeeds) : Type 0
    where
      pub went : Went (all_turns starts number) first after turns begun earlier number (length starts) (number / 64 + 1)
      pub closes : EndsWithRound plan count went.now.order

  pub all_turned : (starts : List ℕ) (number : ℕ) (first after : TurnState) → (was : Simulated 0 0 0 first) → first_commands script ≡ due_to starts 0 →
      (turns : Turned (all_turns starts number) first after) → AllWent starts number first after turns was.order was.parts
  all_turned starts number first after was first_are turns =
      let commands = commands_between (due_before starts number) (length starts) in
      let parts = turns_split (turns_to starts number) (commands ++ TheRound ∷ []) first after turns in
      let earlier = records_turned starts number first parts.0 was first_are parts.1 in
      let left = turns_split commands (TheRound ∷ []) parts.0 after parts.2 in
      let commanded = between_turned number (due_before starts number) (length starts) (number / 64) parts.0 left.0 (before_within starts number) earlier.now left.1 in
      let ready : first_commands script ≤ length starts = (let within = due_within starts 0 in omega (arith, within, first_are)) in
      let done = round_turn number (length starts) (number / 64) left.0 left.2.0 commanded.now ready left.2.1 in
      let last = at_same number (length starts) (number / 64 + 1) left.2.0 after left.2.2 done.now in
      record {
        went = record {
          now = last;
          through = through_both (turns_to starts number) (commands ++ TheRound ∷ []) first after turns was.order earlier.now.order last.order earlier.through
              (through_both commands (TheRound ∷ []) parts.0 after parts.2 earlier.now.order commanded.now.order last.order commanded.through
              (then_through TheRound [] left.0 after left.2 commanded.now.order done.now.order last.order done.more done.now.left refl));
          turns_are = both_turns (turns_to starts number) (commands ++ TheRound ∷ []) was.parts earlier.now.parts last.parts earlier.turns_are
              (both_turns commands (TheRound ∷ []) earlier.now.parts commanded.now.parts last.parts commanded.turns_are done.turns_are);
        };
        closes = closes plan count done.now.order done.more.deeds commanded.now.order done.now.reclaimer.deeds done.more.more
            (all_own Reclaimer done.more.deeds done.more.made_by) done.now.reclaims.did
            (subst (λ (l : List Deed). HasMadeRound plan count l done.now.reclaimer.deeds) commanded.now.reclaims.did
            (round_did number (length starts) (number / 64) left.0 left.2.0 commanded.now ready left.2.1));
      }
