-- What a run over shards comes to, from what its calls ensure.
use Rattle.std.proofs.Common.{◌≡◌, inl, inr, ⊎_elim, ℕ, ◌<◌, List, [], ◌∷◌, length, reverse, Option, Some, sym, subst, ◌∙◌, ap}
use Rattle.std.specs.Prelude.{IsFalse, slice_get}
use Rattle.std.proofs.lemmas.List.{length-set}
use Rattle.std.proofs.lemmas.Option.{slice_get_within}
use Rattle.wire.specs.FrameView.{FrameView}
use Rattle.semantics.specs.declared.call.Call.{Call}
use Rattle.semantics.specs.declared.call.Reply.{Reply}
use Rattle.semantics.specs.History.{shard_of_call, IsJournalFull}
use Rattle.semantics.specs.declared.options.Options.{Options}
use Rattle.semantics.specs.declared.verdict.Verdict.{Verdict}
use Rattle.verifier.specs.Verified.{Verified}
use Rattle.shard_core.specs.JournaledShard.{JournaledShard}
use Rattle.map_port.specs.Exchanges.{Exchange, IsChain}
use Rattle.map_port.specs.Served.{Maps, program_over}
use Rattle.ebpf_decode.specs.declared.map.MapDef.{MapDef}
use Rattle.semantics.specs.Program.{Program}
use Rattle.semantics.specs.RunTrace.{IsReplyTo}
use Rattle.shard_port.specs.PassSessions.{AreCallsWithin}
use Rattle.runs.specs.FrameRuns.{AreFormed}
use Rattle.shard_port.specs.Asking.{is_in, can_enter, entered, all_left, enter_by, leave_by, CannotEnter, CannotCall}
use Rattle.shard_port.specs.declared.plain.PlainPort.{PlainPort}
use Rattle.shard_port.specs.PlainPorts.{PortGives, PortRefuses, maps_of}
use Rattle.shard_port.specs.Sessions.{WritesSessions, WritesRefusedSessions, StaysOnePort, IsOutsideAll, LeavesOthersAlone, IsVisited, with_entries, behind_enter, session, exchange_entries}
use Rattle.machine.specs.declared.exit.Stop.{Stop}
use Rattle.machine.specs.declared.exit.Stop.TheVariants.{JournalFull}
use Rattle.machine.specs.Running.{program_of, Ends, Stops, StopsSo}
use Rattle.guarantees.specs.Runs.{IsOutside, Start, state_at, IsStoppedBeginning, IsPortOver, IsFinished, RanOver, AreExchangesWritten, AreWrittenBut}
use Rattle.guarantees.specs.Runs.{WasFullForCall, IsTheMeaning}
use Rattle.guarantees.specs.Guarantees.{RunsAreTheirMeaning, StoppedRunsAreBeginnings, RunsLeaveOthersAlone}
use Rattle.guarantees.proofs.JournalLemmas.{are_legal}

-- a worker that is outside the shards is outside those of its port
outside_at : (worker : ℕ) (maps : List MapDef) (options : Options) (shards : List JournaledShard) (port : PlainPort) → IsPortOver maps options worker shards port →
    IsOutside worker shards → IsOutside port.worker port.shards.now
outside_at worker maps options shards port over outside =
    subst (λ number. IsOutside number port.shards.now) (sym over.same_worker) (subst (IsOutside worker) (sym over.same_shards) outside)

-- after `finish` the worker is outside
left_outside : IsOutsideAll → (worker : ℕ) (options : Options) (port : PlainPort) (after : List JournaledShard) → port.worker ≡ worker →
    IsFinished options port after → IsOutside worker after
left_outside outside worker options port after same finished = λ number shard known.
    subst (λ one. IsFalse (is_in one shard)) same
    (outside port.worker port.shards.now number shard (subst (λ (shards : List JournaledShard). slice_get shards number ≡ Some shard)
    finished.left known))

written_by : WritesSessions → (worker : ℕ) (maps : List MapDef) (options : Options) (before after : List JournaledShard) (port later : PlainPort)
    (exchanges : List Exchange) → IsPortOver maps options worker before port → IsChain PortGives port exchanges later →
    IsFinished options later after → IsOutside worker before → AreExchangesWritten worker exchanges before after
written_by writes worker maps options before after port later exchanges over chain finished outside number shard known =
    let there : slice_get port.shards.now number ≡ Some shard =
    subst (λ (shards : List JournaledShard). slice_get shards number ≡ Some shard) (sym over.same_shards) known in
    let of_port : slice_get (all_left later.worker later.shards.now) number ≡ Some
    (with_entries shard (session port.worker shard.plan.number (exchange_entries port.worker number exchanges))) =
    (writes port later exchanges chain number shard there (outside_at worker maps options before port over outside number shard there)).1 in
    ap (λ (shards : List JournaledShard). slice_get shards number) finished.left ∙ of_port
    ∙ ap (λ one. Some (with_entries shard (session one shard.plan.number (exchange_entries one number exchanges)))) over.same_worker

-- calls leave as many shards as there were
as_many : (one two : PlainPort) (call : Call) (reply : Reply) → PortGives one call reply two → length two.shards.now ≡ length one.shards.now
as_many one two call reply given =
    ap (λ (shards : List JournaledShard). length shards) given.given.answered.put_back
    ∙ length-set one.shards.now (shard_of_call call) given.given.answered.new

-- each call is on one of the shards
within_by : (count : ℕ) (before after : PlainPort) (exchanges : List Exchange) → IsChain PortGives before exchanges after →
    length before.shards.now ≡ count → AreCallsWithin count exchanges
within_by count before after [] chain many = tt
within_by count before after (exchange ∷ later) chain many = (
  subst (λ (n : ℕ). shard_of_call exchange.call < n) many
      (slice_get_within before.shards.now (shard_of_call exchange.call) chain.1.given.answered.shard chain.1.given.answered.known),
  within_by count chain.0 after later chain.2 (as_many before chain.0 exchange.call exchange.reply chain.1 ∙ many),
)

-- what calls see of a program
abbrev maps_in : Program → Maps
maps_in program = record { maps = program.maps; shards = program.shards }

-- and each reply has its call's form
formed_by : (program : Program) (before after : PlainPort) (exchanges : List Exchange) → IsChain PortGives before exchanges after →
    maps_of before ≡ maps_in program → AreFormed program exchanges
formed_by program before after [] chain same = tt
formed_by program before after (exchange ∷ later) chain same = (
  form_of program exchange.call exchange.reply
      (subst (λ (served : Maps). IsReplyTo (program_over served) exchange.call exchange.reply) same chain.1.given.formed),
  formed_by program chain.0 after later chain.2 (stays_over before chain.0 exchange.call exchange.reply chain.1 ∙ same),
)
  where
    form_of : (program : Program) (call : Call) (reply : Reply) → IsReplyTo (program_over (maps_in program)) call reply → IsReplyTo program call reply
    form_of program call reply formed = formed

    stays_over : (one two : PlainPort) (call : Call) (reply : Reply) → PortGives one call reply two → maps_of two ≡ maps_of one
    stays_over one two call reply given = given.given.same_maps

served_by : (verified : Verified) (options : Options) (worker : ℕ) (before : List JournaledShard) (port : PlainPort) →
    IsPortOver verified.maps options worker before port → maps_of port ≡ maps_in (program_of verified options.shards)
served_by verified options worker before port over =
    ap (λ (one : Options). record { maps = port.image.now.maps; shards = one.shards }) over.same_options
    ∙ ap (λ (maps : List MapDef). record { maps = maps; shards = options.shards }) over.same_maps

pub run_is_meaning : WritesSessions → StaysOnePort → IsOutsideAll → RunsAreTheirMeaning
run_is_meaning writes stays leaves verified options start before after verdict steps frame outside ran = record {
  exchanges = ran.ended.exchanges;
  last = ran.ended.last;
  trace = ran.ended.trace;
  formed = formed_by (program_of verified options.shards) ran.port ran.later ran.ended.exchanges ran.ended.chain
      (served_by verified options start.worker before ran.port ran.over);
  within = within_by (length before) ran.port ran.later ran.ended.exchanges ran.ended.chain
      (ap (λ (shards : List JournaledShard). length shards) ran.over.same_shards);
  counted = ran.ended.steps_done;
  bounded = ran.ended.bounded;
  sent = ran.ended.frame_left;
  written = written_by writes start.worker verified.maps options before after ran.port ran.later ran.ended.exchanges ran.over ran.ended.chain ran.finished
      outside;
  legal = are_legal ran.later.image.now.maps ran.later.options after ran.finished.serve;
  outside = left_outside leaves start.worker options ran.later after
      ((stays ran.port ran.later ran.ended.exchanges ran.ended.chain).same_worker ∙ ran.over.same_worker) ran.finished;
}

written_but : WritesRefusedSessions → (worker : ℕ) (maps : List MapDef) (options : Options) (before after : List JournaledShard) (port middle later : PlainPort)
    (exchanges : List Exchange) (call : Call) → IsPortOver maps options worker before port → IsChain PortGives port exchanges middle →
    PortRefuses middle call later → IsFinished options later after → IsOutside worker before →
    AreWrittenBut call worker exchanges before after
written_but writes worker maps options before after port middle later exchanges call over chain refuses finished outside number shard known =
    let there : slice_get port.shards.now number ≡ Some shard =
    subst (λ (shards : List JournaledShard). slice_get shards number ≡ Some shard) (sym over.same_shards) known in
    let of_port = writes port middle later exchanges call chain refuses number shard there
    (outside_at worker maps options before port over outside number shard there) in
    let here : slice_get after number ≡ slice_get (all_left later.worker later.shards.now) number =
    ap (λ (shards : List JournaledShard). slice_get shards number) finished.left in
    ⊎_elim
    (λ (same : slice_get (all_left later.worker later.shards.now) number ≡ Some
    (with_entries shard (session port.worker shard.plan.number (exchange_entries port.worker number exchanges)))).
    inl (here ∙ same ∙ ap (λ one. Some (with_entries shard (session one shard.plan.number (exchange_entries one number exchanges))))
    over.same_worker))
    (λ (visited : IsVisited port.worker later number shard (exchange_entries port.worker number exchanges) call).
    inr (
      visited.own,
      ap (λ one. exchange_entries one number exchanges) (sym over.same_worker) ∙ visited.first_call,
      here ∙ visited.finished ∙ ap (λ one. Some
          (with_entries shard (enter_by one shard.plan.number ∷ leave_by one shard.plan.number ∷ []))) over.same_worker,
    ))
    of_port

chain_count : (before after : PlainPort) (exchanges : List Exchange) → IsChain PortGives before exchanges after →
    length after.shards.now ≡ length before.shards.now
chain_count before after [] chain = ap (λ (port : PlainPort). length port.shards.now) (sym chain)
chain_count before after (exchange ∷ later) chain =
    chain_count chain.0 after later chain.2 ∙ as_many before chain.0 exchange.call exchange.reply chain.1

same_found : (found : Option JournaledShard) (one two : JournaledShard) → found ≡ Some one → found ≡ Some two → one ≡ two
same_found found one two first second = cc (first, second)

-- the shard that refused a call was full for it, or for the Enter before it
was_full : WritesSessions → (worker : ℕ) (maps : List MapDef) (options : Options) (before : List JournaledShard) (port middle later : PlainPort) (exchanges : List Exchange)
    (call : Call) → IsPortOver maps options worker before port → IsChain PortGives port exchanges middle → middle.worker ≡ worker →
    PortRefuses middle call later → IsOutside worker before → (one : JournaledShard) → slice_get before (shard_of_call call) ≡ Some one →
    WasFullForCall call worker exchanges one
was_full writes worker maps options before port middle later exchanges call over chain same refuses outside one known =
    let number : ℕ = shard_of_call call in
    let there : slice_get port.shards.now number ≡ Some one =
    subst (λ (shards : List JournaledShard). slice_get shards number ≡ Some one) (sym over.same_shards) known in
    let of_port : slice_get middle.shards.now number ≡ Some
    (with_entries one (behind_enter port.worker one.plan.number (exchange_entries port.worker number exchanges))) =
    (writes port middle exchanges chain number one there (outside_at worker maps options before port over outside number one there)).0 in
    let here : JournaledShard = with_entries one (behind_enter worker one.plan.number (exchange_entries worker number exchanges)) in
    let now : slice_get middle.shards.now number ≡ Some here =
    of_port ∙ ap (λ (n : ℕ). Some (with_entries one (behind_enter n one.plan.number (exchange_entries n number exchanges)))) over.same_worker in
    let away = refuses.refused.turned_away in
    let is : away.shard ≡ here = same_found _ _ _ away.known now in
    ⊎_elim
    (λ (out : CannotEnter middle.worker away.shard away.new). inl (subst (λ (n : ℕ). IsFalse (can_enter n here)) same
    (subst (λ (s : JournaledShard). IsFalse (can_enter middle.worker s)) is out.full)))
    (λ (out : CannotCall middle.worker away.shard call away.new). inr
    (subst (λ (n : ℕ). IsJournalFull here.plan (reverse (entered n here).journal) call) same
    (subst (λ (s : JournaledShard). IsJournalFull s.plan (reverse (entered middle.worker s).journal) call) is out.full)))
    away.turned_away

pub stopped_is_beginning : WritesSessions → WritesRefusedSessions → StaysOnePort → IsOutsideAll → StoppedRunsAreBeginnings
stopped_is_beginning sessions writes stays leaves verified options start before after shard frame outside was =
    let stopped = was.stopped in
    let same : was.later.worker ≡ start.worker =
    stopped.refused.same_port.same_worker ∙ (stays was.port stopped.middle stopped.exchanges stopped.chain).same_worker ∙
    was.over.same_worker in
    let of_middle : stopped.middle.worker ≡ start.worker =
    (stays was.port stopped.middle stopped.exchanges stopped.chain).same_worker ∙ was.over.same_worker in
    let away = stopped.refused.refused.turned_away in
    let count : length stopped.middle.shards.now ≡ length before =
    chain_count was.port stopped.middle stopped.exchanges stopped.chain ∙ ap (λ (shards : List JournaledShard). length shards) was.over.same_shards in
    record {
      exchanges = stopped.exchanges;
      refused = stopped.call;
      named = stopped.names_the_shard;
      waiting = stopped.waiting;
      trace = stopped.trace;
      formed = formed_by (program_of verified options.shards) was.port stopped.middle stopped.exchanges stopped.chain
          (served_by verified options start.worker before was.port was.over);
      within = within_by (length before) was.port stopped.middle stopped.exchanges stopped.chain
          (ap (λ (shards : List JournaledShard). length shards) was.over.same_shards);
      kept_back = stopped.frame_left;
      refused_within = subst (λ (n : ℕ). n < length before) (sym stopped.names_the_shard)
          (subst (λ (n : ℕ). shard_of_call stopped.call < n) count
          (slice_get_within stopped.middle.shards.now (shard_of_call stopped.call) away.shard away.known));
      full = λ one known. was_full sessions start.worker verified.maps options before was.port stopped.middle was.later stopped.exchanges stopped.call was.over
          stopped.chain of_middle stopped.refused outside one
          (subst (λ (n : ℕ). slice_get before n ≡ Some one) stopped.names_the_shard known);
      written = written_but writes start.worker verified.maps options before after was.port stopped.middle was.later stopped.exchanges stopped.call
          was.over stopped.chain stopped.refused was.finished outside;
      legal = are_legal was.later.image.now.maps was.later.options after was.finished.serve;
      outside = left_outside leaves start.worker options was.later after same was.finished;
    }

pub others_alone : RunsAreTheirMeaning → LeavesOthersAlone → RunsLeaveOthersAlone
others_alone runs leaves verified options start before after verdict steps frame outside ran other number old new differ known found =
    let meaning = runs verified options start before after verdict steps frame outside ran in
    let written : slice_get after number ≡ Some
    (with_entries old (session start.worker old.plan.number (exchange_entries start.worker number meaning.exchanges))) =
    meaning.written number old known in
    let same : new ≡ with_entries old (session start.worker old.plan.number (exchange_entries start.worker number meaning.exchanges)) =
    cc (written, found) in
    ap (is_in other) same ∙ leaves start.worker other number old meaning.exchanges differ

-- ---- by what one run's calls ensure

ran_record : (verified : Verified) (options : Options) (start : Start) (before after : List JournaledShard) (port later : PlainPort)
    (verdict : Verdict) (steps : ℕ) (frame : FrameView) →
    IsPortOver verified.maps options start.worker before port →
    Ends PortGives (program_of verified port.options.shards) (state_at start) port later verdict steps frame →
    IsFinished options later after →
    RanOver verified options start before after verdict steps frame
ran_record verified options start before after port later verdict steps frame over ended finished = record {
  port = port;
  over = over;
  later = later;
  ended = subst (λ (one : Options). Ends PortGives (program_of verified one.shards) (state_at start) port later verdict steps frame)
      over.same_options ended;
  finished = finished;
}

pub ran_so : RunsAreTheirMeaning → (verified : Verified) (options : Options) (start : Start) (before after : List JournaledShard)
    (port later : PlainPort) (verdict : Verdict) (steps : ℕ) (frame : FrameView) →
    IsOutside start.worker before → IsPortOver verified.maps options start.worker before port →
    Ends PortGives (program_of verified port.options.shards) (state_at start) port later verdict steps frame →
    IsFinished options later after →
    IsTheMeaning (program_of verified options.shards) start before after verdict steps frame
ran_so runs verified options start before after port later verdict steps frame outside over ended finished =
    runs verified options start before after verdict steps frame outside
    (ran_record verified options start before after port later verdict steps frame over ended finished)

pub stopped_so : StoppedRunsAreBeginnings → (verified : Verified) (options : Options) (start : Start) (before after : List JournaledShard)
    (port later : PlainPort) (stop : Stop) (frame : FrameView) →
    IsOutside start.worker before → IsPortOver verified.maps options start.worker before port →
    StopsSo PortGives PortRefuses (program_of verified port.options.shards) (state_at start) port later frame stop →
    IsFinished options later after →
    IsStoppedBeginning (program_of verified options.shards) start before after frame stop
stopped_so runs verified options start before after port later (JournalFull shard) frame outside over stopped finished =
    runs verified options start before after shard frame outside (record {
      port = port;
      over = over;
      later = later;
      stopped = subst (λ (one : Options). Stops PortGives PortRefuses (program_of verified one.shards) (state_at start) port later frame
          shard) over.same_options stopped;
      finished = finished;
    })
