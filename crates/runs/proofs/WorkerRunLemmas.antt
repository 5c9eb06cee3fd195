-- What a run by a pass comes to, from what its calls ensure.
use Rattle.std.proofs.Common.{◌≡◌, ℕ, ◌<◌, List, [], ◌∷◌, sym, ◌∙◌, ap, subst, suc, ◌+◌, ◌%◌, ◌^◌, length, arith}
use Rattle.std.specs.Prelude.{Result, Ok, Err, IfOk, IfErr}
use Rattle.wire.specs.FrameView.{FrameView}
use Rattle.ebpf_decode.specs.declared.map.MapDef.{MapDef}
use Rattle.semantics.specs.declared.plan.ShardPlan.{ShardPlan}
use Rattle.semantics.specs.declared.call.Caller.TheVariants.{Worker}
use Rattle.semantics.specs.declared.call.Call.{Call}
use Rattle.semantics.specs.declared.call.Reply.{Reply}
use Rattle.semantics.specs.declared.verdict.Verdict.{Verdict}
use Rattle.semantics.specs.MachineState.{MachineState}
use Rattle.semantics.specs.Program.{Program}
use Rattle.semantics.specs.RunTrace.{IsReplyTo}
use Rattle.map_port.specs.Served.{Maps, program_over}
use Rattle.map_port.specs.Exchanges.{Exchange, IsChain}
use Rattle.machine.specs.declared.exit.Exit.{Exit}
use Rattle.machine.specs.declared.exit.Stop.{Stop}
use Rattle.machine.specs.declared.exit.Stop.TheVariants.{JournalFull}
use Rattle.machine.specs.Running.{Ends, StopsSo}
use Rattle.shards.specs.Passes.{PassView}
use Rattle.shard_port.specs.PassPorts.{PassPort, PassGives, PassRefuses, IsFinishedBy}
use Rattle.shard_port.specs.PassSessions.{HasSessions, HasRefusedSessions, IsOutsideAt, WritesOwnSessions, WritesRefusedOwnSessions}
use Rattle.shard_port.proofs.shared.Chains.{chain_of, chain_keeps}
use Rattle.runs.specs.FrameRuns.{AreFormed, HasRun, HasStopped, ToldPort, IsGivenTold, IsRefusedUntold, HasRunTold, HasStoppedTold}
use Rattle.std.proofs.Math.Nat.{mod-lt, mod-eq_of_lt, mod-add-mod}

-- ---- the port, as contracts see it

pub ends_seen : {P Q : Type 0} (before after : P) (view : P → Q) (gives : P → Call → Reply → P → Type 0) (shows : Q → Call → Reply → Q → Type 0) →
    ((one two : P) (call : Call) (reply : Reply) → gives one call reply two → shows (view one) call reply (view two)) →
    (program : Program) (state : MachineState) (verdict : Verdict) (steps : ℕ) (frame : FrameView) →
    Ends gives program state before after verdict steps frame → Ends shows program state (view before) (view after) verdict steps frame
ends_seen before after view gives shows step program state verdict steps frame ends = record {
  exchanges = ends.exchanges;
  chain = chain_of view gives shows step before after ends.exchanges ends.chain;
  last = ends.last;
  trace = ends.trace;
  steps_done = ends.steps_done;
  bounded = ends.bounded;
  frame_left = ends.frame_left;
}

pub stops_seen : {P Q : Type 0} (before after : P) (view : P → Q) (gives : P → Call → Reply → P → Type 0)
    (refuses : P → Call → P → Type 0) (shows : Q → Call → Reply → Q → Type 0) (denies : Q → Call → Q → Type 0) →
    ((one two : P) (call : Call) (reply : Reply) → gives one call reply two → shows (view one) call reply (view two)) →
    ((one two : P) (call : Call) → refuses one call two → denies (view one) call (view two)) →
    (program : Program) (state : MachineState) (frame : FrameView) (stop : Stop) →
    StopsSo gives refuses program state before after frame stop →
    StopsSo shows denies program state (view before) (view after) frame stop
stops_seen before after view gives refuses shows denies step last program state frame (JournalFull shard) stops = record {
  exchanges = stops.exchanges;
  middle = view stops.middle;
  chain = chain_of view gives shows step before stops.middle stops.exchanges stops.chain;
  call = stops.call;
  refused = last stops.middle after stops.call stops.refused;
  waiting = stops.waiting;
  trace = stops.trace;
  names_the_shard = stops.names_the_shard;
  frame_left = stops.frame_left;
}

-- what each call and each refusal keeps, a run keeps
stop_keeps : {P A : Type 0} (before after : P) (part : P → A) (gives : P → Call → Reply → P → Type 0) (refuses : P → Call → P → Type 0) →
    ((one two : P) (call : Call) (reply : Reply) → gives one call reply two → part two ≡ part one) →
    ((one two : P) (call : Call) → refuses one call two → part two ≡ part one) → (program : Program) (state : MachineState)
    (frame : FrameView) (stop : Stop) → StopsSo gives refuses program state before after frame stop → part after ≡ part before
stop_keeps before after part gives refuses step last program state frame (JournalFull shard) stops =
    last stops.middle after stops.call stops.refused ∙ chain_keeps part gives step before stops.middle stops.exchanges stops.chain

pub run_keeps : {P A : Type 0} (before after : P) (part : P → A) (gives : P → Call → Reply → P → Type 0) (refuses : P → Call → P → Type 0) →
    ((one two : P) (call : Call) (reply : Reply) → gives one call reply two → part two ≡ part one) →
    ((one two : P) (call : Call) → refuses one call two → part two ≡ part one) → (program : Program) (state : MachineState)
    (frame : FrameView) (result : Result Exit Stop) →
    IfOk result (λ (exit : Exit). Ends gives program state before after exit.verdict exit.steps frame) →
    IfErr result (λ (stop : Stop). StopsSo gives refuses program state before after frame stop) → part after ≡ part before
run_keeps before after part gives refuses step last program state frame (Ok exit) ends stops =
    chain_keeps part gives step before after ends.exchanges ends.chain
run_keeps before after part gives refuses step last program state frame (Err stop) ends stops =
    stop_keeps before after part gives refuses step last program state frame stop stops

-- ---- the form of the replies

abbrev pub maps_over : List MapDef → ℕ → Maps
maps_over maps shards = record { maps = maps; shards = shards }

-- what calls see of a program
abbrev pub maps_in : Program → Maps
maps_in program = maps_over program.maps program.shards

form_of : (program : Program) (call : Call) (reply : Reply) → IsReplyTo (program_over (maps_in program)) call reply → IsReplyTo program call reply
form_of program call reply formed = formed

formed_by_chain : (program : Program) (plan : ℕ → ShardPlan) (count : ℕ) (before after : PassPort) (exchanges : List Exchange) →
    before.served ≡ maps_in program → IsChain (PassGives plan count) before exchanges after → AreFormed program exchanges
formed_by_chain program plan count before after [] same chain = tt
formed_by_chain program plan count before after (exchange ∷ later) same chain = (
  form_of program exchange.call exchange.reply
      (subst (λ (served : Maps). IsReplyTo (program_over served) exchange.call exchange.reply) same chain.1.formed),
  formed_by_chain program plan count chain.0 after later (chain.1.same_maps ∙ same) chain.2,
)

-- ---- from pass to pass

pub ran_so : WritesOwnSessions → (plan : ℕ → ShardPlan) (count worker : ℕ) (program : Program) (state : MachineState)
    (old final : PassView) (before after : PassPort) (verdict : Verdict) (steps : ℕ) (frame : FrameView) → before.pass ≡ old →
    before.served ≡ maps_in program → old.who ≡ Worker worker → ((number : ℕ) → number < count → IsOutsideAt worker old number) →
    Ends (PassGives plan count) program state before after verdict steps frame → IsFinishedBy plan count after.pass final →
    HasRun program state count worker old final verdict steps frame
ran_so writes plan count worker program state old final before after verdict steps frame same served who outside ends finished = record {
  exchanges = ends.exchanges;
  last = ends.last;
  trace = ends.trace;
  formed = formed_by_chain program plan count before after ends.exchanges served ends.chain;
  counted = ends.steps_done;
  bounded = ends.bounded;
  sent = ends.frame_left;
  sessions =
      subst (λ (first : PassView). HasSessions count worker ends.exchanges first final) same
      (writes plan count worker before after final ends.exchanges (ap (λ (pass : PassView). pass.who) same ∙ who)
      (λ number within. subst (λ (pass : PassView). IsOutsideAt worker pass number) (sym same) (outside number within)) ends.chain finished);
}

pub stopped_so : WritesRefusedOwnSessions → (plan : ℕ → ShardPlan) (count worker : ℕ) (program : Program) (state : MachineState)
    (old final : PassView) (before after : PassPort) (frame : FrameView) (stop : Stop) → before.pass ≡ old →
    before.served ≡ maps_in program → old.who ≡ Worker worker →
    ((number : ℕ) → number < count → IsOutsideAt worker old number) →
    StopsSo (PassGives plan count) (PassRefuses plan count) program state before after frame stop →
    IsFinishedBy plan count after.pass final → HasStopped program state plan count worker old final frame stop
stopped_so writes plan count worker program state old final before after frame (JournalFull shard) same served who outside stops finished = record {
  exchanges = stops.exchanges;
  refused = stops.call;
  named = stops.names_the_shard;
  waiting = stops.waiting;
  trace = stops.trace;
  formed = formed_by_chain program plan count before stops.middle stops.exchanges served stops.chain;
  kept_back = stops.frame_left;
  sessions =
      subst (λ (first : PassView). HasRefusedSessions plan count worker stops.exchanges stops.call first final) same
      (writes plan count worker before stops.middle after final stops.exchanges stops.call (ap (λ (pass : PassView). pass.who) same ∙ who)
      (λ number within. subst (λ (pass : PassView). IsOutsideAt worker pass number) (sym same) (outside number within)) stops.chain
      stops.refused finished);
}

-- ---- a count below a limit, at which it wraps

one_and_more : (limit count more : ℕ) → ((count + 1) % limit + more) % limit ≡ (count + suc more) % limit
one_and_more limit count more =
    let same : (count + 1) + more ≡ count + suc more = omega arith in
    mod-add-mod (count + 1) limit more ∙ ap (λ (n : ℕ). n % limit) same

told_by_chain : {P : Type 0} (limit : ℕ) → 0 < limit → (told : P → ℕ) (gives : P → Call → Reply → P → Type 0) →
    ((before after : P) (call : Call) (reply : Reply) → gives before call reply after → told after ≡ (told before + 1) % limit) →
    (before after : P) (exchanges : List Exchange) → told before < limit → IsChain gives before exchanges after →
    told after ≡ (told before + length exchanges) % limit
told_by_chain limit some told gives step before after [] below chain =
    let same : told before ≡ told before + 0 = omega arith in
    ap told (sym chain) ∙ sym (mod-eq_of_lt below) ∙ ap (λ (n : ℕ). n % limit) same
told_by_chain limit some told gives step before after (exchange ∷ later) below chain =
    let next : told chain.0 ≡ (told before + 1) % limit = step before chain.0 exchange.call exchange.reply chain.1 in
    let under : told chain.0 < limit = subst (λ (n : ℕ). n < limit) (sym next) (mod-lt (told before + 1) some) in
    told_by_chain limit some told gives step chain.0 after later under chain.2
    ∙ ap (λ (n : ℕ). (n + length later) % limit) next
    ∙ one_and_more limit (told before) (length later)

some_words : 0 < 2 ^ 64
some_words = omega arith

-- ---- from pass to pass, with a gate

pub ran_told : WritesOwnSessions → (plan : ℕ → ShardPlan) (count worker : ℕ) (program : Program) (state : MachineState)
    (old final : PassView) (before after : ToldPort) (verdict : Verdict) (steps : ℕ) (frame : FrameView) → before.port.pass ≡ old →
    before.port.served ≡ maps_in program → old.who ≡ Worker worker → ((number : ℕ) → number < count → IsOutsideAt worker old number) → before.told < 2 ^ 64 →
    Ends (IsGivenTold plan count) program state before after verdict steps frame → IsFinishedBy plan count after.port.pass final →
    HasRunTold program state count worker old final verdict steps frame before.told after.told
unfolding ran_so ends_seen
ran_told writes plan count worker program state old final before after verdict steps frame same served who outside below ends finished = (
  ran_so writes plan count worker program state old final before.port after.port verdict steps frame same served who outside
      (ends_seen before after (λ (one : ToldPort). one.port) (IsGivenTold plan count) (PassGives plan count) (λ one two call reply given. given.0)
      program state verdict steps frame ends)
      finished,
  told_by_chain (2 ^ 64) some_words (λ (one : ToldPort). one.told) (IsGivenTold plan count) (λ one two call reply given. given.1) before after
      ends.exchanges below ends.chain,
)

pub stopped_told : WritesRefusedOwnSessions → (plan : ℕ → ShardPlan) (count worker : ℕ) (program : Program) (state : MachineState)
    (old final : PassView) (before after : ToldPort) (frame : FrameView) (stop : Stop) → before.port.pass ≡ old →
    before.port.served ≡ maps_in program → old.who ≡ Worker worker →
    ((number : ℕ) → number < count → IsOutsideAt worker old number) → before.told < 2 ^ 64 →
    StopsSo (IsGivenTold plan count) (IsRefusedUntold plan count) program state before after frame stop →
    IsFinishedBy plan count after.port.pass final →
    HasStoppedTold program state plan count worker old final frame before.told after.told stop
unfolding stopped_so stops_seen
stopped_told writes plan count worker program state old final before after frame (JournalFull shard) same served who outside below stops finished = (
  stopped_so writes plan count worker program state old final before.port after.port frame (JournalFull shard) same served who outside
      (stops_seen before after (λ (one : ToldPort). one.port) (IsGivenTold plan count) (IsRefusedUntold plan count) (PassGives plan count)
      (PassRefuses plan count) (λ one two call reply given. given.0) (λ one two call refused. refused.0) program state frame (JournalFull shard)
      stops)
      finished,
  stops.refused.1
      ∙ told_by_chain (2 ^ 64) some_words (λ (one : ToldPort). one.told) (IsGivenTold plan count) (λ one two call reply given. given.1) before
      stops.middle stops.exchanges below stops.chain,
)

-- ---- what both ends have

stop_leaves : (program : Program) (state : MachineState) (plan : ℕ → ShardPlan) (count worker : ℕ) (old final : PassView) (frame : FrameView)
    (told told' : ℕ) (stop : Stop) → HasStoppedTold program state plan count worker old final frame told told' stop →
    (final.who ≡ old.who) × ((number : ℕ) → number < count → IsOutsideAt worker final number)
stop_leaves program state plan count worker old final frame told told' (JournalFull shard) was =
    (was.0.sessions.same_caller, was.0.sessions.outside)

pub leaves_told : (program : Program) (state : MachineState) (plan : ℕ → ShardPlan) (count worker : ℕ) (old final : PassView) (frame : FrameView)
    (told told' : ℕ) (result : Result Exit Stop) →
    IfOk result (λ (exit : Exit). HasRunTold program state count worker old final exit.verdict exit.steps frame told told') →
    IfErr result (λ (stop : Stop). HasStoppedTold program state plan count worker old final frame told told' stop) →
    (final.who ≡ old.who) × ((number : ℕ) → number < count → IsOutsideAt worker final number)
leaves_told program state plan count worker old final frame told told' (Ok exit) ran was = (ran.0.sessions.same_caller, ran.0.sessions.outside)
leaves_told program state plan count worker old final frame told told' (Err stop) ran was =
    stop_leaves program state plan count worker old final frame told told' stop was
