use Rattle.std.proofs.Common.{◌≡◌, ◌+◌, ◌-◌, ◌/◌, ℕ, List, length, sym, ap, ◌∙◌, subst, arith}
use Rattle.std.specs.Prelude.{map}
use Rattle.std.proofs.lemmas.List.{length-map}
use Rattle.machine.specs.Running.{program_of}
use Rattle.control.specs.declared.command.Command.{Command}
use Rattle.semantics.specs.Each.{Each}
use Rattle.semantics.specs.declared.options.Options.{Options}
use Rattle.replay.specs.Crews.{IsHandled}
use Rattle.actors.specs.Parts.{IsScriptRunBehind}
use Rattle.actors.specs.RunsOverShards.{IsNewAt, IsRunBy, pass_in}
use Rattle.rx_queues.specs.Passes.{jobs_put}
use Rattle.replay.specs.Settings.{AreFreshPasses, IsAbandoned}
use Rattle.actors.specs.Shares.{frames_of}
use Rattle.actors.specs.UpdateFaults.{IsOfNoUpdate}
use Rattle.actors.specs.declared.fault.ReplayFault.TheVariants.{BadOptions}
use Rattle.replay.specs.declared.threads.Abandoned.{Abandoned}
use Rattle.replay.proofs.AbandonLemmas.{of_abandoned}
use Rattle.replay.proofs.Accounts.{new_is_idle}
use Rattle.semantics.proofs.shared.EachLemmas.{within}
use Rattle.replay.proofs.PartLemmas.{script_run, script_run_behind, rounds_made}
use Rattle.replay.proofs.setting.run_threads.Goals as goal

-- as many starts as commands
as_many_starts : (starts : List ℕ) (script : List Command) → starts ≡ map (λ (line : Command). line.frame) script → length starts ≡ length script
as_many_starts starts script are = ap (λ (l : List ℕ). length l) are ∙ length-map script (λ (line : Command). line.frame)

pub invariant_of-runner : goal.invariant_of-runner
invariant_of-runner g c = record { maps = c.requires.maps; few = c.requires.ready.passes.few }

pub run_all-requires-clause-ready : goal.run_all-requires-clause-ready
run_all-requires-clause-ready g c κs outlives =
    let started = c.in_ok-controller.ensures.started in
    let many = c.in_ok-states.ensures.count ∙ ap (λ (o : Options). o.workers) c.options.ensures in
    record {
      passes = subst (λ n. AreFreshPasses c.args.queues.now n c.args.put c.args.takes.items) (sym many) c.requires.ready.passes;
      for_all = (c.requires.ready.for_records, c.requires.ready.for_commands);
      within = (let below = started.within in let same = as_many_starts c.args.starts.now c.args.script.now c.requires.ready.starts_are in omega (arith, below, same));
      states_are = λ place x there.
          let is_new = c.in_ok-states.ensures.passes place x there in
          let inside = within c.in_ok-states.states.items place x there in
          record {
            is_new = is_new;
            is_idle = new_is_idle g.B.Naming.count (0 + place) c.args.shards.now.options (pass_in x) (omega (arith, inside, many)) is_new;
          };
    }

pub run_all-requires-clause-actors : goal.run_all-requires-clause-actors
run_all-requires-clause-actors g c κs outlives =
    let started = c.in_ok-controller.ensures.started in
    let workers = c.in_ok-states.ensures.count ∙ ap (λ (o : Options). o.workers) c.options.ensures ∙ sym c.requires.ready.passes.workers_are in (
      (
        workers,
        c.requires.ready.for_commands ∙ as_many_starts c.args.starts.now c.args.script.now c.requires.ready.starts_are
            ∙ ap (λ (script : List Command). length script) (sym started.script_is),
      ),
      (c.in_ok-reclaimer.ensures, ap (λ n. n + 1) workers),
    )

pub returns-in-Ok-clause-ended : goal.returns-in-Ok-clause-ended
returns-in-Ok-clause-ended g c =
    let program = program_of c.args.verified.now c.args.shards.now.options.shards in
    let records = c.args.capture.now.records.items in
    let all_states = length c.in_ok-states.states.items in
    let states = c.in_ok-states.ensures.count ∙ ap (λ (o : Options). o.workers) c.options.ensures in
    let start = c.in_ok-controller.controller in
    let started = c.in_ok-controller.ensures.started in
    let script = c.args.script.now in
    let first = c.in_ok-controller.count in
    let count = length script - first in
    let below = started.within in
    let many = as_many_starts c.args.starts.now script c.requires.ready.starts_are in
    let all : first + count ≡ length script = omega (arith, below) in
    let ran = script_run_behind g.B.Naming.plan c.args.shards.now.maps c.args.shards.now.options c.args.updates.now script c.args.size
    start c.in-Ok.all.controller.noted.items c.in-Ok.all.controller.pass c.in_ok-controller.first
    (script_run g.B.Naming.plan c.args.shards.now.maps c.args.shards.now.options c.args.updates.now script c.args.size start
    c.in-Ok.all.controller.noted.items c.in-Ok.all.controller.pass first count started.updates_are started.script_is started.maps_are started.options_are
    started.size_is started.applied all (c.in-Ok.ensures.done.commands count (all ∙ sym many))) c.in_ok-controller.ensures.first in
    let rounds = length records / 64 in
    record {
      many = ap (λ l. length l) c.last_round.ensures.workers ∙ c.in-Ok.ensures.done.count ∙ states;
      handled = subst (λ n. Each (IsHandled IsNewAt (IsRunBy g.B.Naming.count g.B.Naming.plan program) records n) 0
          c.last_round.result.1.workers.items) states
          (subst (λ items. Each (IsHandled IsNewAt (IsRunBy g.B.Naming.count g.B.Naming.plan program) records all_states) 0 items)
          (sym c.last_round.ensures.workers) c.in-Ok.ensures.done.handled);
      ran = (
        c.in_ok-controller.first,
        c.last_round.ensures.later,
        subst (λ one. IsScriptRunBehind g.B.Naming.plan c.args.shards.now.maps c.args.shards.now.options c.args.updates.now script c.args.size
            one.noted.items one.pass c.in_ok-controller.first) (sym c.last_round.ensures.controller) ran,
      );
      rounds = c.last_round.ensures.rounds rounds (rounds_made g.B.Naming.plan g.B.Naming.count rounds c.in-Ok.all.reclaimer c.in-Ok.ensures.done.rounds);
      by_reclaimer = c.last_round.ensures.who;
      closed = c.last_round.ensures.closed;
    }

why_abandoned : (frames : List (List ℕ)) (workers count : ℕ) (it : Abandoned) → IsAbandoned frames workers count it.fault (jobs_put it.put)
    → IsOfNoUpdate it.fault × (it.fault ≡ BadOptions → ⊥)
why_abandoned frames workers count it is = of_abandoned frames workers count it.fault (jobs_put it.put) is

pub returns-in-Err-clause-served : goal.returns-in-Err-clause-served
returns-in-Err-clause-served g c = λ is.
    let records = c.args.capture.now.records.items in
    let why = (why_abandoned (frames_of records) (length c.in_ok-states.states.items) (length records) c.in-Err.abandoned c.in-Err.ensures.abandoned).1 in
    why (cc)

pub returns-in-Err-clause-no_update : goal.returns-in-Err-clause-no_update
returns-in-Err-clause-no_update g c =
    let records = c.args.capture.now.records.items in
    (why_abandoned (frames_of records) (length c.in_ok-states.states.items) (length records) c.in-Err.abandoned c.in-Err.ensures.abandoned).0
