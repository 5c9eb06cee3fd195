-- A run whose replies are those of a function ends as with the function.
use Rattle.std.proofs.Common.{◌≡◌, ℕ, zero, suc, List, [], ◌∷◌, refl, sym, ◌∙◌, ap}
use Rattle.std.specs.List.{AllByRecursion}
use Rattle.semantics.specs.declared.call.Call.{Call}
use Rattle.semantics.specs.declared.call.Reply.{Reply}
use Rattle.semantics.specs.MachineState.{MachineState}
use Rattle.semantics.specs.Program.{Program}
use Rattle.semantics.specs.RunTrace.{trace_from, trace_of}
use Rattle.semantics.specs.Semantics.{next_step}
use Rattle.semantics.specs.Step.{Step, Continues, CallsMap, Exits, Traps}
use Rattle.map_port.specs.Exchanges.{Exchange, calls_in, replies_in}
use Rattle.guarantees.specs.ReaderRuns.{after_step, stand_with}

-- each reply is the function's
abbrev pub AreOf : (Call → Reply) → List Exchange → Type 0
AreOf answer exchanges = AllByRecursion (λ (exchange : Exchange). exchange.reply ≡ answer exchange.call) exchanges

abbrev MakesThese : Program → ℕ → MachineState → List Exchange → Type 0
MakesThese program count state exchanges = (trace_of count program state (replies_in exchanges)).calls ≡ calls_in exchanges

abbrev EndsAlike : Program → (Call → Reply) → ℕ → MachineState → List Exchange → Type 0
EndsAlike program answer count state exchanges =
    stand_with count program answer state ≡ (trace_of count program state (replies_in exchanges)).stand

by_step : (program : Program) (answer : Call → Reply) (count : ℕ) (state : MachineState) (exchanges : List Exchange) (step : Step) →
    ((next : MachineState) (later : List Exchange) → MakesThese program count next later → AreOf answer later → EndsAlike program answer count next later) →
    (trace_from (trace_of count program) state step (replies_in exchanges)).calls ≡ calls_in exchanges → AreOf answer exchanges →
    after_step (stand_with count program answer) answer step ≡ (trace_from (trace_of count program) state step (replies_in exchanges)).stand
by_step program answer count state exchanges (Continues next) later made are = later next exchanges made are
by_step program answer count state [] (CallsMap call next) later made are = absurd cc
by_step program answer count state (exchange ∷ more) (CallsMap call next) later made are =
    let same : call ≡ exchange.call = cc made in
    let rest : MakesThese program count (next exchange.reply) more = cc made in
    let told : answer call ≡ exchange.reply = ap answer same ∙ sym are.0 in
    ap (λ (reply : Reply). stand_with count program answer (next reply)) told ∙ later (next exchange.reply) more rest are.1
by_step program answer count state exchanges (Exits verdict last) later made are = refl
by_step program answer count state exchanges (Traps cause) later made are = refl

pub ends_alike : (program : Program) (answer : Call → Reply) (count : ℕ) (state : MachineState) (exchanges : List Exchange) →
    MakesThese program count state exchanges → AreOf answer exchanges → EndsAlike program answer count state exchanges
ends_alike program answer zero state exchanges made are = refl
ends_alike program answer (suc count) state exchanges made are =
    by_step program answer count state exchanges (next_step program state)
    (λ next later makes replies. ends_alike program answer count next later makes replies) made are
