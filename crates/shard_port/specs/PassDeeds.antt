-- What a run by a pass does on shards, in order: the oldest deed first.
use Rattle.std.specs.Prelude.{ℕ, zero, suc, List, [], ◌∷◌, ◌++◌, map, if◌then◌else◌}
use Rattle.semantics.specs.declared.call.Caller.TheVariants.{Worker}
use Rattle.semantics.specs.declared.call.Call.{Call}
use Rattle.semantics.specs.declared.call.Call.TheVariants.{Enter}
use Rattle.semantics.specs.History.{shard_of_call}
use Rattle.semantics.specs.System.{is_entered}
use Rattle.map_port.specs.Exchanges.{Exchange}
use Rattle.shards.specs.declared.deeds.Deed.{Deed}
use Rattle.shards.specs.declared.deeds.Deed.TheVariants.{Wrote, MetFull}
use Rattle.shard_port.specs.Asking.{enter_by, leave_by}
use Rattle.shard_port.specs.Sessions.{exchange_entry}

-- ---- entering, asking, leaving

-- the shards that a run has entered, once it has asked one
abbrev pub entered_now : ℕ → List ℕ → List ℕ
entered_now shard entered = if is_entered shard entered then entered else shard ∷ entered

-- the Enter of a shard, where the run has not entered it
abbrev pub entering_deeds : ℕ → List ℕ → ℕ → List Deed
entering_deeds worker entered shard = if is_entered shard entered then [] else Wrote (enter_by worker shard) ∷ []

-- the exchanges of a run, each behind the Enter of its shard where it is the first there
abbrev pub asked_deeds : ℕ → List ℕ → List Exchange → List Deed
asked_deeds worker entered [] = []
asked_deeds worker entered (exchange ∷ later) =
    entering_deeds worker entered (shard_of_call exchange.call) ++ Wrote (exchange_entry worker exchange) ∷
    asked_deeds worker (entered_now (shard_of_call exchange.call) entered) later

-- the shards that the run has entered then
abbrev pub shards_entered : List ℕ → List Exchange → List ℕ
shards_entered entered [] = entered
shards_entered entered (exchange ∷ later) = shards_entered (entered_now (shard_of_call exchange.call) entered) later

-- those below a count, the lowest first
abbrev pub rising : ℕ → List ℕ → List ℕ
rising zero entered = []
rising (suc number) entered = rising number entered ++ (if is_entered number entered then number ∷ [] else [])

abbrev pub leaving_deeds : ℕ → List ℕ → List Deed
leaving_deeds worker shards = map (λ (shard : ℕ). Wrote (leave_by worker shard)) shards

-- ---- whole runs

-- a run that ended
abbrev pub run_deeds : ℕ → ℕ → List Exchange → List Deed
run_deeds worker count exchanges = asked_deeds worker [] exchanges ++ leaving_deeds worker (rising count (shards_entered [] exchanges))

-- a run whose last call met a full journal
abbrev pub deeds_to_call : ℕ → ℕ → List Exchange → Call → List Deed
deeds_to_call worker count exchanges call =
    asked_deeds worker [] exchanges ++ entering_deeds worker (shards_entered [] exchanges) (shard_of_call call) ++
    MetFull (Worker worker) call ∷ leaving_deeds worker (rising count (entered_now (shard_of_call call) (shards_entered [] exchanges)))

-- a run whose last Enter met one
abbrev pub deeds_to_enter : ℕ → ℕ → List Exchange → Call → List Deed
deeds_to_enter worker count exchanges call =
    asked_deeds worker [] exchanges ++
    MetFull (Worker worker) (Enter (shard_of_call call)) ∷ leaving_deeds worker (rising count (shards_entered [] exchanges))
