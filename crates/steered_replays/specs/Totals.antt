-- The counts in the maps of the shipped program, after a replay.
use Rattle.std.specs.Prelude.{◌≡◌, ℕ, List, [], Some, reverse}
use Rattle.std.specs.List.{AllByRecursion}
use Rattle.wire.specs.declared.records.Sent.{Sent}
use Rattle.semantics.specs.declared.options.Options.{Options}
use Rattle.semantics.specs.declared.plan.ShardPlan.{ShardPlan}
use Rattle.semantics.specs.declared.verdict.Verdict.{Verdict}
use Rattle.semantics.specs.declared.verdict.Verdict.TheVariants.{Aborted, Drop, Pass, Tx}
use Rattle.semantics.specs.Program.{shard_of_key}
use Rattle.semantics.specs.SequentialShard.{SequentialShard, shard_after, cell_of_key, number_in_cell}
use Rattle.semantics.specs.ShardPlan.{plan_at, AreOptions}
use Rattle.journals.specs.JournalsView.{JournalsView, entries_at}
use Rattle.maglev.specs.RingSize.{IsRingSize}
use Rattle.conntrack.specs.declared.steering_maps.SteeringMap.TheVariants.{Stats}
use Rattle.conntrack.specs.SteeringMaps.{map_place, map_kind, sized_maps}
use Rattle.conntrack.specs.Results.{count_key}
use Rattle.steer.specs.SteeringLaws.{of_size, shipped_program}
use Rattle.control.specs.declared.command.Command.{Command}
use Rattle.actors.specs.declared.outcome.Outcome.{Outcome}
use Rattle.actors.specs.Accounted.{IsAccounted}
use Rattle.actors.specs.Captured.{IsCaptured}

-- the number of the shard that has the verdict's count
abbrev pub shard_of_count : ℕ → Verdict → ℕ
shard_of_count shards verdict = shard_of_key (map_place Stats) (map_kind Stats) shards (count_key verdict)

-- the one-thread map's shard of this number, after its journal
abbrev pub shard_at_end : JournalsView → ShardPlan → ℕ → SequentialShard
shard_at_end journals plan number = shard_after plan (reverse (entries_at journals number))

-- in the one-thread map's state after the journals the verdict's count is so much
pub record HasCount (journals : JournalsView) (verdict : Verdict) (count : ℕ) : Type 0 where
  pub plan : ShardPlan
  pub planned : plan_at journals.maps journals.options (shard_of_count journals.options.shards verdict) ≡ Some plan
  pub cell : ℕ
  pub found : cell_of_key plan (shard_at_end journals plan (shard_of_count journals.options.shards verdict)) (count_key verdict) ≡ Some cell
  pub holds : number_in_cell (shard_at_end journals plan (shard_of_count journals.options.shards verdict)) cell 0 8 ≡ count

-- the counts in the maps are those of the report
pub record AreTotals (outcome : Outcome) : Type 0 where
  pub aborted : HasCount outcome.journals Aborted outcome.counts.aborted
  pub drop : HasCount outcome.journals Drop outcome.counts.drop
  pub pass : HasCount outcome.journals Pass outcome.counts.pass
  pub tx : HasCount outcome.journals Tx outcome.counts.tx

-- a replay of the shipped program, without updates before its first record, that stopped no run leaves them so
abbrev pub TotalsAreExact : Type 0
TotalsAreExact =
    (notes size : ℕ) → IsRingSize size → (script : List Command) (options : Options) (records : List Sent) (outcome : Outcome) →
    AreOptions (sized_maps notes size) options → AllByRecursion IsCaptured records →
    IsAccounted (shipped_program notes (of_size options.shards size)) script options records outcome →
    outcome.updates.items ≡ [] → outcome.counts.stopped ≡ 0 → AreTotals outcome
