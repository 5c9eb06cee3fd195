-- Lemmas of this crate.
-- counts
mod CountLemmas
mod CallerSums
mod ResultCounts
mod SessionCounts
-- runs and replays
mod SteeredLemmas
mod RuledRuns
mod RunSums
mod ControllerShards
mod TotalLemmas
mod ReplayLemmas
-- tables
mod QuietRuns
mod ArrayShards
mod HashShards
mod CommandTables
mod PlaceLemmas
mod ServiceTables
mod TableLemmas
mod ServiceLemmas
mod MomentLemmas
mod FleetLemmas
mod MovingStrangers
mod WordLemmas
mod WordTables
-- flows that stay with their backends
mod NoteLemmas
mod StickyRuns
mod StickyReplays
mod StrangerRuns
mod StandingRuns
mod StickyRow
mod StrangerRow
