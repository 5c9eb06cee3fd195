pub mod EpochCounts
