pub mod QueuePasses
