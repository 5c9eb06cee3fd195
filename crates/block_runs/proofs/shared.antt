-- Lemmas that other crates cite, in reading order.
pub mod Blocks
pub mod BlockLaw
pub mod BlockTests
pub mod SpelledStates
pub mod Agreement
pub mod PlanEnds
