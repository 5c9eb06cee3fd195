-- The definitions that the contracts of this crate cite, in reading order.
pub mod Layout
pub mod ProgramNames
pub mod ShippedProgram
pub mod BlockForm
pub mod SteeringLaws
pub mod PartStarts
pub mod PartLaws
