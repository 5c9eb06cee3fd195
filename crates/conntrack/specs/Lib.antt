-- The definitions that the contracts of this crate cite, in reading order.
pub mod SteeringMaps
pub mod Layouts
pub mod SteeringRule
pub mod Steering
pub mod Results
pub mod SteeringLaws
pub mod FaultNumber
