-- The definitions that the contracts of this crate cite, in reading order.
pub mod ScriptText
pub mod ScriptReading
pub mod Renumbering
pub mod FaultNumber
pub mod MapUpdates
pub mod RingChanges
pub mod Controlling
pub mod ListOfUpdates
pub mod ListLaws
