-- Lemmas that other crates cite.
pub mod Accesses
pub mod Between
pub mod ByteNumbers
pub mod Checking
pub mod FlowLaw
pub mod FlowSteps
pub mod Following
pub mod Inverting
pub mod JoinStates
pub mod LoadedNumbers
pub mod Opening
pub mod Reaching
pub mod Shapes
pub mod Splicing
pub mod StackReading
pub mod Writing
