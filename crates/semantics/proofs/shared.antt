-- Lemmas that other crates cite.
pub mod ConditionLemmas
pub mod PlanLemmas
pub mod KeptLemmas
pub mod HoldingLemmas
pub mod LittleEndianLemmas
pub mod LawLemmas
pub mod ImageSizes
pub mod IdLemmas
pub mod FirstElement
pub mod UseLemmas
pub mod CallerLemmas
pub mod EachLemmas
pub mod CellBytes
pub mod AnswerLemmas
pub mod SystemSteps
pub mod CallNumbers
