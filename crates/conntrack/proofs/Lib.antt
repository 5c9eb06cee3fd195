mod LayoutLemmas
mod SendLemmas
pub mod shared
mod FlowLemmas
mod WrongRuns
