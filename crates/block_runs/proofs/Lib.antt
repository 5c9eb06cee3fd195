mod PlanLemmas
pub mod shared
