pub mod shared
pub mod LayoutLemmas
pub mod ReachLemmas
