pub mod shared
mod LossLemmas
mod Totals
mod NumberLemmas
mod RetainLemmas
