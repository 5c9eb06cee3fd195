pub mod CuttingLemmas
pub mod NumberLemmas
pub mod LineLemmas
pub mod TextLemmas
