-- Lemmas for the answers of this crate.
pub mod CountLemmas
pub mod PageLemmas
pub mod TextLemmas
