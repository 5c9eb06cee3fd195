-- Lemmas that other crates cite.
pub mod SlotLaws
pub mod ImageLaws
