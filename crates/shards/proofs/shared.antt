-- Lemmas that other crates cite.
pub mod Keys
pub mod Names
pub mod ImageMaps
