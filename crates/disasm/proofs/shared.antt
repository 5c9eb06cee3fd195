-- Lemmas that other crates cite.
pub mod Bytes
pub mod Texts
pub mod Numbers
pub mod Lines
