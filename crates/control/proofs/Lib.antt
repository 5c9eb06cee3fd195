pub mod Bytes
pub mod Words
pub mod Scripts
pub mod OneScript
pub mod Serving
pub mod Backends
pub mod Renumbered
pub mod Updates
