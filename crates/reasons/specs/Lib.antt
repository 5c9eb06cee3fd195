-- The definitions that the contracts of this crate cite, in reading order.
pub mod Wording
pub mod Causes
pub mod Instructions
pub mod Origins
pub mod Advices
pub mod Readers
pub mod Annotations
pub mod Explanations
