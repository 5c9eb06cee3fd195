pub mod Keyed
pub mod Hashing
pub mod Buckets
pub mod NumberBlocks
pub mod HashTable
pub mod ArrayTable
pub mod Listed
