pub mod Served
pub mod Exchanges
