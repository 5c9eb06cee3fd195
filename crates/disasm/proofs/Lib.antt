pub mod shared
pub mod Heads
pub mod Registers
pub mod Operands
