pub mod ByUse
