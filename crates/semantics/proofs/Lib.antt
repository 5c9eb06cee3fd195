pub mod shared
pub mod BytesLemmas
pub mod QuietLemmas
pub mod SystemLemmas
pub mod RowLemmas
pub mod TraceRowLemmas
