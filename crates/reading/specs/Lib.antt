pub mod Faults
pub mod Rows
pub mod Parts
pub mod Walks
pub mod Stretches
pub mod StretchesLemmas
