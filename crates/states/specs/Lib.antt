pub mod Rows
pub mod Frees
pub mod Placed
