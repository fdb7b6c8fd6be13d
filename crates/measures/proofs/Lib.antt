pub mod Folds
pub mod Totals
pub mod Extremes
pub mod Longest
