pub mod Accounts
pub mod Counts
pub mod Freed
pub mod Kept
pub mod Blocks
