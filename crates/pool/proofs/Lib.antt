pub mod Each
pub mod Accounts
pub mod Falls
pub mod Keeping
pub mod Stays
pub mod Placing
pub mod Causes
pub mod NextBlock
