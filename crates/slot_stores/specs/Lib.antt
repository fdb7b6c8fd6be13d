pub mod Slots
pub mod Memory
pub mod Checks
pub mod Image
pub mod InImage
pub mod Reached
