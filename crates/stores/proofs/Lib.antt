pub mod Vacant
pub mod Refusals
