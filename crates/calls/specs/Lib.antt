pub mod Codes
pub mod Plain
pub mod View
pub mod Law
pub mod Calls
