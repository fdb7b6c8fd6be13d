pub mod Walk
pub mod Places
pub mod Breaking
pub mod Reading
pub mod Spans
pub mod Gathers
