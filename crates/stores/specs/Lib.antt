pub mod Faults
pub mod Meaning
pub mod Promise
pub mod Trip
