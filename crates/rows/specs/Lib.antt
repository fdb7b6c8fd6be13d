pub mod Pieces
pub mod Mending
pub mod Entries
pub mod Cutting
pub mod Laws
