pub mod Pieces
pub mod Bands
pub mod Laws
