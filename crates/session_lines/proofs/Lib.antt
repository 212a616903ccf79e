pub mod Pieces
pub mod Lfs
pub mod Known
pub mod Bounds
