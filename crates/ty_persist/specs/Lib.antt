pub mod Contents
pub mod Shape
pub mod Seen
pub mod Rest
pub mod Texts
pub mod Puts
pub mod Cuts
