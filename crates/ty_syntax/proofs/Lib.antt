pub mod Texts
pub mod Slashes
pub mod Below
pub mod Starts
pub mod Repairs
pub mod Commons
