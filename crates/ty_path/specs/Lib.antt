pub mod Clean
pub mod Component
pub mod Parts
pub mod Shared
