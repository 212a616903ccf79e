pub mod Index
pub mod Registry
pub mod MemoryRegistry
pub mod Folders
pub mod MemoryFolders
pub mod RealFolders
pub mod Walk
