pub mod Listings
pub mod FolderMaps
mod Walks
