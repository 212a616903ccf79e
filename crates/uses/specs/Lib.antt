pub mod OneFile
pub mod OnePackage
