pub mod Lists
pub mod Stands
pub mod Kept
pub mod Worked
pub mod Ended
