pub mod Snapshot
pub mod Same
pub mod Disk
pub mod MapAccess
pub mod System
