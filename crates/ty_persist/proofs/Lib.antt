pub mod SeenLaws
pub mod Entries
pub mod Low
pub mod Probes
pub mod Puts
pub mod Turns
pub mod Cuts
