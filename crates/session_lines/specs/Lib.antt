pub mod LineSource
pub mod ByteSink
pub mod Memory
pub mod Standard
pub mod Lf
pub mod LineReader
