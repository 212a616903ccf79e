pub mod Command
pub mod Grammar
pub mod Reply
pub mod Plain
