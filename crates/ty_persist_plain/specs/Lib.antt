pub mod ListMap
