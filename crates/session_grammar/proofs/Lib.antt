pub mod Decimals
pub mod Changing
pub mod Tabs
pub mod Pairs
pub mod FieldCuts
