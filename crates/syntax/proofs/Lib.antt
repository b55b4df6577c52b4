pub mod Bridge
pub mod Fields
pub mod Naming
