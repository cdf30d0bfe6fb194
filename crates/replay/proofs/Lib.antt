pub mod Entries
pub mod Unknown
