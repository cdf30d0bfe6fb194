pub mod Sentences
pub mod Table
pub mod Steps
pub mod Outcomes
pub mod Kept
pub mod Audited
pub mod Examples
