pub mod Entries
pub mod Members
pub mod Judged
pub mod Steps
pub mod Lifts
pub mod Here
pub mod Counts
