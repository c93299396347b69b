pub mod Book
pub mod Calls
pub mod Counts
