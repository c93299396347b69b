pub mod Credit
pub mod Link
pub mod Counts
