pub mod Counts
pub mod Gaining
pub mod Fronts
