pub mod Loaded
pub mod Numbers
pub mod Rows
pub mod Taken
pub mod Told
pub mod Walked
