pub mod Copies
pub mod Events
pub mod Laws
pub mod Runs
pub mod Work
