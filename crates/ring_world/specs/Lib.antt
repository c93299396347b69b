pub mod Placed
pub mod Shows
pub mod Copied
pub mod Reached
pub mod Walking
