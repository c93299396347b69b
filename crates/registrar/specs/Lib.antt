pub mod Registry
pub mod Asked
pub mod Handled
pub mod Kept
pub mod Named
pub mod Stands
