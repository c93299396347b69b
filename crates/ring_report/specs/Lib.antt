pub mod Lent
pub mod Report
pub mod Summary
