pub mod Name
pub mod Body
pub mod Reason
