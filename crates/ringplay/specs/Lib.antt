pub mod Words
pub mod Cause
pub mod Step
pub mod Performed
pub mod Call
pub mod Due
