-- What events and states are to code: for the members and for the plain machine.
pub mod Enables
pub mod Errors
pub mod Looks
