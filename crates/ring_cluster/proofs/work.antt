-- What holds of every journal of a cluster: who stays, what was published, and what was heard.
pub mod Bases
pub mod Heard
pub mod Logged
pub mod Publishing
pub mod Staying
