-- What holds in every state of every run, as the parties of a cluster need it.
pub mod Current
pub mod Fresh
pub mod Given
pub mod Lawful
