-- Links that wait for their receivers at the registrar.
pub mod Collections
pub mod Delivered
pub mod Gathers
pub mod Handing
pub mod Waiting
