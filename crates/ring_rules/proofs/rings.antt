-- Lists alone, and rings of ids: what the proofs on walks use of them.
pub mod Falling
pub mod Lists
pub mod Maps
pub mod Ring
pub mod Rounds
pub mod Weakens
pub mod Writes
