-- A ring in which no member has anything to do.
pub mod Asked
pub mod Erasable
pub mod Forgotten
pub mod Going
pub mod IdleLinks
pub mod Rests
pub mod Round
