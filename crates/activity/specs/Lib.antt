pub mod Order
pub mod Kept
pub mod LastSent
pub mod Packets
pub mod Diff
pub mod Plan
pub mod Laws
pub mod Shown
