pub mod Mirror
pub mod Seen
pub mod Placed
pub mod Master
pub mod Refusal
pub mod Laws
