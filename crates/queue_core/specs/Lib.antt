pub mod Queue
pub mod Legal
pub mod Shown
pub mod Kept
pub mod Seen
pub mod Slots
