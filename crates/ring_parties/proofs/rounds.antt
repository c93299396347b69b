-- A round: the merge of what members do in it side by side is a run of the ring.
pub mod Acts
pub mod Closed
pub mod Deeds
pub mod EachEntry
pub mod Empty
pub mod Ended
pub mod Fronts
pub mod Merged
pub mod Parts
pub mod Seated
pub mod Seats
pub mod Sends
pub mod Takes
pub mod Turns
