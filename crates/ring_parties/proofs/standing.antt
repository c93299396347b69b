-- What calls of members and of the registrar show, and parties that are changed at a place.
pub mod Begins
pub mod Collected
pub mod Founding
pub mod Frames
pub mod Looked
pub mod Lookers
pub mod Nodes
pub mod Placing
pub mod Rings
pub mod Showing
pub mod Shown
pub mod Takes
pub mod Writing
