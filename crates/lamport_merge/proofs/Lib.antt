pub mod Merging
pub mod Nexts
pub mod Rising
pub mod Steps
pub mod Recording
pub mod Moves
