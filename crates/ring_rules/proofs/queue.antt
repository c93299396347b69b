-- The mirrors agree, and confirmed messages stand.
pub mod Asked
pub mod CopySteps
pub mod Facts
pub mod Known
pub mod Likes
pub mod Masters
pub mod Runs
pub mod Sent
pub mod Starts
pub mod Steps
pub mod Told
pub mod ViewSteps
pub mod Views
