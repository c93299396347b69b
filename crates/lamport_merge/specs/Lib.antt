pub mod Merge
pub mod Next
pub mod Logs
pub mod Clocks
pub mod Recorder
