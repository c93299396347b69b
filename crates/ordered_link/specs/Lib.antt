pub mod Waiting
pub mod Steps
pub mod Runs
pub mod Form
pub mod RingSteps
pub mod RingRuns
pub mod Rounds
pub mod Names
