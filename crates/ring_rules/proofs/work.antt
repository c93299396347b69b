-- How much a ring has to do, and that it settles.
pub mod Falls
pub mod Fit
pub mod Moves
pub mod Nobody
pub mod OwnEnds
pub mod Parts
pub mod Places
pub mod RefreshFalls
pub mod Refreshed
pub mod Rows
pub mod Settled
pub mod Settling
pub mod Sums
pub mod TakeFalls
pub mod TellFalls
pub mod ViewFalls
pub mod WorkExamples
