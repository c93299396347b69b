pub mod Playing
pub mod Checking
pub mod Stepping
pub mod Keeping
pub mod Positions
pub mod Reports
pub mod Dues
