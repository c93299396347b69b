-- Turns, rounds, the drain, and what is played.
pub mod Asking
pub mod Counting
pub mod Doing
pub mod Heirs
pub mod Holding
pub mod Members
pub mod Named
pub mod Numbers
pub mod Passing
pub mod Playing
pub mod Resting
pub mod Serving
pub mod Settling
pub mod SideBySide
pub mod Turning
