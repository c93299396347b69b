-- Parties by their places, and links of which both ends stand at members.
pub mod AllLogs
pub mod AllShown
pub mod AllTurns
pub mod Done
pub mod Each
pub mod Halves
pub mod Moves
pub mod Names
pub mod Below
pub mod Hearing
pub mod Meeting
