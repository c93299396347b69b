-- That packets may be compact.
pub mod AllCompact
pub mod ByLines
pub mod FirstByLines
pub mod InTurn
pub mod OtherLog
pub mod OtherRows
pub mod PacketGone
pub mod SentForgot
