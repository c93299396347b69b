-- The ends of links meet.
pub mod Joining
pub mod Known
pub mod Meetings
pub mod Meets
pub mod MeetsAll
pub mod MeetsReplaced
pub mod MeetsOut
pub mod NamedLinks
pub mod Receivers
