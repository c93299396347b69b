pub mod Copy
pub mod Seen
pub mod Lending
