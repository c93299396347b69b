pub mod Aside
pub mod Sent
