pub mod Items
pub mod Rises
pub mod Lists
pub mod Split
pub mod Places
pub mod Changes
pub mod Room
