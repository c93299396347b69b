-- Truth values, lists, rows and grants alone.
pub mod Grants
pub mod Lists
pub mod Places
pub mod Rows
pub mod Truth
