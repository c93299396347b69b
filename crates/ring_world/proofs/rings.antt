-- Lists that grow from behind.
pub mod Told
