pub mod Mirrors
pub mod Whole
pub mod Places
pub mod AllMirrors
pub mod Masters
pub mod Held
