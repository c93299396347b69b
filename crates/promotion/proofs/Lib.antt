pub mod Elected
pub mod Leading
pub mod Installing
