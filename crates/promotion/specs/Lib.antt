pub mod Elect
