pub mod Links
