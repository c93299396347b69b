-- States that only differ in what the registrar owes.
pub mod Owed
