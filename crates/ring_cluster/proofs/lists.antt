-- Agendas by their names.
pub mod Plans
pub mod Struck
