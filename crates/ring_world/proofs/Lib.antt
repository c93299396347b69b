pub mod code
pub mod queue
pub mod rings
