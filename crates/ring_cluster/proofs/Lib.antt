pub mod lists
pub mod deposits
pub mod rounds
pub mod work
