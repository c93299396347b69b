pub mod Count
pub mod Contents
pub mod Memory
pub mod Counted
