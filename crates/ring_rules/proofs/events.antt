-- When an event may happen, what it does, and how steps are put together.
pub mod Acts
pub mod Cases
pub mod Composed
pub mod Enabled
pub mod First
pub mod Found
pub mod Kinds
pub mod Leaves
pub mod Names
pub mod Parts
pub mod Refusals
pub mod WhatRefuses
