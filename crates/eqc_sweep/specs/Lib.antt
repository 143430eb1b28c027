pub mod Sweeping
pub mod Gates
pub mod Reducing
pub mod Known
pub mod Ordering
pub mod Finding
pub mod Copying
pub mod Team
