pub mod Forms
pub mod Adding
