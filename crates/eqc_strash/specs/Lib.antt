pub mod Structure
pub mod Classes
pub mod Laws
pub mod Shapes
pub mod ShapeEquality
pub mod Tables
pub mod Numbering
