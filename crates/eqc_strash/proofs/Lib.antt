pub mod KeyLaws
pub mod RowsLaws
pub mod ShapeLaws
pub mod StructureLaws
pub mod ValueLaws
pub mod CoverLaws
pub mod PlaceLaws
pub mod NumberingLaws
