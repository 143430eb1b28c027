pub mod Hits
pub mod Trading
pub mod Cells
pub mod Loading
pub mod Snapshots
