pub mod Announcing
pub mod Asked
pub mod Axes
pub mod Row
pub mod RowStrings
