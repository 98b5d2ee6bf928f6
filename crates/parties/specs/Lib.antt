pub mod Blocks
pub mod Totals
pub mod Drawn
pub mod Sums
pub mod Shapes
