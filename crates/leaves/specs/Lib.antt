pub mod After
pub mod Commitments
pub mod Shapes
pub mod States
