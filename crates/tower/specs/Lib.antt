pub mod Point
pub mod Field
