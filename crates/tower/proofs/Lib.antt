pub mod Field
pub mod Point
