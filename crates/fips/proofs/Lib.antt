pub mod Rules
pub mod Vector
