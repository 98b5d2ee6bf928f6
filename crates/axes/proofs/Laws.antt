-- The laws about the definitions of specs/.
pub mod Announcing
pub mod Asked
pub mod Axes
pub mod Evaluated
pub mod Rows
pub mod Streamed
pub mod Difference
pub mod Parties
pub mod Row
