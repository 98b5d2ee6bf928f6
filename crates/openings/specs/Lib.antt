pub mod Statement
pub mod Parts
pub mod From
pub mod Opened
pub mod Asked
pub mod Checked
