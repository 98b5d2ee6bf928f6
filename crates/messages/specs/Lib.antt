pub mod Asked
pub mod Auxiliary
pub mod EveryRun
pub mod HiddenLeaf
pub mod Opening
pub mod Own
pub mod Response
pub mod Run
