-- The laws about the definitions of specs/.
pub mod Auxiliary
pub mod Commitment
pub mod EveryRun
pub mod Fronts
pub mod HiddenLeaf
pub mod Opening
pub mod Own
pub mod Response
