pub mod Key
pub mod Light
pub mod Admission
pub mod Cases
