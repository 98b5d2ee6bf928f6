pub mod Fold
pub mod Put
pub mod Split
pub mod Decimal
pub mod Hex
pub mod Form
pub mod Scanner
