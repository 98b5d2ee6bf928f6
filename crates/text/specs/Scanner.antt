-- The scanners of `src/` as functions of the bytes so far: each file has the states, one byte's step, and when a field is accepted.
-- The laws beside them say that this agrees with the definitions of words, decimals and hex over whole fields.
pub mod Word
pub mod Decimal
pub mod Hex
