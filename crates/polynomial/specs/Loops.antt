-- What each loop over a slice of coefficients has come to, turn by turn. The slices are lists of numbers; nothing here is a definition of document 01.
--
--   Expand      y + (X + f) p in place, upwards
--   Slopes      divided differences in place, upwards
--   Points      the interpolation points, written one after the other
--   Newton      interpolation in two sweeps: to the coefficients of Newton's form, and from them to those of the polynomial
--   Roots       a product of factors X + f that grows downwards from the end of a slice
pub mod Expand
pub mod Slopes
pub mod Newton
pub mod Points
pub mod Roots
