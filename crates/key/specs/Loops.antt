-- What each loop over the key's slices has come to, turn by turn. Nothing here is a definition of document 01.
--
--   Image        the product of a row with x, and of the matrix with x
--   Vector       the parts of the vector, written one after the other
--   Weight       the nonzero entries counted
--   Positions    the marks of E made one by one
--   Locator      Q, a factor for each position of E
--   Gather       the elements of a list at the positions of E, or at the others, written one after the other
--   Split        the points of E and then the others
--   Quotient     values over distances, by sums of logarithms; P from them
pub mod Image
pub mod Vector
pub mod Weight
pub mod Positions
pub mod Locator
pub mod Gather
pub mod Split
pub mod Quotient
