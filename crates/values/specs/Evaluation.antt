-- The values at one point of several polynomials with bytes as coefficients: polynomial i starts at place from + i · stride of a list.
--
--   point_power r n        r to the n
--   terms_of s .. at x d   entry i of d with the coefficient at place at + i · stride of s times x added, as words
--   values_of s .. len r   the values at r of the polynomials of len coefficients, as words
--   TermsAsked            what the code asks to add one term to each value
--   EvaluationAsked       what it asks to evaluate
use Rattle.std.specs.Prelude.{◌≡◌, List, ℕ, ◌+◌, ◌-◌, ◌*◌, ◌≤◌, ◌<◌, get_or}
use Rattle.algebra.specs.Ring.{ops}
use Rattle.algebra.specs.Polynomial.{pow}
use Rattle.lists.specs.Xor.{◌⊕◌}
use Rattle.tower.specs.Field.{Point}
use Rattle.exchange.specs.Sequences.{listed}
use Rattle.exchange.specs.Reading.{points, bytes_at, value, ◌⊠◌}
use Rattle.points.specs.Written.{scalar}
use Rattle.points.specs.Multiples.{word_of}
pub mod Laws

abbrev pub point_power : Point → ℕ → Point
point_power r n = pow (ops points.base) r n

abbrev pub terms_of : List ℕ → ℕ → ℕ → ℕ → Point → List ℕ → List ℕ
terms_of s n stride at x d = listed (λ i. get_or d i 0 ⊕ word_of (scalar (get_or s (at + i * stride) 0) ⊠ x)) n

abbrev pub values_of : List ℕ → ℕ → ℕ → ℕ → ℕ → Point → List ℕ
values_of s n stride from len r = listed (λ i. word_of (value (bytes_at s (from + i * stride) len) r)) n

pub record TermsAsked (size n stride at entries made : ℕ) : Type 0 where
  pub few : n ≤ 64
  pub near : stride ≤ 65536
  pub start : at ≤ 65792
  pub inside : 0 < n → at + (n - 1) * stride < size
  pub sized : entries ≡ n
  pub count : made ≤ 65536

pub record EvaluationAsked (size n stride from len entries : ℕ) : Type 0 where
  pub few : n ≤ 64
  pub near : stride ≤ 65536
  pub start : from ≤ 65536
  pub short : len ≤ 256
  pub inside : 0 < n → from + (n - 1) * stride + len ≤ size
  pub sized : entries ≡ n
