-- A run of the exchange: what all that it hashes starts with, and what its leaves come from.
--
-- Run                 the prefix, which follows the layer byte in every string, and the seed of the root of its tree
-- run_of prefix root   the run that has these
use Rattle.std.specs.Prelude.{List, ℕ}

pub record Run : Type 0 where
  pub prefix : List ℕ
  pub root : List ℕ

abbrev pub run_of : List ℕ → List ℕ → Run
run_of prefix root = record { prefix = prefix; root = root }
