-- A hashed string on its way through the sponge: never laid out whole, its start made once and copied for each string that has it.
--
-- begun layer prefix   the sponge that has absorbed layer ‖ prefix, with which each string of the layer starts
-- hashed s m n         n bytes: the hash of what the sponge s has absorbed ‖ m
use Rattle.std.specs.Prelude.{List, ◌∷◌, ℕ}
use Rattle.shake256.specs.declared.Sponge.{Sponge}
use Rattle.shake256.specs.Stream.{start, absorbed, finished, squeezed}
pub mod Laws

unfoldable pub begun : ℕ → List ℕ → Sponge
begun layer prefix = absorbed start (layer ∷ prefix)

unfoldable pub hashed : Sponge → List ℕ → ℕ → List ℕ
hashed s m n = squeezed (finished (absorbed s m)) n
