-- What a reader at a place of a message takes.
--
-- taken m at out    out, its front become the bytes of message m from place `at` on, as many as out has room for and m has
-- behind m at out   the place behind them
use Rattle.std.specs.Prelude.{ℕ, ◌+◌, List, length}
use Rattle.lists.specs.Part.{part, put_at}

unfoldable pub taken : List ℕ → ℕ → List ℕ → List ℕ
taken m at out = put_at out 0 (part m at (length out))

unfoldable pub behind : List ℕ → ℕ → List ℕ → ℕ
behind m at out = at + length (part m at (length out))
