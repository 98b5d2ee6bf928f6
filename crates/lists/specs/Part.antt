-- Parts of a list: read and written.
--
-- part d at n     the n elements of d from index at on (fewer where d ends before)
-- put_at d at s    d with s written from index at on
use Rattle.std.specs.Prelude.{ℕ, ◌+◌, List, ◌++◌, length, take, drop}
pub mod Laws

unfoldable pub part : List ℕ → ℕ → ℕ → List ℕ
part d at n = take n (drop at d)

unfoldable pub put_at : List ℕ → ℕ → List ℕ → List ℕ
put_at d at s = take at d ++ (s ++ drop (at + length s) d)
