-- One position of the announcement: the values of S, Q and P there, and what is written.
--
-- Valued p key first shares n x words leading   the words of Q, to which the leading term is to be added, S, F and P of n shares at the point x
-- RowsOf p key first shares rows n   S of each of n shares, one after another, and behind them F but its leading one
-- factors_at p l α β out       out with two points written to the places of α and β at position l
-- factors_of p key message2 first shares l i out   out with α and β of share i written there
-- gamma_of p message2 shares l i out   out with γ of share i written to its place
-- Each p f before after n     the parts of n shares are by now what f gives of them
-- EachAnnounced p key message2 first shares l before after n   α, β and γ are written in the parts of n shares
use Rattle.std.specs.Prelude.{◌≡◌, Bool, List, ◌++◌, ℕ, ◌+◌, ◌*◌, ◌<◌, get_or, take}
use Rattle.lists.specs.Xor.{◌⊕◌}
use Rattle.lists.specs.Part.{put_at}
use Rattle.tower.specs.Field.{Point, bytes_of}
use Rattle.parameters.specs.declared.Parameters.{Parameters}
use Rattle.layout.specs.Layout.{at_v, factor_length}
use Rattle.exchange.specs.Sequences.{joined}
use Rattle.exchange.specs.Reading.{value}
use Rattle.exchange.specs.Values.{Key, q_of, p_of, s_of, F, alpha, beta}
use Rattle.coefficients.specs.Shares.{share_of}
use Rattle.points.specs.Multiples.{word_of}
use Rattle.values.specs.Announced.{gamma}
use Rattle.values.specs.Shares.{block_of}
pub mod Evaluated
pub mod Laws

pub record Valued (p : Parameters) (key : Key) (first : Bool) (shares : List ℕ) (n : ℕ) (x : Point) (words : List ℕ) (leading : ℕ) : Type 0 where
  pub locators : (i : ℕ) → i < n → get_or words i 0 ⊕ leading ≡ word_of (value (q_of p first (share_of p shares i)) x)
  pub interpolants : (i : ℕ) → i < n → get_or words (n + i) 0 ≡ word_of (value (s_of p key first (share_of p shares i)) x)
  pub quotients : (i : ℕ) → i < n → get_or words (2 * n + 1 + i) 0 ≡ word_of (value (p_of p (share_of p shares i)) x)

abbrev pub RowsOf : Parameters → Key → Bool → List ℕ → List ℕ → ℕ → Type 0
RowsOf p key first shares rows n = rows ≡ joined (λ i. s_of p key first (share_of p shares i)) n ++ take p.m (F p)

unfoldable pub factors_at : Parameters → ℕ → Point → Point → List ℕ → List ℕ
factors_at p l α β out = put_at (put_at out (4 * l) (bytes_of α)) (factor_length p + 4 * l) (bytes_of β)

abbrev pub factors_of : Parameters → Key → List ℕ → Bool → List ℕ → ℕ → ℕ → List ℕ → List ℕ
factors_of p key message2 first shares l i out =
    let s = share_of p shares i in factors_at p l (alpha p key message2 first s l) (beta p key message2 first s l) out

abbrev pub gamma_of : Parameters → List ℕ → List ℕ → ℕ → ℕ → List ℕ → List ℕ
gamma_of p message2 shares l i out = put_at out (at_v p + 4 * l) (bytes_of (gamma p message2 (share_of p shares i) l))

abbrev pub Each : Parameters → (ℕ → List ℕ → List ℕ) → List ℕ → List ℕ → ℕ → Type 0
Each p f before after n = (i : ℕ) → i < n → block_of p after i ≡ f i (block_of p before i)

abbrev pub EachAnnounced : Parameters → Key → List ℕ → Bool → List ℕ → ℕ → List ℕ → List ℕ → ℕ → Type 0
EachAnnounced p key message2 first shares l = Each p (λ i out. gamma_of p message2 shares l i (factors_of p key message2 first shares l i out))
