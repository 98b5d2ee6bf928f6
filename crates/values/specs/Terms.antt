-- The points of one share at one position, from the steps of the code.
--
-- sum-made             a sum of points from their bytes
-- factors-made         with the values of Q and S, what is written for share i are its α and β
-- gamma-made           with the values of F and P, what is written is its γ
use Rattle.std.specs.Prelude.{◌≡◌, Bool, ℕ, ◌+◌, ◌*◌}
use Rattle.std.proofs.Math.Path.{ap}
use Rattle.std.proofs.Common.{ap₂, ◌∙◌}
use mathlib.Core.List.{List}
use Rattle.lists.specs.Part.{put_at}
use Rattle.algebra.specs.Ring.{Ring2}
use Rattle.algebra.specs.Ring.Laws.{ring}
use Rattle.tower.specs.Field.{Point, point, bytes_of}
use Rattle.tower.proofs.Field.Laws.{point-bytes_of}
use Rattle.parameters.specs.declared.Parameters.{Parameters}
use Rattle.layout.specs.Layout.{at_v}
use Rattle.exchange.specs.Reading.{points, value, ◌⊞◌, ◌⊠◌}
use Rattle.exchange.specs.Values.{Key, q_of, p_of, s_of, F, a_of, b_of, c_of, point_of, multiplier_of, alpha, beta}
use Rattle.coefficients.specs.Shares.{share_of}
use Rattle.values.specs.Position.{factors_at, factors_of, gamma_of}
use Rattle.values.specs.Announced.{gamma}

pub sum-made : (a b r : List ℕ) (x y : Point) → a ≡ bytes_of x → b ≡ bytes_of y → r ≡ bytes_of (point a ⊞ point b) → r ≡ bytes_of (x ⊞ y)
sum-made a b r x y ea eb er = er ∙ ap₂ (λ (u v : Point). bytes_of (u ⊞ v)) (ap point ea ∙ point-bytes_of x) (ap point eb ∙ point-bytes_of y)

gather : {K : Type 0} (R : Ring2 K) (c e f q : K) → R.add (R.mul (R.mul e f) q) c ≡ R.add c (R.mul e (R.mul f q))
gather R c e f q = simp (ring, R)

-- s is share i
module _ (p : Parameters) (key : Key) (message2 : List ℕ) (first : Bool) (shares : List ℕ) (l i : ℕ) (s out next : List ℕ) (es : s ≡ share_of p shares i) where
  abbrev x : Point
  x = point_of p message2 l

  abbrev ε : Point
  ε = multiplier_of p message2 l

  abbrev σ : List ℕ
  σ = share_of p shares i

  pub factors-made : next ≡ factors_at p l (ε ⊠ value (q_of p first σ) x ⊞ a_of p s l) (value (s_of p key first σ) x ⊞ b_of p s l) out
      → next ≡ factors_of p key message2 first shares l i out
  unfolding alpha beta
  factors-made e = e ∙ ap (λ (z : List ℕ). factors_at p l (ε ⊠ value (q_of p first σ) x ⊞ a_of p z l) (value (s_of p key first σ) x ⊞ b_of p z l) out) es

  pub gamma-made : next ≡ put_at out (at_v p + 4 * l) (bytes_of (ε ⊠ value (F p) x ⊠ value (p_of p σ) x ⊞ c_of p s l)) → next ≡ gamma_of p message2 shares l i out
  unfolding gamma
  gamma-made e =
      e ∙ ap (λ (z : Point). put_at out (at_v p + 4 * l) (bytes_of z))
      (ap (λ (z : List ℕ). ε ⊠ value (F p) x ⊠ value (p_of p σ) x ⊞ c_of p z l) es ∙ gather points.base (c_of p σ l) ε (value (F p) x) (value (p_of p σ) x))
