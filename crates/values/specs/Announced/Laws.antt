-- The laws of what a share announces.
--
-- part_v-gamma          v from γ is the v of the definitions
-- two-lengths          α and β take their length
-- announced-front      the front of what a share announces is α and β
-- v-made               v from the steps of the code, with the constant where `first`
use Rattle.std.specs.Prelude.{◌≡◌, refl, Bool, true, false, cond, List, [], ◌∷◌, ◌++◌, ℕ, ◌+◌, ◌*◌, length, take}
use Rattle.std.proofs.Common.{sym, ap, ap₂, ◌∙◌, append_assoc, arith, length-append, take_at}
use Rattle.algebra.specs.Ring.{Ring2}
use Rattle.algebra.specs.Ring.Laws.{ring}
use Rattle.bytefield.specs.Byte.{byte_ring}
use Rattle.tower.specs.Field.{Point, point, bytes_of}
use Rattle.tower.proofs.Field.Laws.{point-bytes_of}
use Rattle.parameters.specs.declared.Parameters.{Parameters}
use Rattle.layout.specs.Layout.{factor_length, values_length}
use Rattle.exchange.specs.Reading.{points, point_at, encode, ◌⊞◌, ◌⊠◌, 𝟎}
use Rattle.exchange.proofs.Reading.Laws.{length-encode}
use Rattle.exchange.specs.Values.{Key, a_of, b_of, alpha, beta, part_v}
use Rattle.values.specs.Announced.{gamma, announced_of, v_of}

pub part_v-gamma : (p : Parameters) (key : Key) (message2 : List ℕ) (first : Bool) (s : List ℕ) (α̂ β̂ : Point) (l : ℕ)
    → part_v p key message2 first s α̂ β̂ l ≡ v_of p s first (gamma p message2 s l) α̂ β̂ l
unfolding part_v v_of gamma
part_v-gamma p key message2 first s α̂ β̂ l = refl

pub two-lengths : (p : Parameters) (f g : ℕ → Point) → length (encode f p.t ++ encode g p.t) ≡ values_length p
two-lengths p f g = length-append (encode f p.t) (encode g p.t) ∙ omega (arith, length-encode f p.t, length-encode g p.t)

pub announced-front : (p : Parameters) (key : Key) (message2 : List ℕ) (first : Bool) (s : List ℕ)
    → take (values_length p) (announced_of p key message2 first s) ≡ encode (alpha p key message2 first s) p.t ++ encode (beta p key message2 first s) p.t
unfolding announced_of
announced-front p key message2 first s =
    ap (take (values_length p)) (sym (append_assoc (encode (alpha p key message2 first s) p.t) (encode (beta p key message2 first s) p.t) _))
    ∙ take_at (encode (alpha p key message2 first s) p.t ++ encode (beta p key message2 first s) p.t) _ (values_length p) (two-lengths p _ _)

regroup : {K : Type 0} (R : Ring2 K) (g x y k a b : K)
    → R.add (R.add g (R.mul (R.add b k) x)) (R.mul a y) ≡ R.add (R.add (R.add g (R.mul x b)) (R.mul y a)) (R.mul x k)
regroup R g x y k a b = simp (ring, R)

-- the bytes of a point stand for it
back : (a : List ℕ) (x : Point) → a ≡ bytes_of x → point a ≡ x
back a x e = ap point e ∙ point-bytes_of x

by_zero : {K : Type 0} (R : Ring2 K) (x : K) → R.mul x R.zero ≡ R.zero
by_zero R x = simp (ring, R)

-- the constant of v, as a summand of b
constant : (first : Bool) (α̂ β̂ : Point) → α̂ ⊠ cond first β̂ 𝟎 ≡ cond first (α̂ ⊠ β̂) 𝟎
constant true α̂ β̂ = refl
constant false α̂ β̂ = by_zero points.base α̂

-- zero in bytes
either : (first : Bool) (x : List ℕ) → point (cond first x (0 ∷ 0 ∷ 0 ∷ 0 ∷ [])) ≡ cond first (point x) 𝟎
unfolding bytes_of points byte_ring
either true x = refl
either false x = point-bytes_of 𝟎

-- κ is β̂ where `first`, else zero; a and b are read, h = b + κ, x = h·α̂, y = a·β̂, u = γ + x, r = u + y
pub v-made : (p : Parameters) (s : List ℕ) (l : ℕ) (first : Bool) (γ α̂ β̂ κ a b h x y u r : List ℕ) → κ ≡ cond first β̂ (0 ∷ 0 ∷ 0 ∷ 0 ∷ [])
    → a ≡ bytes_of (point_at s (4 * l)) → b ≡ bytes_of (point_at s (factor_length p + 4 * l)) → h ≡ bytes_of (point b ⊞ point κ) → x ≡ bytes_of (point h ⊠ point α̂)
    → y ≡ bytes_of (point a ⊠ point β̂) → u ≡ bytes_of (point γ ⊞ point x) → r ≡ bytes_of (point u ⊞ point y)
    → r ≡ bytes_of (v_of p s first (point γ) (point α̂) (point β̂) l)
unfolding v_of a_of b_of
v-made p s l first γ α̂ β̂ κ a b h x y u r ek ea eb eh ex ey eu er =
    let vx = back x _ ex ∙ ap (λ (z : Point). z ⊠ point α̂) (back h _ eh ∙ ap₂ ◌⊞◌ (back b _ eb) (ap point ek ∙ either first β̂)) in
    let vy = back y _ ey ∙ ap (λ (z : Point). z ⊠ point β̂) (back a _ ea) in
    er ∙ ap bytes_of (ap₂ ◌⊞◌ (back u _ eu ∙ ap (λ (z : Point). point γ ⊞ z) vx) vy
    ∙ regroup points.base (point γ) (point α̂) (point β̂) (cond first (point β̂) 𝟎) (point_at s (4 * l)) (point_at s (factor_length p + 4 * l))
    ∙ ap (λ (z : Point). point γ ⊞ point α̂ ⊠ point_at s (factor_length p + 4 * l) ⊞ point β̂ ⊠ point_at s (4 * l) ⊞ z) (constant first (point α̂) (point β̂)))
