-- What the code makes of a share is what the share announces.
--
-- v-read                               v from points that are read at their places
-- front_by-is, v_by-is, row_by-is         the row of a share, from its block
-- hidden-inside, hidden-outside        the party that holds the hidden leaf, and where none is hidden
-- hide-made                            the row of the party that holds the hidden leaf, in points
-- row-v                                the end of a row
use Rattle.std.specs.Prelude.{◌≡◌, refl, Bool, ℕ, ◌+◌, ◌*◌, ◌≤◌, ◌<◌, length, take, drop}
use Rattle.std.proofs.Math.Path.{sym, ap, ap₂}
use Rattle.std.proofs.Common.{◌∙◌, arith, lt-ltb, le-ltb, drop_at}
use Rattle.std.proofs.Math.Bool.{cond}
use mathlib.Core.List.{List, [], ◌++◌, append_assoc, append-nil}
use Rattle.lists.specs.Sum.{xor_list}
use Rattle.tower.specs.Field.{Point, point, bytes_of}
use Rattle.tower.proofs.Field.Laws.{point-bytes_of}
use Rattle.parameters.specs.declared.Parameters.{Parameters}
use Rattle.layout.specs.Layout.{side, leaves, digit, factor_length, values_length, at_v}
use Rattle.exchange.specs.Reading.{point_at, encode, ◌⊞◌}
use Rattle.exchange.proofs.Reading.Laws.{length-encode, encode-ext, point_at-encode}
use Rattle.exchange.specs.Values.{Key, alpha, beta, part_v}
use Rattle.values.specs.Announced.{gamma, announced_of, v_of}
use Rattle.values.specs.Announced.Laws.{two-lengths, announced-front, part_v-gamma}
use Rattle.axes.proofs.Laws.Difference.{encode-xor, front-xor, share_row}
use Rattle.axes.specs.Row.{front_by, v_at, v_by, row_by, hidden_party}

-- ---- points behind others

at-start : (f : ℕ → Point) (t l : ℕ) (after : List ℕ) → l < t → point_at (encode f t ++ after) (4 * l) ≡ f l
at-start f t l after h =
    let z : 4 * l ≡ 0 + 4 * l = omega arith in ap (point_at (encode f t ++ after)) z ∙ point_at-encode [] f t after 0 l refl h

at-end : (before : List ℕ) (f : ℕ → Point) (t i l : ℕ) → length before ≡ i → l < t → point_at (before ++ encode f t) (i + 4 * l) ≡ f l
at-end before f t i l e h =
    ap (λ (z : List ℕ). point_at (before ++ z) (i + 4 * l)) (sym (append-nil (encode f t))) ∙ point_at-encode before f t [] i l e h

-- ---- a share's row

pub v-read : (p : Parameters) (first : Bool) (s block hats : List ℕ) (l : ℕ) (γ α̂ β̂ r : List ℕ) → γ ≡ bytes_of (point_at block (at_v p + 4 * l))
    → α̂ ≡ bytes_of (point_at hats (4 * l)) → β̂ ≡ bytes_of (point_at hats (factor_length p + 4 * l))
    → r ≡ bytes_of (v_of p s first (point γ) (point α̂) (point β̂) l) → r ≡ bytes_of (v_at p first s block hats l)
unfolding v_at
v-read p first s block hats l γ α̂ β̂ r eγ eα eβ er =
    er ∙ ap (λ (x : Point). bytes_of (v_of p s first x (point α̂) (point β̂) l)) (ap point eγ ∙ point-bytes_of _)
    ∙ ap₂ (λ (x y : Point). bytes_of (v_of p s first (point_at block (at_v p + 4 * l)) x y l)) (ap point eα ∙ point-bytes_of _) (ap point eβ ∙ point-bytes_of _)

module _ (p : Parameters) (key : Key) (m2 : List ℕ) (first : Bool) (s : List ℕ) where
  pub front_by-is : (block : List ℕ) → block ≡ announced_of p key m2 first s
      → front_by p block ≡ encode (alpha p key m2 first s) p.t ++ encode (beta p key m2 first s) p.t
  unfolding front_by
  front_by-is block eb = ap (take (values_length p)) eb ∙ announced-front p key m2 first s

  v_by-is : (block hats : List ℕ) (α̂ β̂ : ℕ → Point) → block ≡ announced_of p key m2 first s → hats ≡ encode α̂ p.t ++ encode β̂ p.t
      → v_by p first s block hats ≡ encode (λ l. part_v p key m2 first s (α̂ l) (β̂ l) l) p.t
  unfolding v_by v_at announced_of
  v_by-is block hats α̂ β̂ eb es =
      encode-ext _ _ p.t (λ l h. ap (λ (x : Point). v_of p s first x (point_at hats (4 * l)) (point_at hats (factor_length p + 4 * l)) l) (third l h)
      ∙ ap₂ (λ (x y : Point). v_of p s first (gamma p m2 s l) x y l)
      (ap (λ (z : List ℕ). point_at z (4 * l)) es ∙ at-start α̂ p.t l (encode β̂ p.t) h)
      (ap (λ (z : List ℕ). point_at z (factor_length p + 4 * l)) es ∙ at-end (encode α̂ p.t) β̂ p.t (factor_length p) l (length-encode α̂ p.t) h)
      ∙ sym (part_v-gamma p key m2 first s (α̂ l) (β̂ l) l))
    where
      third : (l : ℕ) → l < p.t → point_at block (at_v p + 4 * l) ≡ gamma p m2 s l
      third l h =
          ap (λ (z : List ℕ). point_at z (at_v p + 4 * l)) (eb ∙ sym (append_assoc (encode (alpha p key m2 first s) p.t) (encode (beta p key m2 first s) p.t) _))
          ∙ at-end (encode (alpha p key m2 first s) p.t ++ encode (beta p key m2 first s) p.t) (gamma p m2 s) p.t (at_v p) l (two-lengths p _ _) h

  pub row_by-is : (block hats : List ℕ) (α̂ β̂ : ℕ → Point) → block ≡ announced_of p key m2 first s
      → hats ≡ encode α̂ p.t ++ encode β̂ p.t → row_by p first s block hats ≡ share_row p key m2 first s α̂ β̂
  unfolding row_by share_row
  row_by-is block hats α̂ β̂ eb es =
      ap₂ ◌++◌ (front_by-is block eb) (v_by-is block hats α̂ β̂ eb es)
      ∙ append_assoc (encode (alpha p key m2 first s) p.t) (encode (beta p key m2 first s) p.t) _

-- ---- the party that holds the hidden leaf

module _ (p : Parameters) (leaf j : ℕ) where
  pub hidden-inside : leaf < leaves p → hidden_party p leaf j ≡ digit p j leaf
  unfolding hidden_party
  hidden-inside h = ap (λ (b : Bool). cond b (digit p j leaf) (side p)) (lt-ltb leaf (leaves p) h)

  pub hidden-outside : leaves p ≤ leaf → hidden_party p leaf j ≡ side p
  unfolding hidden_party
  hidden-outside h = ap (λ (b : Bool). cond b (digit p j leaf) (side p)) (le-ltb leaf (leaves p) h)

module _ (t : ℕ) (f g v α⋆ β⋆ w : ℕ → Point) where
  abbrev e : (ℕ → Point) → List ℕ
  e h = encode h t

  pub hide-made : xor_list (e f ++ (e g ++ e v)) (e α⋆ ++ (e β⋆ ++ e w)) ≡ e (λ l. f l ⊞ α⋆ l) ++ (e (λ l. g l ⊞ β⋆ l) ++ e (λ l. v l ⊞ w l))
  hide-made =
      front-xor f α⋆ t _ _ ∙ ap (λ (z : List ℕ). e (λ l. f l ⊞ α⋆ l) ++ z) (front-xor g β⋆ t _ _
      ∙ ap (λ (z : List ℕ). e (λ l. g l ⊞ β⋆ l) ++ z) (encode-xor v w t))

-- the end of a row is its v
pub row-v : (p : Parameters) (f g v : ℕ → Point) → drop (at_v p) (encode f p.t ++ (encode g p.t ++ encode v p.t)) ≡ encode v p.t
row-v p f g v =
    ap (drop (at_v p)) (sym (append_assoc (encode f p.t) (encode g p.t) (encode v p.t)))
    ∙ drop_at (encode f p.t ++ encode g p.t) (encode v p.t) (at_v p) (two-lengths p f g)
