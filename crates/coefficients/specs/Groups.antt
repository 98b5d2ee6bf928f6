-- The shares of a group are shares of all.
--
--   row_of p key first shares i   S of share i
--   group-fits                   a group of c shares from share i on lies within all
--   next-group                   the next group starts behind it
--   share-group                  share j of the group that starts at share i is share i + j
--   rows_made                    S of the shares of a group, from the words that interpolate them
--   rows-from                    they are S of the shares from its start on
--   end-lent                     how many bytes are lent behind the rows
--   rows_whole                   S of all shares, and F but its leading one behind them
use Rattle.std.specs.Prelude.{◌≡◌, refl, Bool, ℕ, ◌+◌, ◌-◌, ◌*◌, ◌≤◌, ◌<◌, length, get_or, drop, replicate}
use Rattle.std.proofs.Math.Path.{ap, ap₂}
use Rattle.std.proofs.Common.{◌∙◌, add-mul, mul-le-mul_right, arith, length-take, length-drop, take_at, length-take-le}
use mathlib.Core.List.{List, ◌++◌}
use Rattle.std.proofs.Math.ListN.{take}
use Rattle.std.proofs.Math.Seq.{drop_at}
use Rattle.lists.specs.Part.{part}
use Rattle.lists.specs.Part.Laws.{part-part, part-fits, tail-back}
use Rattle.parameters.specs.declared.Parameters.{Parameters}
use Rattle.polynomial.specs.Interpolant.{interpolant_of, vanishing_of}
use Rattle.exchange.specs.Sequences.{joined}
use Rattle.exchange.proofs.Sequences.Laws.{joined-ext, part-joined}
use Rattle.layout.specs.Layout.{share_length}
use Rattle.exchange.specs.Values.{Key, x_of, s_of, F}
use Rattle.packed.specs.Share.{share}
use Rattle.packed.specs.Share.Laws.{length-share}
use Rattle.interpolants.specs.Words.{words_of}
use Rattle.interpolants.proofs.Laws.Words.{share-words}
use Rattle.interpolants.proofs.Laws.Shares.{share-end}
use Rattle.coefficients.specs.Shares.{share_of}

-- ---- parts of one size

pub group-fits : (i c n size a z m : ℕ) → i + c ≤ n → a ≡ i * size → z ≡ c * size → m ≡ n * size → a + z ≤ m
group-fits i c n size a z m l ea ez em =
    let e = add-mul i c size in
    let k = mul-le-mul_right size l in
    omega arith

pub next-group : (i c size a z : ℕ) → a ≡ i * size → z ≡ c * size → a + z ≡ (i + c) * size
next-group i c size a z ea ez = let e = add-mul i c size in omega arith

-- the group as it is lent
pub share-group : (p : Parameters) (shares : List ℕ) (i c a z j : ℕ) → a ≡ i * share_length p → z ≡ c * share_length p → j < c
    → share_of p (take (a + z - a) (drop a shares)) j ≡ share_of p shares (i + j)
unfolding part
share-group p shares i c a z j ea ez l =
    let size : ℕ = share_length p in
    let f = part-fits j c size l in
    let e : a + z - a ≡ z = omega arith in
    let s : a + j * size ≡ (i + j) * size = next-group i j size a (j * size) ea refl in
    ap (λ (k : ℕ). part (take k (drop a shares)) (j * size) size) e ∙ part-part shares a z (j * size) size (omega arith) ∙ ap (λ (k : ℕ). part shares k size) s

-- ---- S

abbrev pub row_of : Parameters → Key → Bool → List ℕ → ℕ → List ℕ
row_of p key first shares i = s_of p key first (share_of p shares i)

-- v is what the front of the words becomes, rows its shares one after another, and words what interpolates these
pub rows_made : (p : Parameters) (key : Key) (first : Bool) (shares : List ℕ) (n m : ℕ) (v rest rows words out : List ℕ) → n ≤ 8 → length v ≡ m
    → length rows ≡ n * m → ((k : ℕ) → get_or rows k 0 < 256) → ((i : ℕ) → i < n → share i v ≡ x_of p key first (share_of p shares i))
    → rows ≡ joined (λ i. share i (take m (v ++ rest))) n
    → ((i : ℕ) → i < 8 → share i words ≡ replicate (255 - m) 0 ++ interpolant_of (share i (words_of rows n m)))
    → out ≡ joined (λ i. share i (take (length words - (255 - m)) (drop (255 - m) words))) n
    → out ≡ joined (row_of p key first shares) n
unfolding s_of
rows_made p key first shares n m v rest rows words out few lv lr bytes ev er ei eo =
    let vector : (i : ℕ) → i < n → part rows (i * m) m ≡ share i v
    = rw (er, take_at v rest m lv) (part-joined (λ i. share i v) m n (λ i h. length-share i v ∙ lv)) in
    eo ∙ joined-ext _ (row_of p key first shares) n
    (λ i h. share-end i m words _ (ei i (omega arith)) ∙ ap interpolant_of (share-words rows n m lr bytes i h ∙ vector i h ∙ ev i h))

-- rows is what the group that is lent from share i on leaves
pub rows-from : (p : Parameters) (key : Key) (first : Bool) (shares rows : List ℕ) (i c a z : ℕ) → a ≡ i * share_length p → z ≡ c * share_length p
    → rows ≡ joined (row_of p key first (take (a + z - a) (drop a shares))) c → rows ≡ joined (λ j. row_of p key first shares (i + j)) c
rows-from p key first shares rows i c a z ea ez e =
    e ∙ joined-ext _ (λ j. row_of p key first shares (i + j)) c (λ j h. ap (s_of p key first) (share-group p shares i c a z j ea ez h))

-- ---- all rows: from place a on there is room for one more

module _ (p : Parameters) (a : ℕ) (rows : List ℕ) (fits : a + p.m ≡ length rows) where
  pub end-lent : length (take (length rows - a) (drop a rows)) ≡ p.m
  end-lent = simp (length-take, length-drop) (omega arith)

  -- the end becomes f, and then the front z
  pub rows_whole : (z f s : List ℕ) → z ≡ s → let m = length (take (length rows - a) (drop a rows)) in f ≡ take m (vanishing_of m)
      → z ++ drop a (take a rows ++ (f ++ drop (length rows - a) (drop a rows))) ≡ s ++ take p.m (F p)
  unfolding F
  rows_whole z f s ez ef =
      ap₂ ◌++◌ ez (ap (drop a) (tail-back rows f a (omega arith)) ∙ drop_at (take a rows) f a (length-take-le a rows (omega arith)) ∙ ef
      ∙ ap (λ (m : ℕ). take m (vanishing_of m)) end-lent)
