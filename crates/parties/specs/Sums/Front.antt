-- What the front of the work area holds once aux is added into the sum of all leaves (`filled`).
--
-- Known p hidden aux      aux is no longer than it may be, and empty where leaf n−1, which it belongs to, is hidden
-- filled p pre st hidden aux   the sums of all shares as hashed, with aux added
-- sum-total               the sum of all disclosed leaves as hashed
-- total-filled            the same with aux
-- party-filled            each party's sum of disclosed leaves, with aux, the last one's from what the others leave
use Rattle.std.specs.Prelude.{◌≡◌, Bool, true, ◌&&◌, ℕ, ◌+◌, ◌-◌, ◌*◌, ◌≤◌, ◌<◌, eqb, ltb, replicate}
use Rattle.std.proofs.Math.Path.{sym, ap}
use Rattle.std.proofs.Common.{◌∙◌, arith, lt-ltb, le-ltb}
use Rattle.std.proofs.Math.Bool.{not, cond}
use mathlib.Core.List.{List, [], ◌++◌}
use Rattle.std.proofs.Math.Decide.{dec_lt, ℕ_discrete}
use Rattle.std.proofs.Math.ListN.{length, length-append}
use Rattle.std.proofs.lemmas.List.{length-replicate}
use Rattle.lists.specs.Part.Laws.{length_part}
use Rattle.lists.specs.Sum.{xor_at}
use Rattle.shake256.specs.Fips.{SHAKE256}
use Rattle.shake256.proofs.Laws.{length-SHAKE256}
use Rattle.parameters.specs.declared.Parameters.{Parameters}
use Rattle.layout.specs.Layout.{side, others, sum_count, sum_index, sums_length, leaves, aux_length, share_length, at_x}
use Rattle.layout.specs.Layout.Laws.{index-lt, side-others, total-lt, sum_fits}
use Rattle.exchange.specs.Leaf.{share}
use Rattle.exchange.proofs.Leaf.Laws.{length-share-le}
use Rattle.exchange.specs.Parties.{total, party_of}
use Rattle.leaves.specs.States.{state_at}
use Rattle.parties.specs.Blocks.{xor_at-zeros, xor_at-nil, xor_at-inner, part-added, part-kept}
use Rattle.parties.specs.Totals.{disclosed_of, total-picks, less-ext, last-party, party-without-aux, total-with-aux, total-without-aux}
use Rattle.parties.specs.Drawn.{drawn_share}
use Rattle.parties.specs.Drawn.Laws.{drawn_share-short}
use Rattle.parties.specs.Sums.{in_sum, disclosed_at, sum_at, party_sums, less, with_last, with_aux}
use Rattle.parties.specs.Sums.Index.{in-total, in-index, index-other}
use Rattle.parties.specs.Sums.Leaves.{length-sum, length-sums, sums_at}

-- ---- aux is added

module _ (p : Parameters) (d : List ℕ) (area : length d ≡ sums_length p) (aux : List ℕ) (short : length aux ≤ aux_length p) where
  padded : List ℕ
  padded = replicate (at_x p) 0 ++ aux

  length-padded : length padded ≡ at_x p + length aux
  unfolding padded
  length-padded = length-append (replicate (at_x p) 0) aux ∙ ap (λ (n : ℕ). n + length aux) (length-replicate (at_x p) 0)

  fits : p.axes * share_length p + share_length p ≤ length d
  fits = omega (arith, sum_fits p p.axes (total-lt p))

  inner : with_aux p d aux ≡ xor_at d (p.axes * share_length p) padded
  unfolding padded
  inner = xor_at-inner d (p.axes * share_length p) (at_x p) aux (omega (arith, fits))

  aux-other : (q : ℕ) → q < sum_count p → (q ≡ p.axes → ⊥) → sum_at p (with_aux p d aux) q ≡ sum_at p d q
  aux-other q h other =
      ap (λ (l : List ℕ). sum_at p l q) inner
      ∙ part-kept d padded (share_length p) (sum_count p) p.axes q (omega (arith, length-padded)) area (total-lt p) h other

  aux-total : sum_at p (with_aux p d aux) p.axes ≡ xor_at (sum_at p d p.axes) (at_x p) aux
  unfolding padded
  aux-total =
      let size : length (sum_at p d p.axes) ≡ share_length p = length_part d (p.axes * share_length p) (share_length p) fits in
      ap (λ (l : List ℕ). sum_at p l p.axes) inner
      ∙ part-added d (p.axes * share_length p) padded (share_length p) (omega (arith, length-padded)) fits
      ∙ sym (xor_at-zeros (sum_at p d p.axes) (at_x p) aux (omega arith))

-- ---- the sums of shares as hashed, with aux added

abbrev pub filled : Parameters → List ℕ → List ℕ → ℕ → List ℕ → List ℕ
filled p prefix states hidden aux = with_aux p (party_sums p (drawn_share p prefix states) hidden) aux

pub record Known (p : Parameters) (hidden : ℕ) (aux : List ℕ) : Type 0 where
  pub short : length aux ≤ aux_length p
  pub last-hidden : hidden ≡ leaves p - 1 → aux ≡ []

module _ (p : Parameters) (prefix states : List ℕ) (hidden : ℕ) where
  abbrev drawn : ℕ → List ℕ
  drawn = drawn_share p prefix states

  abbrev sums : List ℕ
  sums = party_sums p drawn hidden

  long : length sums ≡ sums_length p
  long = length-sums p drawn hidden (drawn_share-short p prefix states)

  sum_of : (q : ℕ) → q < sum_count p → (picks : ℕ → Bool) → ((i : ℕ) → in_sum p q i ≡ picks i)
      → sum_at p sums q ≡ total p (λ i. picks i && not (eqb i hidden)) drawn (leaves p)
  sum_of q h picks e =
      sums_at p drawn hidden (drawn_share-short p prefix states) q h
      ∙ total-picks p drawn (disclosed_at p hidden q) (λ i. picks i && not (eqb i hidden)) (leaves p) (λ i l. ap (λ (t : Bool). t && not (eqb i hidden)) (e i))

  pub sum-total : sum_at p (party_sums p (drawn_share p prefix states) hidden) p.axes ≡ total p (λ i. not (eqb i hidden)) (drawn_share p prefix states) (leaves p)
  sum-total = sum_of p.axes (total-lt p) (λ i. true) (in-total p)

  module _ (aux : List ℕ) (known : Known p hidden aux) where
    abbrev shares : ℕ → List ℕ
    shares i = share SHAKE256 p prefix i (state_at states i) aux

    short : (i : ℕ) → length (shares i) ≤ share_length p
    short i = length-share-le SHAKE256 length-SHAKE256 p prefix i (state_at states i) aux known.short

    -- aux in the sum of all disclosed leaves
    with-aux : Dec (hidden ≡ leaves p - 1)
        → xor_at (total p (λ i. not (eqb i hidden)) drawn (leaves p)) (at_x p) aux ≡ total p (λ i. not (eqb i hidden)) shares (leaves p)
    unfolding drawn_share
    with-aux (yes e) =
        ap (xor_at (total p (λ i. not (eqb i hidden)) drawn (leaves p)) (at_x p)) (known.last-hidden e)
        ∙ xor_at-nil (total p (λ i. not (eqb i hidden)) drawn (leaves p)) (at_x p)
        (omega (arith, length-sum p drawn hidden (drawn_share-short p prefix states) (λ i. not (eqb i hidden)) (leaves p)))
        ∙ total-without-aux SHAKE256 p prefix (state_at states) [] aux hidden e
    with-aux (no e) = sym (total-with-aux SHAKE256 p prefix (state_at states) length-SHAKE256 aux hidden e known.short)

    pub total-filled : sum_at p (filled p prefix states hidden aux) p.axes
        ≡ total p (λ i. not (eqb i hidden)) (λ i. share SHAKE256 p prefix i (state_at states i) aux) (leaves p)
    total-filled =
        aux-total p sums long aux known.short ∙ ap (λ (l : List ℕ). xor_at l (at_x p) aux) sum-total ∙ with-aux (ℕ_discrete hidden (leaves p - 1))

    one-filled : (j c : ℕ) → j < p.axes → c < others p
        → sum_at p (filled p prefix states hidden aux) (sum_index p j c) ≡ total p (disclosed_of p hidden j c) shares (leaves p)
    unfolding drawn_share
    one-filled j c hj hc =
        aux-other p sums long aux known.short (sum_index p j c) (index-lt p j c hj hc) (index-other p j c hj)
        ∙ sum_of (sum_index p j c) (index-lt p j c hj hc) (party_of p j c) (λ i. in-index p j c i hj)
        ∙ party-without-aux SHAKE256 p prefix (state_at states) [] aux hidden j c hj hc

    pub party-filled : (j c : ℕ) → j < p.axes → c < side p
        → with_last p (sum_at p (filled p prefix states hidden aux) p.axes) (λ c. sum_at p (filled p prefix states hidden aux) (sum_index p j c)) c
        ≡ total p (disclosed_of p hidden j c) (λ i. share SHAKE256 p prefix i (state_at states i) aux) (leaves p)
    unfolding with_last
    party-filled j c hj hc = go (dec_lt c (others p))
      where
        go : Dec (c < others p)
            → cond (ltb c (others p)) (sum_at p (filled p prefix states hidden aux) (sum_index p j c))
            (less (sum_at p (filled p prefix states hidden aux) p.axes) (λ c. sum_at p (filled p prefix states hidden aux) (sum_index p j c)) (others p))
            ≡ total p (disclosed_of p hidden j c) shares (leaves p)
        go (yes l) = rw (lt-ltb c (others p) l) (one-filled j c hj l)
        go (no l) =
            let e : others p ≡ c = omega (arith, side-others p) in
            rw (le-ltb c (others p) (omega arith))
            (ap (λ (t : List ℕ). less t (λ c. sum_at p (filled p prefix states hidden aux) (sum_index p j c)) (others p)) total-filled
            ∙ less-ext _ _ (λ c. total p (disclosed_of p hidden j c) shares (leaves p)) (others p) (λ c h. one-filled j c hj h)
            ∙ last-party p shares short (λ i. not (eqb i hidden)) j (leaves p)
            ∙ ap (λ (c : ℕ). total p (disclosed_of p hidden j c) shares (leaves p)) e)
