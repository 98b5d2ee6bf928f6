-- The laws of a leaf. Of the hash only the length of what it gives is used.
--
-- share-last, share_other      the share of leaf n−1, and of any other, on which aux has no influence
-- SameAux, share-ext, string4-ext   a leaf's share and string depend on its state, and on aux where it is leaf n−1, and on nothing else of them
-- length-state                 a state has 32 bytes
-- length-share-le              a share has at most 12t + k + 2w bytes where aux has at most k + 2w + 4t
-- length-commitment            a commitment has 32 bytes
-- bytes-share, bytes-commitment   they are bytes, where the hash gives bytes and aux is bytes
use Rattle.std.specs.Prelude.{◌≡◌, refl, Bool, ℕ, ◌-◌, ◌≤◌, take}
use Rattle.std.proofs.Math.Path.{ap, ap₂}
use Rattle.std.proofs.Math.Bool.{true, false, cond}
use mathlib.Core.List.{List, [], ◌∷◌, ◌++◌}
use Rattle.std.proofs.Math.Nat.{le_of_eq}
use Rattle.std.proofs.Common.{arith}
use Rattle.std.proofs.Math.ListN.{length, length-append}
use Rattle.polynomial.specs.Bytes.{Bytes}
use Rattle.polynomial.specs.Bytes.Laws.{bytes-append}
use Rattle.parameters.specs.declared.Parameters.{Parameters}
use Rattle.layout.specs.Layout.{leaves, is_last, aux_length, share_length, at_x}
use Rattle.layout.specs.Layout.Laws.{is_last-true, is_last-false}
use Rattle.exchange.specs.Strings.{string, string3, string4}
use Rattle.exchange.specs.Leaf.{state, share, commitment}

abbrev drawn : (List ℕ → ℕ → List ℕ) → List ℕ → ℕ → List ℕ → ℕ → List ℕ
drawn hash prefix i st n = hash (string3 prefix i (take 16 st)) n

-- ---- what counts of aux

abbrev pub SameAux : Parameters → ℕ → List ℕ → List ℕ → Type 0
SameAux p i aux aux' = is_last p i ≡ true → aux ≡ aux'

module _ (p : Parameters) (prefix : List ℕ) (i : ℕ) (st st' aux aux' : List ℕ) where
  same_end : SameAux p i aux aux' → cond (is_last p i) aux [] ≡ cond (is_last p i) aux' []
  same_end h = go (is_last p i) h
    where
      go : (t : Bool) → (t ≡ true → aux ≡ aux') → cond t aux [] ≡ cond t aux' []
      go true h = h refl
      go false h = refl

  pub string4-ext : st ≡ st' → SameAux p i aux aux' → string4 p prefix i st aux ≡ string4 p prefix i st' aux'
  unfolding string4
  string4-ext e h = ap₂ (λ (s a : List ℕ). string 4 prefix (i ∷ (s ++ a))) e (same_end h)

  pub share-ext : (hash : List ℕ → ℕ → List ℕ) → st ≡ st' → SameAux p i aux aux' → share hash p prefix i st aux ≡ share hash p prefix i st' aux'
  unfolding share
  share-ext hash e h = go (is_last p i) h
    where
      go : (t : Bool) → (t ≡ true → aux ≡ aux') → cond t (drawn hash prefix i st (at_x p) ++ aux) (drawn hash prefix i st (share_length p))
          ≡ cond t (drawn hash prefix i st' (at_x p) ++ aux') (drawn hash prefix i st' (share_length p))
      go true h = ap₂ (λ (s a : List ℕ). drawn hash prefix i s (at_x p) ++ a) e (h refl)
      go false h = ap (λ (s : List ℕ). drawn hash prefix i s (share_length p)) e

module _ (hash : List ℕ → ℕ → List ℕ) where
  pub share-last : (p : Parameters) (prefix : List ℕ) (i : ℕ) (st aux : List ℕ) → i ≡ leaves p - 1
      → share hash p prefix i st aux ≡ hash (string3 prefix i (take 16 st)) (at_x p) ++ aux
  unfolding share
  share-last p prefix i st aux e = rw (is_last-true p i e)

  pub share_other : (p : Parameters) (prefix : List ℕ) (i : ℕ) (st aux : List ℕ) → (i ≡ leaves p - 1 → ⊥)
      → share hash p prefix i st aux ≡ hash (string3 prefix i (take 16 st)) (share_length p)
  unfolding share
  share_other p prefix i st aux e = rw (is_last-false p i e)

  -- ---- bytes

  module _ (hash-bytes : (s : List ℕ) (n : ℕ) → Bytes (hash s n)) where
    pub bytes-share : (p : Parameters) (prefix : List ℕ) (i : ℕ) (st aux : List ℕ) → Bytes aux → Bytes (share hash p prefix i st aux)
    unfolding share
    bytes-share p prefix i st aux h = go (is_last p i)
      where
        go : (t : Bool) → Bytes (cond t (drawn hash prefix i st (at_x p) ++ aux) (drawn hash prefix i st (share_length p)))
        go true = bytes-append (drawn hash prefix i st (at_x p)) aux (hash-bytes _ (at_x p)) h
        go false = hash-bytes _ (share_length p)

    pub bytes-commitment : (p : Parameters) (prefix : List ℕ) (i : ℕ) (st aux : List ℕ) → Bytes (commitment hash p prefix i st aux)
    unfolding commitment
    bytes-commitment p prefix i st aux = hash-bytes _ 32

  -- ---- lengths

  module _ (hash-length : (s : List ℕ) (n : ℕ) → length (hash s n) ≡ n) where
    pub length-state : (prefix : List ℕ) (i : ℕ) (seed : List ℕ) → length (state hash prefix i seed) ≡ 32
    unfolding state
    length-state prefix i seed = hash-length _ 32

    pub length-share-le : (p : Parameters) (prefix : List ℕ) (i : ℕ) (st aux : List ℕ) → length aux ≤ aux_length p
        → length (share hash p prefix i st aux) ≤ share_length p
    unfolding share
    length-share-le p prefix i st aux h = go (is_last p i)
      where
        go : (t : Bool) → length (cond t (drawn hash prefix i st (at_x p) ++ aux) (drawn hash prefix i st (share_length p))) ≤ share_length p
        go true = omega (arith, length-append (drawn hash prefix i st (at_x p)) aux, hash-length (string3 prefix i (take 16 st)) (at_x p))
        go false = le_of_eq (hash-length _ (share_length p))

    pub length-commitment : (p : Parameters) (prefix : List ℕ) (i : ℕ) (st aux : List ℕ) → length (commitment hash p prefix i st aux) ≡ 32
    unfolding commitment
    length-commitment p prefix i st aux = hash-length _ 32
