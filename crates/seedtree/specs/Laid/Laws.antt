-- The laws of seeds in a buffer.
--
-- slot-seed       a seed of sixteen bytes is its own place
-- full-slotted    seeds of sixteen bytes have places of sixteen bytes
-- each_append     what holds of each element of two lists holds of each of the joined list
-- laid-append     joined lists of seeds
-- length-laid     sixteen bytes a seed
-- part-laid       the place of seed k
use Rattle.std.specs.Prelude.{◌≡◌, refl, List, [], ◌∷◌, ◌++◌, ℕ, zero, suc, ◌+◌, ◌*◌, ◌<◌, length, get_or}
use Rattle.std.proofs.Common.{sym, ap, ap₂, ◌∙◌, append_assoc, not-suc-le-zero, le_of_suc-le-suc, arith, length-append, take_at}
use Rattle.std.proofs.Math.Seq.{drop-append-add}
use Rattle.algebra.specs.Each.{Each}
use Rattle.algebra.specs.Each.Laws.{each_map}
use Rattle.lists.specs.Part.{part}
use Rattle.seedtree.specs.Laid.{slot, laid, Full, Slotted}

pub slot-seed : (s : List ℕ) → length s ≡ 16 → slot s ≡ s
unfolding slot
slot-seed [] e = absurd (omega arith)
slot-seed (b ∷ s) e = refl

pub full-slotted : (ss : List (List ℕ)) → Full ss → Slotted ss
full-slotted ss h = each_map (λ s e. ap length (slot-seed s e) ∙ e) ss h

pub each_append : {A : Type 0} (P : A → Type 0) (a b : List A) → Each P a → Each P b → Each P (a ++ b)
each_append P [] b h k = k
each_append P (x ∷ a) b h k = (h.0, each_append P a b h.1 k)

pub laid-append : (a b : List (List ℕ)) → laid (a ++ b) ≡ laid a ++ laid b
unfolding laid
laid-append [] b = refl
laid-append (s ∷ a) b = ap (◌++◌ (slot s)) (laid-append a b) ∙ sym (append_assoc (slot s) (laid a) (laid b))

pub length-laid : (ss : List (List ℕ)) → Slotted ss → length (laid ss) ≡ 16 * length ss
unfolding laid
length-laid [] h = refl
length-laid (s ∷ ss) h = length-append (slot s) (laid ss) ∙ ap₂ ◌+◌ h.0 (length-laid ss h.1) ∙ omega arith

pub part-laid : (ss : List (List ℕ)) → Slotted ss → (k : ℕ) → k < length ss → part (laid ss) (16 * k) 16 ≡ slot (get_or ss k [])
unfolding laid part
part-laid [] h k i = absurd (not-suc-le-zero i)
part-laid (s ∷ ss) h zero i = take_at (slot s) (laid ss) 16 h.0
part-laid (s ∷ ss) h (suc k) i =
    let e : 16 * suc k ≡ length (slot s) + 16 * k = omega (arith, h.0) in
    ap (λ (n : ℕ). part (slot s ++ laid ss) n 16) e
    ∙ ap (λ (l : List ℕ). part l 0 16) (drop-append-add (slot s) (laid ss) (16 * k))
    ∙ part-laid ss h.1 k (le_of_suc-le-suc i)
