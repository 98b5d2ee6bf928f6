-- The laws of what is expanded.
--
-- expanded-pieces      title and label, absorbed one after the other, give what is expanded
-- rests-none, rests-more, rests-all     a loop that takes the rest of each byte of s divided by n
-- leaves-are           for n leaves these are the hidden leaves
use Rattle.std.specs.Prelude.{◌≡◌, List, ◌++◌, map, ℕ, ◌+◌, ◌%◌, ◌^◌, ◌≤◌, ◌<◌, length, get_or, set}
use Rattle.std.proofs.Common.{sym, ap, ap₂, ◌∙◌, arith}
use Rattle.std.proofs.Math.Nat.{zero-mod}
use Rattle.std.proofs.lemmas.List.{length-map}
use Rattle.std.proofs.Math.ListN.{get_or-map}
use Rattle.lists.specs.Blend.{blend}
use Rattle.lists.specs.Blend.Laws.{blend-none, blend-late, blend-up, blend-all}
use Rattle.parameters.specs.declared.Parameters.{Parameters}
use Rattle.shake256.specs.Stream.{start, absorbed, finished, squeezed}
use Rattle.shake256.proofs.Sponges.{absorbed-append}
use Rattle.shake256.proofs.Laws.{squeezed-SHAKE256}
use Rattle.unlock.specs.Expanded.{title, leaf_label, expanded, leaves_of}

pub expanded-pieces : (label : List ℕ) (n : ℕ) → squeezed (finished (absorbed (absorbed start title) label)) n ≡ expanded label n
unfolding expanded
expanded-pieces label n = rw (← absorbed-append start title label) (squeezed-SHAKE256 (title ++ label) n)

module _ (n : ℕ) (s : List ℕ) where
  abbrev rests : List ℕ
  rests = map (λ b. b % n) s

  same : length rests ≡ length s
  same = length-map s (λ b. b % n)

  pub rests-none : s ≡ blend 0 rests s
  rests-none = blend-none rests s

  pub rests-more : (w : List ℕ) (i v : ℕ) → i < length s → w ≡ blend i rests s → v ≡ get_or w i 0 % n → set w i v ≡ blend (i + 1) rests s
  rests-more w i v h e f =
      let g : get_or rests i 0 ≡ get_or s i 0 % n = ap (λ (d : ℕ). get_or rests i d) (sym (zero-mod n)) ∙ get_or-map (λ (b : ℕ). b % n) s i 0 in
      let d : get_or w i 0 ≡ get_or s i 0 = ap (λ (l : List ℕ). get_or l i 0) e ∙ blend-late i i rests s same (omega arith) in
      blend-up i v rests s w same h e (f ∙ ap (λ (b : ℕ). b % n) d ∙ sym g)

  pub rests-all : {w : List ℕ} (i : ℕ) → length s ≤ i → w ≡ blend i rests s → w ≡ rests
  rests-all i h e = e ∙ blend-all i rests s same h

pub leaves-are : (p : Parameters) (m : ℕ) {n : ℕ} {s : List ℕ} → n ≡ 2 ^ p.axes → s ≡ expanded leaf_label m → map (λ b. b % n) s ≡ leaves_of p m
leaves-are p m e f = ap₂ (λ (k : ℕ) (l : List ℕ). map (λ b. b % k) l) e f
