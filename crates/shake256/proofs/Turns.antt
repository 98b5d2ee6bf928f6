-- A turn of the loops: some bytes more are absorbed, or squeezed and stored. l and n are the lanes and the place of the
-- sponge t made ready.
use mathlib.Core.Path.{sym, ap, ◌≡◌, ◌∙◌}
use mathlib.Core.List.{List, append_assoc, ◌++◌}
use Prim.Native.Nat.{ℕ, ◌+◌, ◌≤◌, ◌<◌}
use native.Mathlib.Omega.{arith}
use lib.ListN.{length, take, drop}
use lib.Seq.{length-take-le, take_at, drop_at, drop-drop}
use Rattle.std.proofs.lemmas.List.{take-append-drop}
use Rattle.fips.specs.Parameters.{rate}
use Rattle.fips.specs.Bytes.{bytes_at}
use Rattle.shake256.specs.declared.Sponge.{Sponge}
use Rattle.shake256.specs.Stream.{ready, absorbed, after, squeezed}
use Rattle.shake256.specs.Turns.{Taken}
use Rattle.shake256.proofs.Sponges.{mk, absorbed-append, absorbed-ready, absorbed-run, after-add, after-ready, after_run, squeezed-add, squeezed-ready, squeezed-run, length-squeezed}

pub absorbed-more : (t : Sponge) (l l' m : List ℕ) (n r : ℕ) → mk l n ≡ ready t → Taken n r m l l' → absorbed (mk l' (n + r)) (drop r m) ≡ absorbed t m
absorbed-more t l l' m n r ready-is turn = let vs = take r m in let long : length vs ≡ r = length-take-le r m turn.within in
    sym (absorbed-ready t m (omega (arith, turn.some, turn.within)) ∙ ap (λ (z : Sponge). absorbed z m) (sym ready-is)
    ∙ ap (absorbed (mk l n)) (sym (take-append-drop r m)) ∙ absorbed-append (mk l n) vs (drop r m)
    ∙ ap (λ (z : Sponge). absorbed z (drop r m)) (absorbed-run l n vs (omega (arith, long, turn.room)) ∙ (λ j. mk (sym turn.is j) (n + long j))))

module _ (s t : Sponge) (l : List ℕ) (n i r : ℕ) (now-is : t ≡ after s i) (ready-is : mk l n ≡ ready t) (fits : n + r ≤ rate) (some : 0 < r) where
  pub after_more : mk l (n + r) ≡ after s (i + r)
  after_more = sym
      (after-add s i r ∙ ap (λ (z : Sponge). after z r) (sym now-is) ∙ after-ready t r some ∙ ap (λ (z : Sponge). after z r) (sym ready-is)
      ∙ after_run l n r fits)

  bytes-are : bytes_at l n r ≡ squeezed (after s i) r
  bytes-are =
      sym (ap (λ (z : Sponge). squeezed z r) (sym now-is) ∙ squeezed-ready t r ∙ ap (λ (z : Sponge). squeezed z r) (sym ready-is) ∙ squeezed-run l n r fits)

  -- o is d with the first i bytes written
  pub written-more : (o d : List ℕ) → o ≡ squeezed s i ++ drop i d → take i o ++ (bytes_at l n r ++ drop r (drop i o)) ≡ squeezed s (i + r) ++ drop (i + r) d
  written-more o d o_is = (λ j. take i (o_is j) ++ (bytes-are j ++ drop r (drop i (o_is j))))
      ∙ (λ j. take_at (squeezed s i) (drop i d) i (length-squeezed s i) j
      ++ (squeezed (after s i) r ++ drop r (drop_at (squeezed s i) (drop i d) i (length-squeezed s i) j)))
      ∙ sym (append_assoc (squeezed s i) (squeezed (after s i) r) (drop r (drop i d)))
      ∙ (λ j. sym (squeezed-add s i r) j ++ drop-drop r i d j)
