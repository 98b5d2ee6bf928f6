-- H'x of each share behind its x, in the same words.
--
--   Imaged w₀ matrix k i w                  in w the first k words are those of w₀, and behind them each share has H' times its first i entries
--   imaged-fits                             the columns stand within the matrix
--   imaged-none, imaged-more, imaged-all    no column is added where w₀ is zero behind its first k words; one column more; all
use Rattle.std.specs.Prelude.{◌≡◌, refl, List, ◌++◌, map, ℕ, ◌+◌, ◌-◌, ◌*◌, ◌≤◌, ◌<◌, length, get_or, take, drop, replicate}
use Rattle.std.proofs.Common.{sym, ap, ◌∙◌, arith, length-append, length-drop, take_at, drop_at, get_or-take, length-take-le}
use Rattle.lists.specs.Part.Laws.{tail-part, tail-back}
use Rattle.lists.specs.Sum.{xor_list}
use Rattle.relation.specs.Key.{rows}
use Rattle.packed.specs.Word.{scaled}
use Rattle.packed.specs.Share.{share}
use Rattle.packed.specs.Share.Laws.{length-share, zeros-share}
use Rattle.coefficients.specs.Columns.{column, front, front-all, rows_none, turn}

pub record Imaged (w₀ matrix : List ℕ) (k i : ℕ) (w : List ℕ) : Type 0 where
  pub sized : length w ≡ length w₀
  pub kept : take k w ≡ take k w₀
  pub done : (s : ℕ) → s < 8 → share s (drop k w) ≡ rows (length w₀ - k) matrix (front i (share s (take k w₀)))

module _ (w₀ matrix : List ℕ) (k : ℕ) where
  pub imaged-none : drop k w₀ ≡ replicate (length w₀ - k) 0 → Imaged w₀ matrix k 0 w₀
  imaged-none e = record {
    sized = refl;
    kept = refl;
    done = λ s h. ap (share s) e ∙ zeros-share s (length w₀ - k) ∙ sym (rows_none (length w₀ - k) matrix (share s (take k w₀)));
  }

  pub imaged-all : (i : ℕ) (w : List ℕ) → k ≤ length w₀ → i ≡ k → Imaged w₀ matrix k i w
      → (s : ℕ) → s < 8 → share s (drop k w) ≡ rows (length w₀ - k) matrix (share s (take k w₀))
  imaged-all i w room e g s h =
      let l : i ≡ length (share s (take k w₀)) = e ∙ sym (length-share s (take k w₀) ∙ length-take-le k w₀ room) in
      rw (l, front-all (share s (take k w₀))) at (g.done s h)

  pub imaged-fits : (i : ℕ) (w : List ℕ) → Imaged w₀ matrix k i w → (length w₀ - k) * k ≤ length matrix
      → length (take (length w - k) (drop k w)) * k ≤ length matrix
  imaged-fits i w g h = rw (tail-part, length-drop, g.sized) h

  module _ (i : ℕ) (w u : List ℕ) (room : k ≤ length w₀) (hi : i < k) (g : Imaged w₀ matrix k i w)
      (eu : u ≡ xor_list (take (length w - k) (drop k w))
      (map (scaled (get_or w i 0)) (column (length (take (length w - k) (drop k w))) k i matrix))) where
    wide : length (take k w₀) ≡ k
    wide = length-take-le k w₀ room

    high : length (drop k w) ≡ length w₀ - k
    high = length-drop k w ∙ ap (λ (n : ℕ). n - k) g.sized

    entry : get_or w i 0 ≡ get_or (take k w₀) i 0
    entry = sym (get_or-take k w i 0 hi) ∙ ap (λ (l : List ℕ). get_or l i 0) g.kept

    added : u ≡ xor_list (drop k w) (map (scaled (get_or (take k w₀) i 0)) (column (length w₀ - k) k i matrix))
    added = rw (tail-part w k, entry, high) at eu

    whole : take k w ++ (u ++ drop (length w - k) (drop k w)) ≡ take k w₀ ++ u
    whole = let s = g.sized in tail-back w u k (omega arith) ∙ ap (λ (l : List ℕ). l ++ u) g.kept

    pub imaged-more : length u ≡ length (take (length w - k) (drop k w)) → Imaged w₀ matrix k (i + 1) (take k w ++ (u ++ drop (length w - k) (drop k w)))
    imaged-more lu =
        let a = wide in
        let b : length u ≡ length w₀ - k = lu ∙ ap length (tail-part w k) ∙ high in
        let s = g.sized in record {
          sized = ap length whole ∙ length-append (take k w₀) u ∙ omega arith;
          kept = ap (take k) whole ∙ take_at (take k w₀) u k wide;
          done = λ s h. rw (whole, drop_at (take k w₀) u k wide, added)
              (rw wide at (turn s (length w₀ - k) i matrix (take k w₀) (drop k w) h (omega arith) (g.done s h)));
        }
