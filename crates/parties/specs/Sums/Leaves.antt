-- The sums, leaf after leaf.
--
-- sums_to p s hidden n     the sums of the shares of the leaves below n, but for the hidden leaf
-- sums_none, sums-more, sums-all   before the first leaf, one leaf more, and after the last one
-- length-sum              a sum of shares is as long as a share
-- length-sums, sums_at    the length of `party_sums`, and the sum at an index in it
use Rattle.std.specs.Prelude.{◌≡◌, Bool, ◌&&◌, ℕ, ◌+◌, ◌≤◌, ◌<◌, length, replicate}
use Rattle.std.proofs.Math.Path.{refl, sym, ap}
use Rattle.std.proofs.Common.{◌∙◌, add-one}
use Rattle.std.proofs.Math.Bool.{true, false, not, cond, and-true, and-false}
use mathlib.Core.List.{List}
use Rattle.std.proofs.Math.Dec.{eqb}
use Rattle.lists.specs.Sum.{xor_list}
use Rattle.parameters.specs.declared.Parameters.{Parameters}
use Rattle.layout.specs.Layout.{sum_count, sums_length, leaves, share_length}
use Rattle.exchange.specs.Sequences.{joined}
use Rattle.exchange.proofs.Sequences.Laws.{joined-ext, length-joined, part-joined, joined-zeros}
use Rattle.exchange.specs.Parties.{total}
use Rattle.exchange.proofs.Parties.Laws.{total-no, length-total}
use Rattle.parties.specs.Sums.{in_sum, disclosed_at, sum_at, added_leaf, party_sums}

module _ (p : Parameters) (s : ℕ → List ℕ) (hidden : ℕ) where
  unfoldable pub sums_to : ℕ → List ℕ
  sums_to n = joined (λ q. total p (disclosed_at p hidden q) s n) (sum_count p)

  pub sums_none : replicate (sums_length p) 0 ≡ sums_to 0
  unfolding sums_to total
  sums_none = sym (joined-zeros (share_length p) (sum_count p))

  pub sums-all : sums_to (leaves p) ≡ party_sums p s hidden
  unfolding sums_to party_sums
  sums-all = refl

  module _ (short : (i : ℕ) → length (s i) ≤ share_length p) where
    pub length-sum : (picks : ℕ → Bool) (n : ℕ) → length (total p picks s n) ≡ share_length p
    length-sum picks n = length-total p picks s n (λ i l e. short i)

    pub sums-more : (n : ℕ) → cond (eqb n hidden) (sums_to n) (added_leaf p n (s n) (sums_to n)) ≡ sums_to (n + 1)
    unfolding sums_to added_leaf total
    sums-more n = go (eqb n hidden) refl
      where
        go : (t : Bool) → eqb n hidden ≡ t → cond t (sums_to n) (added_leaf p n (s n) (sums_to n)) ≡ sums_to (n + 1)
        go true e =
            joined-ext _ _ (sum_count p)
            (λ q h. sym
            (ap (total p (disclosed_at p hidden q) s) (add-one n)
            ∙ total-no p (disclosed_at p hidden q) s n (ap (λ (t : Bool). in_sum p q n && not t) e ∙ and-false (in_sum p q n))))
        go false e =
            joined-ext _ _ (sum_count p)
            (λ q h. ap (λ (l : List ℕ). cond (in_sum p q n) (xor_list l (s n)) l) (part-joined _ (share_length p) (sum_count p) (λ q h. length-sum (disclosed_at p hidden q) n) q h)
            ∙ ap (λ (t : Bool). cond t (xor_list (total p (disclosed_at p hidden q) s n) (s n)) (total p (disclosed_at p hidden q) s n))
            (sym (ap (λ (t : Bool). in_sum p q n && not t) e ∙ and-true (in_sum p q n)))
            ∙ ap (total p (disclosed_at p hidden q) s) (sym (add-one n)))

    pub length-sums : length (party_sums p s hidden) ≡ sums_length p
    unfolding party_sums
    length-sums = length-joined _ (sum_count p) (share_length p) (λ q h. length-sum (disclosed_at p hidden q) (leaves p))

    pub sums_at : (q : ℕ) → q < sum_count p → sum_at p (party_sums p s hidden) q ≡ total p (disclosed_at p hidden q) s (leaves p)
    unfolding party_sums
    sums_at q h = part-joined _ (share_length p) (sum_count p) (λ q h. length-sum (disclosed_at p hidden q) (leaves p)) q h
