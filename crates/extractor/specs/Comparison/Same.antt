-- What is the same in both openings has one digest, and need not be hashed to be compared.
--
-- digest-same          equal rows: equal digests of layer 6
-- commitment-same      a leaf opened in both, of which layer 4 hashes the same: equal commitments
use Rattle.std.specs.Prelude.{◌≡◌, true, false, ◌&&◌, not, List, ◌∷◌, ℕ, ◌+◌, eqb}
use Rattle.std.proofs.Common.{sym, ap}
use Rattle.std.proofs.lemmas.Bool.{not-true}
use Rattle.lists.specs.Checks.Laws.{and_left, and_right}
use Rattle.lists.specs.Equal.{eq_list}
use Rattle.lists.specs.Equal.Laws.{eq_list-true, eq_list-of}
use Rattle.shake256.specs.Fips.{SHAKE256}
use Rattle.parameters.specs.declared.Parameters.{Parameters}
use Rattle.exchange.specs.Strings.{string, string4}
use Rattle.exchange.specs.Leaf.{commitment}
use Rattle.exchange.specs.Extractor.{opened_in_both}
use Rattle.leaves.specs.Commitments.{commitments_of}
use Rattle.extractor.specs.Comparison.{View, row_at, digest_at, commitments, leaf_at}

pub digest-same : (p : Parameters) (prefix rows others : List ℕ) (j : ℕ) → eq_list (row_at p rows j) (row_at p others j) ≡ true
    → true ≡ eq_list (digest_at p prefix rows j) (digest_at p prefix others j)
unfolding digest_at
digest-same p prefix rows others j e =
    sym (eq_list-of _ _ (ap (λ (r : List ℕ). SHAKE256 (string 6 prefix ((j + 1) ∷ r)) 32) (eq_list-true (row_at p rows j) (row_at p others j) e)))

pub commitment-same : (p : Parameters) (prefix : List ℕ) (v v' : View) (i : ℕ)
    → (opened_in_both v.leaf v'.leaf i && eq_list (leaf_at p v.states v.aux i) (leaf_at p v'.states v'.aux i)) ≡ true
    → true ≡ eq_list (commitments p prefix v i) (commitments p prefix v' i)
unfolding opened_in_both commitments_of commitment string4 leaf_at
commitment-same p prefix v v' i e =
    let both = and_left (opened_in_both v.leaf v'.leaf i) _ e in
    let first : eqb i v.leaf ≡ false = not-true _ (and_left (not (eqb i v.leaf)) _ both) in
    let second : eqb i v'.leaf ≡ false = not-true _ (and_right (not (eqb i v.leaf)) _ both) in
    let same = eq_list-true (leaf_at p v.states v.aux i) (leaf_at p v'.states v'.aux i) (and_right (opened_in_both v.leaf v'.leaf i) _ e) in
    sym (eq_list-of _ _ (rw (first, second) (ap (λ (m : List ℕ). SHAKE256 (string 4 prefix (i ∷ m)) 32) same)))
