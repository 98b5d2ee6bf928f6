-- The comparison step by step: a, b, c, i are what the four searches found, rows and rows' the rows that were compared.
--
-- response-apart, row_apart          a search at layers 7 and 6 found something: it gives the answer
-- rows-equal                         neither did: the leaves give it
-- commitment-apart, leaf_apart       the same at layers 5 and 4
-- all-equal                          none did: the states
use Rattle.std.specs.Prelude.{◌≡◌, List, ℕ, ◌+◌, true, false, Option, Some, None, is_some}
use Rattle.std.proofs.Common.{sym, ◌∙◌}
use borrow.Author.Tests.{lt-ltb, le-ltb}
use Rattle.parameters.specs.declared.Parameters.{Parameters}
use Rattle.layout.specs.Layout.{leaves}
use Rattle.exchange.specs.Extractor.{unequal, states as extracted}
use Rattle.extractor.specs.Chain.{row_chain, leaf_chain}
use Rattle.extractor.specs.Head.{first_below, first_below-is, first_below-some, first_below-none}
use Rattle.extractor.specs.Comparison.{View, row_at, digest_at, commitments, leaf_at, apart, both_apart, first_apart, first_opened, output_of, axis_of, leaf_comparison, comparison}

module _ (p : Parameters) (prefix : List ℕ) (v v' : View) where
  module _ (rows rows' : List ℕ) (er : rows ≡ v.rows) (er' : rows' ≡ v'.rows) (a : Option ℕ)
      (ea : a ≡ first_below (apart (digest_at p prefix rows) (digest_at p prefix rows')) p.axes) where
    pub response-apart : is_some a ≡ true → comparison p prefix v v' ≡ unequal 7 0
    unfolding comparison row_chain first_apart
    response-apart h = rw (← er, ← er', ← first_below-is (apart (digest_at p prefix rows) (digest_at p prefix rows')) p.axes, ← ea, h)

    module _ (la : is_some a ≡ false) (b : Option ℕ) (eb : b ≡ first_below (apart (row_at p rows) (row_at p rows')) p.axes) where
      pub row_apart : (j : ℕ) → b ≡ Some j → comparison p prefix v v' ≡ unequal 6 (j + 1)
      unfolding comparison row_chain first_apart
      row_apart j h =
          let (q, l) = first_below-some _ _ j (sym h ∙ eb) in
          rw (← er, ← er', ← first_below-is (apart (digest_at p prefix rows) (digest_at p prefix rows')) p.axes, ← ea, la, ← q, lt-ltb j p.axes l)

      pub rows-equal : b ≡ None → comparison p prefix v v' ≡ leaf_comparison p prefix v v'
      unfolding comparison row_chain first_apart
      rows-equal h =
          rw (
            ← er,
            ← er',
            ← first_below-is (apart (digest_at p prefix rows) (digest_at p prefix rows')) p.axes,
            ← ea,
            la,
            le-ltb _ p.axes (first_below-none _ _ (sym h ∙ eb)),
          )

  module _ (c : Option ℕ) (ec : c ≡ first_below (apart (commitments p prefix v) (commitments p prefix v')) (leaves p)) where
    pub commitment-apart : is_some c ≡ true → leaf_comparison p prefix v v' ≡ unequal 5 0
    unfolding leaf_comparison leaf_chain first_apart
    commitment-apart h = rw (← first_below-is (apart (commitments p prefix v) (commitments p prefix v')) (leaves p), ← ec, h)

    module _ (lc : is_some c ≡ false) (i : Option ℕ)
        (ei : i ≡ first_below (both_apart v.leaf v'.leaf (leaf_at p v.states v.aux) (leaf_at p v'.states v'.aux)) (leaves p)) where
      pub leaf_apart : (k : ℕ) → i ≡ Some k → leaf_comparison p prefix v v' ≡ unequal 4 k
      unfolding leaf_comparison leaf_chain first_apart first_opened
      leaf_apart k h =
          let (q, l) = first_below-some _ _ k (sym h ∙ ei) in
          rw (← first_below-is (apart (commitments p prefix v) (commitments p prefix v')) (leaves p), ← ec, lc, ← q, lt-ltb k (leaves p) l)

      pub all-equal : i ≡ None
          → leaf_comparison p prefix v v' ≡ extracted (axis_of v.leaf v'.leaf) (output_of p v.leaf v.states v.aux v'.states v'.aux)
      unfolding leaf_comparison leaf_chain first_apart first_opened
      all-equal h =
          rw (
            ← first_below-is (apart (commitments p prefix v) (commitments p prefix v')) (leaves p),
            ← ec,
            lc,
            le-ltb _ (leaves p) (first_below-none _ _ (sym h ∙ ei)),
          )
