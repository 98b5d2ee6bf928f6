-- Equal rows have one digest (`digest-same`). Others lie both within the rows of all axes; their digests are made, then compared.
use Rattle.std.proofs.Common.{List, ap, ap₂, arith, sym, ℕ, ◌*◌, ◌+◌, ◌-◌, ◌∙◌, ◌∷◌, ◌≡◌, ◌≤◌}
use Rattle.lists.specs.Part.{part}
use Rattle.lists.specs.Part.Laws.{part-fits}
use Rattle.lists.specs.Equal.{eq_list}
use Rattle.layout.specs.Layout.{axis_length, rows_length}
use Rattle.shake256.specs.Fips.{SHAKE256}
use Rattle.exchange.specs.Strings.{string}
use Rattle.extractor.specs.Comparison.{digest_at}
use Rattle.extractor.specs.Comparison.Same.{digest-same}
use Rattle.extractor.proofs.digests.same_digest.Goals as goal
use Rattle.extractor.proofs.digests.same_digest.Goals.{Start}

fits : (c : Start) → (n : ℕ) → n ≡ axis_length c.args.p → c.args.axis * n + n ≤ rows_length c.args.p
fits c n e =
    omega (arith, part-fits c.args.axis c.args.p.axes n c.requires.1, ap (◌*◌ c.args.p.axes) e)

pub returns-then-same_row : goal.returns-then-same_row
returns-then-same_row c = digest-same _ _ _ _ _ (sym c.same_row.ensures ∙ c.if-same_row.true)

pub returns : goal.returns
unfolding part digest_at
returns c = let a = c.args in let n = c.axis_length-size.result in let e = c.axis_length-size.ensures in
    let size : (a.axis * n + n) - a.axis * n ≡ axis_length a.p = omega (arith, e) in
    let digest : List ℕ → ℕ → ℕ → List ℕ = λ rows at m. SHAKE256 (string 6 a.prefix.now ((a.axis + 1) ∷ part rows at m)) 32 in
    c.equal.ensures ∙ ap₂ eq_list c.axis_digest.ensures c.axis_digest-2.ensures ∙ ap₂
    (λ (at m : ℕ). eq_list (digest a.rows.now at m) (digest a.others.now at m)) (ap (◌*◌ a.axis) e) size
