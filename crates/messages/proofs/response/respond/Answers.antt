-- The rows of all axes, and from them h'. The arrays have room for α and β of a leaf and for the longest rows.
use Rattle.std.proofs.Common.{List, ap, ap₂, arith, replicate, sym, take, ℕ, ◌∙◌, ◌≡◌, ◌≤◌}
use Rattle.points.specs.Written.{front_length}
use Rattle.shake256.specs.Fips.{SHAKE256}
use Rattle.layout.specs.Layout.{values_length}
use Rattle.layout.specs.Layout.Bounds.{rows-most}
use Rattle.layout.specs.Maxima.{most_values, most_rows}
use Rattle.exchange.specs.Sequences.{joined}
use Rattle.exchange.specs.Values.{key_of}
use Rattle.axes.specs.Announcing.{row_of}
use Rattle.axes.specs.RowStrings.{rows_string}
use Rattle.messages.proofs.Laws.Fronts.{zeros-front, Front, front-back}
use Rattle.messages.specs.Response.{response_of}
use Rattle.messages.proofs.response.respond.Goals as goal
use Rattle.messages.proofs.response.respond.Goals.{After-axis_rows, After-rows_length-size}

few : (c : After-rows_length-size) → c.rows_length-size.result ≤ most_rows
few c =
    omega (arith, c.rows_length-size.ensures, rows-most c.args.p c.requires.0.within)

short : (c : After-rows_length-size) → c.values_length-values.result ≤ most_values
short c =
    omega (arith, c.values_length-values.ensures, c.requires.0.within.t-most)

back : (c : After-axis_rows) → (Front c.rows_length-size.result c.axis_rows.new.rows (replicate most_rows 0))
back c =
    let few : c.rows_length-size.result ≤ most_rows = omega (arith, c.rows_length-size.ensures, rows-most c.args.p c.requires.0.within) in
    front-back _ _ _ c.axis_rows.auto.rows (few)

pub slice_bounds-rows-end : goal.slice_bounds-rows-end
slice_bounds-rows-end c = few (goal.at.slice_bounds-rows-end c).After-rows_length-size

pub slice_bounds-axis_rows-end-2 : goal.slice_bounds-axis_rows-end-2
slice_bounds-axis_rows-end-2 c = front_length _ _ (few (goal.at.slice_bounds-axis_rows-end-2 c).After-rows_length-size)

pub axis_rows-requires : goal.axis_rows-requires
axis_rows-requires c = let h = c.requires.0 in record {
  within = h.within;
  sized-parts = h.sums-are;
  sized-m2 = h.keyed.message2-is;
  sized-matrix = h.keyed.matrix-is;
  sized-y = h.keyed.y-is;
  sized-hidden = sym (front_length _ _ (short (goal.at.axis_rows-requires c).After-rows_length-size)) ∙ c.values_length-values.ensures;
  sized_rows = sym (front_length _ _ (few (goal.at.axis_rows-requires c).After-rows_length-size)) ∙ c.rows_length-size.ensures;
}

pub slice_bounds-rows-end-2 : goal.slice_bounds-rows-end-2
slice_bounds-rows-end-2 c = (back (goal.at.slice_bounds-rows-end-2 c).After-axis_rows).there

pub slice_bounds-response_digest-end : goal.slice_bounds-response_digest-end
slice_bounds-response_digest-end c = (back (goal.at.slice_bounds-response_digest-end c).After-axis_rows).lent

pub response_digest-requires : goal.response_digest-requires
response_digest-requires c = record { within = c.requires.0.within; sized_rows = sym (back (goal.at.response_digest-requires c).After-axis_rows).lent ∙ c.rows_length-size.ensures }

pub returns : goal.returns
unfolding response_of
returns c = let a = c.args in
    let values : take c.values_length-values.result (replicate {A = ℕ} most_values 0) ≡ replicate (values_length a.p) 0
    = zeros-front _ most_values (short (goal.at.returns c).After-rows_length-size) ∙ ap (λ (k : ℕ). replicate k 0) c.values_length-values.ensures in
    c.response_digest.ensures ∙ ap₂ (λ (r : List ℕ) (l : ℕ). SHAKE256 (rows_string SHAKE256 a.p a.prefix.now r) l)
    ((back (goal.at.returns c).After-axis_rows).again ∙ c.axis_rows.ensures.0
    ∙ ap₂ (λ (k : ℕ) (v : List ℕ). joined (row_of a.p (key_of a.matrix.now a.y.now) a.message2.now a.sums.now k v) a.p.axes)
    c.leaf_count-n.ensures values) c.requires.1
