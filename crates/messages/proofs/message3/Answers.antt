-- The sums stand in the front of the work area; its named length is zeroed in the end.
use Rattle.std.proofs.Common.{List, ap, ap₂, arith, length, sym, take, ℕ, ◌∙◌, ◌≤◌}
use Rattle.lists.specs.Part.Laws.{tail-part}
use Rattle.lists.specs.Zeroed.{zeroed}
use Rattle.layout.specs.Layout.Bounds.{sums-fit}
use Rattle.points.specs.Written.{front_length}
use Rattle.exchange.specs.Values.{key_of}
use Rattle.messages.proofs.Laws.Fronts.{x-length, x-light, front-zeroed, Front, front-back}
use Rattle.messages.specs.Response.{response_of}
use Rattle.messages.proofs.Laws.Response.{response-made}
use Rattle.messages.specs.Run.{run_in, root-length}
use Rattle.messages.proofs.message3.Goals as goal
use Rattle.messages.proofs.message3.Goals.{After-fill, After-sums_length-end}

-- the sums fit into the named length, and that into the work area
short : (c : After-sums_length-end) → c.sums_length-end.result ≤ c.work_length-n.result
short c =
    omega (arith, c.work_length-n.ensures, c.sums_length-end.ensures, sums-fit c.args.p c.requires.0.within)

fits : (c : After-sums_length-end) → c.sums_length-end.result ≤ length c.args.work.now
fits c =
    let short : c.sums_length-end.result ≤ c.work_length-n.result = omega (arith, c.work_length-n.ensures, c.sums_length-end.ensures, sums-fit c.args.p c.requires.0.within) in
    omega (arith, short, c.work_length-n.ensures, c.requires.0.work-fits)

back : (c : After-fill) → Front c.sums_length-end.result c.fill.new.sums c.args.work.now
back c =
    let short : c.sums_length-end.result ≤ c.work_length-n.result = omega (arith, c.work_length-n.ensures, c.sums_length-end.ensures, sums-fit c.args.p c.requires.0.within) in
    let fits : c.sums_length-end.result ≤ length c.args.work.now = omega (arith, short, c.work_length-n.ensures, c.requires.0.work-fits) in
    front-back _ _ _ c.fill.auto.sums (fits)

pub slice_bounds-fill-end-2 : goal.slice_bounds-fill-end-2
slice_bounds-fill-end-2 c = fits (goal.at.slice_bounds-fill-end-2 c).After-sums_length-end

pub slice_bounds-fill-end-3 : goal.slice_bounds-fill-end-3
slice_bounds-fill-end-3 c = front_length _ _ (fits (goal.at.slice_bounds-fill-end-3 c).After-sums_length-end)

pub fill-requires : goal.fill-requires
fill-requires c = let h = c.requires.0 in record {
  within = h.within;
  light = x-light _ _ _ _ h;
  x-is = x-length _ _ _ _ h;
  run_fits = h.run_fits;
  sums-are = sym (front_length _ _ (fits (goal.at.fill-requires c).After-sums_length-end)) ∙ c.sums_length-end.ensures;
}

pub slice_bounds-respond-end-2 : goal.slice_bounds-respond-end-2
slice_bounds-respond-end-2 c = (back (goal.at.slice_bounds-respond-end-2 c).After-fill).there

pub slice_bounds-respond-end-3 : goal.slice_bounds-respond-end-3
slice_bounds-respond-end-3 c = (back (goal.at.slice_bounds-respond-end-3 c).After-fill).lent

pub respond-requires : goal.respond-requires
respond-requires c = let h = c.requires in
    (record { within = h.0.within; keyed = h.1; sums-are = sym (back (goal.at.respond-requires c).After-fill).lent ∙ c.sums_length-end.ensures }, h.2)

pub returns : goal.returns
returns c = let a = c.args in let h = c.requires.0 in let key = key_of a.matrix.now a.y.now in
    let sums : List ℕ = c.fill.new.sums in (
      c.respond.ensures
          ∙ ap₂ (λ (q v : List ℕ). response_of a.p q key a.message2.now v) (tail-part a.run.now 16) (back (goal.at.returns c).After-fill).again
          ∙ response-made a.p (take a.p.m a.x.now) (run_in a.run.now) (root-length a.run.now h.run_fits) sums c.fill.ensures key
          a.message2.now,
      c.zero_front.ensures ∙ front-zeroed _ _ sums a.work.now (back (goal.at.returns c).After-fill).size (short (goal.at.returns c).After-sums_length-end)
          ∙ ap (λ (k : ℕ). zeroed k a.work.now) c.work_length-n.ensures,
    )
