-- The vector is made at the front of the zeros.
use Rattle.std.proofs.Common.{List, ap, ap₂, arith, drop, le_of_eq, length, length-take-le, replicate, sym, ℕ, ◌*◌, ◌++◌, ◌+◌, ◌∙◌, ◌≡◌, ◌≤◌}
use lib.ListN.{length-replicate}
use Rattle.relation.specs.Key.{vector_of}
use Rattle.relation.proofs.Laws.Key.Vector.{length-vector}
use Rattle.prover.specs.Arguments.Laws.{padded-back}
use Rattle.prover.proofs.vector.weigh.Goals as goal
use Rattle.prover.proofs.vector.weigh.Goals.{Start}

fits : (c : Start) → c.args.p.m ≤ length c.args.x.now
fits c =
    let zeros : List ℕ = replicate 255 0 in let n : length zeros ≡ 255 = length-replicate {A = ℕ} 255 0 in let e = ap length c.requires.zeros in
    let h = c.requires.within in omega arith

whole : (c : Start) → length c.args.x_a.now + length c.args.y.now ≡ c.args.p.m
whole c =
    let h = c.requires.within in omega (arith, c.requires.x_a-is, c.requires.y-is)

pub slice_bounds-light_vector-end : goal.slice_bounds-light_vector-end
slice_bounds-light_vector-end c = fits (goal.at.slice_bounds-light_vector-end c).Start

pub slice_bounds-light_vector-end-2 : goal.slice_bounds-light_vector-end-2
slice_bounds-light_vector-end-2 c = sym (length-take-le _ _ (fits (goal.at.slice_bounds-light_vector-end-2 c).Start))

pub light_vector-requires : goal.light_vector-requires
light_vector-requires c = let h = c.requires in
    (length-take-le _ _ (fits (goal.at.light_vector-requires c).Start) ∙ sym (whole (goal.at.light_vector-requires c).Start), le_of_eq (ap₂ ◌*◌ h.y-is h.x_a-is ∙ sym h.matrix-is))

pub returns : goal.returns
returns c = let a = c.args in
    let v = vector_of a.matrix.now a.y.now a.x_a.now in (
      ap (λ (x : List ℕ). x ++ drop a.p.m a.x.now) c.light_vector.ensures.0
          ∙ padded-back a.p.m v a.x.now (length-vector a.matrix.now a.y.now a.x_a.now ∙ whole (goal.at.returns c).Start) c.requires.zeros,
      c.light_vector.ensures.1,
    )
