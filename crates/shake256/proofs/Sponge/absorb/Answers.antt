use Rattle.std.proofs.Common.{[], ap, arith, rules, sym, ◌≡◌, ◌∙◌, ◌+◌}
use Rattle.std.proofs.lemmas.List.{nil_from_length}
use Rattle.std.proofs.lemmas.Slice.{between_to_end}
use Rattle.shake256.specs.Stream.{absorbed}
use Rattle.shake256.proofs.Sponges.{mk}
use Rattle.shake256.proofs.Turns.{absorbed-more}
use Rattle.shake256.proofs.Sponge.absorb.Goals as goal

pub loop-rest-preserved : goal.loop-rest-preserved
loop-rest-preserved c = let z = c.make_ready.new.self in let r = c.take_some-n in let m = c.loop-rest.rest.now in
    ap (absorbed (mk r.new.lanes (z.at + r.result))) (between_to_end m r.result _ (omega arith))
    ∙ absorbed-more c.loop-rest.t z.lanes r.new.lanes m z.at r.result c.make_ready.ensures r.ensures ∙ c.loop-rest.invariant

pub returns : goal.returns
unfolding absorbed
returns c = let none : c.loop-rest.rest.now ≡ [] = nil_from_length _ (search rules) in
    sym (ap (absorbed c.loop-rest.t) none) ∙ c.loop-rest.invariant
