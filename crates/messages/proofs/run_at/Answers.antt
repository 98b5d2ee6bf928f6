-- The prefix is written behind the place of the root's seed, which is hashed from it.
-- room for the root's seed stands at the front
use Rattle.std.proofs.Common.{arith, drop, length, length-drop, length-take-le, refl, replicate, take, take_all, ◌∙◌, ◌≡◌, ◌≤◌}
use Rattle.lists.specs.Part.Laws.{tail-part}
use Rattle.points.specs.Written.{front_length, front_kept}
use Rattle.runs.specs.Run.{run_prefix}
use Rattle.messages.specs.Run.{salt_in, prefix-made, run-made}
use Rattle.messages.proofs.run_at.Goals as goal
use Rattle.messages.proofs.run_at.Goals.{After-put_at-2}

front : (c : After-put_at-2) → length (take 16 c.put_at-2.new.out) ≡ 16
front c =
    length-take-le 16 c.put_at-2.new.out (omega (arith, c.put_at-2))

-- and the prefix behind it
behind : (c : After-put_at-2) → length (drop 16 c.put_at-2.new.out) ≤ 33
behind c =
    simp length-drop (omega (arith, c.put_at-2))

pub slice_bounds-put_at-end-2 : goal.slice_bounds-put_at-end-2
slice_bounds-put_at-end-2 c = front_length 32 c.args.seeds.now (omega arith)

pub put_at-requires : goal.put_at-requires
put_at-requires c = let l = length-take-le 32 c.args.seeds.now (omega arith) in omega arith

pub returns : goal.returns
returns c = let seeds = c.args.seeds.now in
    let d₂ = c.put_at-2.new.out in
    let prefix : drop 16 d₂ ≡ run_prefix (salt_in seeds) c.args.e
    = prefix-made (replicate 49 0) _ d₂ (take 32 seeds) c.args.e refl (length-take-le 32 seeds (omega arith)) c.put_at.ensures
    c.put_at-2.ensures in
    let y = c.hash.new.out in
    let sixteen : length y ≡ 16 = c.hash.auto.out ∙ front (goal.at.returns c).After-put_at-2 in (
      run-made seeds d₂ y _ _ _ _ c.args.e _ prefix (front (goal.at.returns c).After-put_at-2) c.hash.auto.out c.begin-start.ensures
          (take_all 33 (drop 16 d₂) (behind (goal.at.returns c).After-put_at-2)) (tail-part seeds 32) c.hash.ensures refl,
      front_kept 16 y d₂ sixteen (omega (arith, c.put_at-2))
          ∙ c.put_at-2.auto.out ∙ c.put_at.auto.out,
    )
