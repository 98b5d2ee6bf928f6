use Rattle.std.proofs.Common.{arith, length, length-take-le, sym, take, ◌*◌, ◌+◌, ◌≡◌, ◌≤◌}
use Rattle.shake256.specs.Fips.{SHAKE256}
use Rattle.runs.specs.Messages.{digest_of}
use Rattle.messages.proofs.Laws.EveryRun.{cleared-none, cleared_more, placed-front, placed-behind, placed-next, prefix-digest, message1-made}
use Rattle.messages.specs.Run.{salt_in, root_in}
use Rattle.messages.proofs.every_run.message1.Goals as goal
use Rattle.messages.proofs.every_run.message1.Goals.{In-loop-e, Start}

salt : (c : Start) → length (take 32 c.args.seeds.now) ≡ 32
salt c = length-take-le 32 c.args.seeds.now (omega (arith, c.requires.0.seeds-are))

-- the part of a run lies within out
inside : (c : In-loop-e) → 32 + 32 * c.loop-e.e + 32 ≤ length c.loop-e.out
inside c = omega (arith, c.loop-e.auto.out, c.put_at.auto.out, c.requires.1, c.loop-e-test.true)

pub slice_bounds-put_at-end : goal.slice_bounds-put_at-end
slice_bounds-put_at-end c = sym (salt (goal.at.slice_bounds-put_at-end c).Start)

pub put_at-requires : goal.put_at-requires
put_at-requires c = omega (arith, salt (goal.at.put_at-requires c).Start, c.requires.1)

pub loop-e-init : goal.loop-e-init
loop-e-init c = (cleared-none _ _, placed-behind _ _ _ _ 32 (placed-front _ _ _ 32 c.put_at.ensures (salt (goal.at.loop-e-init c).Start)))

pub loop-e-preserved : goal.loop-e-preserved
loop-e-preserved c = let q = c.loop-e in let a = c.args in let d = c.commitment_digest in let at = goal.at.loop-e-preserved c in
    let x = take a.p.m a.x.now in let salt' = salt_in a.seeds.now in let root = root_in a.seeds.now in
    let is = prefix-digest a.p a.runs x salt' root q.e _ _ (salt at.Start) c.run_at-run.ensures.0 d.ensures.0 in (
      cleared_more _ _ _ _ _ q.invariant.0 d.ensures.1,
      placed-next (digest_of SHAKE256 a.p a.runs x salt' root) q.e salt' _ q.out _ _ _ (omega arith) q.invariant.1 _ is (omega arith) (inside at.In-loop-e) d.auto.out,
    )

pub returns : goal.returns
returns c = let q = c.loop-e in let a = c.args in
    let all : q.e ≡ a.runs = omega arith in (
      message1-made a.p a.runs _ _ _ q.e _ _ _ q.invariant.1 all (omega (arith, c.put_at.auto.out, c.requires.1)),
      q.invariant.0.after (omega (arith, c.requires.0.runs)),
    )
