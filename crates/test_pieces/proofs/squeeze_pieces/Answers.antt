use Rattle.std.proofs.Common.{List, ap, append-nil, arith, drop, length, length-drop, length-take-le, refl, take, ℕ, ◌++◌, ◌-◌, ◌∙◌, ◌≡◌, ◌≤◌}
use lib.Seq.{drop-length}
use Rattle.test_pieces.proofs.Parts.{after-part, squeezed-part}
use Rattle.shake256.specs.Stream.{after, squeezed}
use Rattle.test_pieces.proofs.squeeze_pieces.Goals as goal

pub loop-span-init : goal.loop-span-init
unfolding after squeezed
loop-span-init c = (omega arith, (refl, refl))

pub loop-span-preserved : goal.loop-span-preserved
loop-span-preserved c =
    let e = c.end-e in let q = c.squeeze-next in let d = c.args.output.now in
    let o = c.loop-span.output in let i = c.loop-span.i in let inv = c.loop-span.invariant.1 in
    let within : e.result ≤ length d = omega (arith, e.ensures.1) in
    let part : length (take (e.result - i) (drop i o)) ≡ e.result - i = length-take-le (e.result - i) (drop i o)
    (simp length-drop (omega (arith, e.ensures.1))) in
    let is = ap (λ (l : List ℕ). take i o ++ (l ++ drop (e.result - i) (drop i o))) (q.ensures.0 ∙ ap (squeezed c.loop-span.t) part) ∙
    squeezed-part c.args.s c.loop-span.t o d i e.result e.ensures.0 inv.0 inv.1 in
    let sponge = ap (after c.loop-span.t) part ∙ after-part c.args.s c.loop-span.t i e.result e.ensures.0 inv.0 in
    (within, (q.ensures.1 ∙ sponge, is))

pub returns : goal.returns
returns c =
    let q = c.squeeze in
    let d = c.args.output.now in let o = c.loop-span.output in let i = c.loop-span.i in let inv = c.loop-span.invariant.1 in
    let same : length o ≡ length d = c.loop-span.auto.output in
    let part : length (take (length o - i) (drop i o)) ≡ length o - i = length-take-le (length o - i) (drop i o) (simp length-drop (omega arith)) in
    ap (λ (l : List ℕ). take i o ++ (l ++ drop (length o - i) (drop i o))) (q.ensures.0 ∙ ap (squeezed c.loop-span.t) part) ∙ squeezed-part
    c.args.s c.loop-span.t o d i (length o) (omega arith) inv.0 inv.1 ∙ ap (λ (n : ℕ). squeezed c.args.s n ++ drop n d)
    same ∙ ap (λ (l : List ℕ). squeezed c.args.s (length d) ++ l) (drop-length d) ∙ append-nil (squeezed c.args.s (length d))
