use Rattle.std.proofs.Common.{List, [], ap, append-nil, arith, drop, length, length-drop, refl, take, ℕ, ◌≡◌, ◌∙◌, ◌-◌, ◌≤◌, ◌++◌}
use Rattle.std.proofs.lemmas.List.{drop_all}
use Rattle.std.proofs.lemmas.Slice.{between_to_end}
use Rattle.fips.specs.Bytes.{bytes_at}
use Rattle.shake256.specs.Stream.{squeezed, after}
use Rattle.shake256.proofs.Turns.{after_more, written-more}
use Rattle.shake256.proofs.Sponge.squeeze.Goals as goal

pub loop-i-init : goal.loop-i-init
unfolding squeezed after
loop-i-init c = record { within = omega arith; given = refl; written = refl }

pub loop-i-preserved : goal.loop-i-preserved
loop-i-preserved c =
    let z = c.make_ready.new.self in let g = c.give_some-n in let self = c.args.self in let d = c.args.out.now in
    let o = c.loop-i.out in let i = c.loop-i.i in let r = g.result in let inv = c.loop-i.invariant in
    let rest : take (length o - i) (drop i o) ≡ drop i o = between_to_end o i (length o) (omega arith) in
    let none : drop (length o - i) (drop i o) ≡ [] = drop_all (length o - i) (drop i o) (omega (arith, length-drop i o)) in
    let fits : r ≤ length o - i = omega (arith, g.ensures.within, ap length rest, length-drop i o) in
    let more = after_more self c.loop-i.t z.lanes z.at i r inv.given c.make_ready.ensures g.ensures.room g.ensures.some in
    let written = written-more self c.loop-i.t z.lanes z.at i r inv.given c.make_ready.ensures g.ensures.room g.ensures.some o d inv.written in
    let front : g.new.out ++ drop (length o - i) (drop i o) ≡ bytes_at z.lanes z.at r ++ drop r (drop i o) =
    (λ t. g.ensures.is t ++ none t) ∙ append-nil _ ∙ ap (λ (l : List ℕ). bytes_at z.lanes z.at r ++ drop r l) rest in
    record { within = omega arith; given = more; written = ap (λ (l : List ℕ). take i o ++ l) front ∙ written }
