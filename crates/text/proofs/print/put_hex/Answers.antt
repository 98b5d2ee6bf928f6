use Rattle.std.proofs.Common.{List, ap, arith, length-set, refl, set, take, take_all, ℕ, ◌*◌, ◌+◌, ◌∙◌, ◌≡◌}
use lib.Seq.{sets}
use Rattle.text.specs.Hex.{hex_text}
use Rattle.text.specs.Hex.Laws.{hex_text-more, length-hex_text}
use Rattle.text.specs.Put.{put_at-sets}
use Rattle.text.proofs.print.put_hex.Goals as goal

pub loop-i-init : goal.loop-i-init
unfolding hex_text
loop-i-init c = (refl, refl)

pub loop-i-preserved : goal.loop-i-preserved
loop-i-preserved c =
    let a = c.args in (
      ap (λ (l : List ℕ). set (set l (a.at + 2 * c.loop-i.i) c.hex_digit.result) (a.at + 2 * c.loop-i.i + 1) c.hex_digit-in-loop-i.result) c.loop-i.invariant.0
          ∙ (rw (c.hex_digit.ensures, c.hex_digit-in-loop-i.ensures) (hex_text-more a.out.now a.at a.s.now c.loop-i.i (omega arith))),
      simp (length-set) c.loop-i.invariant.1,
    )

pub returns : goal.returns
returns c =
    let a = c.args in
    let e : take c.loop-i.i a.s.now ≡ a.s.now = take_all c.loop-i.i a.s.now (omega arith) in
    c.loop-i.invariant.0 ∙ ap (λ (l : List ℕ). sets a.out.now a.at (hex_text l)) e
    ∙ put_at-sets a.out.now a.at (hex_text a.s.now) (omega (arith, length-hex_text a.s.now))
