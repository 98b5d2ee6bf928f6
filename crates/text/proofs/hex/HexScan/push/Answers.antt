-- Each return follows from the digit kept and from what the helpers answer (`hex_step-first`, `hex_step-second`).
use Rattle.std.proofs.Common.{◌&&◌, ◌≡◌, ◌∙◌}
use Rattle.text.specs.Hex.{is_hex_digit}
use Rattle.text.specs.Scanner.Hex.Laws.{hex_step-first, hex_step-second}
use Rattle.text.proofs.hex.HexScan.push.Goals as goal
use Rattle.text.proofs.hex.HexScan.push.Goals.{Joined-self, then-self, else-self}

still-sound : (c : Joined-self) → c.if-self.sound ≡ (c.args.self.sound && is_hex_digit c.args.b)
still-sound c =
    elim c.if-self.branch [
      | then-self w ↦ w.sound-is ∙ w.is_hex_digit-sound.ensures ∙ rw (w.if-self.true)
      | else-self w ↦ w.sound-is ∙ rw (w.if-self.false)
    ]

pub returns-in-None : goal.returns-in-None
returns-in-None c =
    let a = c.args in
    hex_step-first a.self a.out.now a.b c.hex_value-value.ensures.value (still-sound (goal.at.returns-in-None c).Joined-self) c.in-None.is

pub returns-in-Some : goal.returns-in-Some
returns-in-Some c =
    let a = c.args in
    hex_step-second a.self a.out.now a.b c.hex_value-value.ensures.value (still-sound (goal.at.returns-in-Some c).Joined-self)
    c.count_on-count.ensures c.store.ensures c.in-Some.is
