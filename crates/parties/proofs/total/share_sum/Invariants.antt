-- The loop's invariant: `out` is the sum of the leaves passed, but for the hidden one; a turn adds one leaf more (`total-other`).
use Rattle.std.proofs.Common.{List, eqb, length, not, ℕ, ◌≡◌}
use Rattle.parameters.specs.declared.Parameters.{Parameters}
use Rattle.layout.specs.Layout.{share_length}
use Rattle.layout.specs.Maxima.{longest_share}
use Rattle.exchange.specs.Parties.{total}
use Rattle.parties.specs.Drawn.{drawn_share}
use Rattle.parties.proofs.total.share_sum.Given as goal

pub record Inv (p : Parameters) (prefix states out share : List ℕ) (hidden i : ℕ) : Type 0 where
  pub sum : out ≡ total p (λ i. not (eqb i hidden)) (drawn_share p prefix states) i
  pub long : length out ≡ share_length p
  pub room : length share ≡ longest_share

abbrev pub invariant-loop-i : goal.invariant-loop-i
invariant-loop-i l = Inv l.p l.prefix l.states l.out l.share l.hidden_leaf l.i
