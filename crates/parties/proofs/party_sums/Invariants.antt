-- The loop's invariant: the sums are those of the leaves passed (`sums_to`); a turn adds one leaf more (`sums-more`).
use Rattle.std.proofs.Common.{List, length, ℕ, ◌≡◌}
use Rattle.parameters.specs.declared.Parameters.{Parameters}
use Rattle.layout.specs.Layout.{sums_length}
use Rattle.layout.specs.Maxima.{longest_share}
use Rattle.parties.specs.Sums.Leaves.{sums_to}
use Rattle.parties.specs.Drawn.{drawn_share}
use Rattle.parties.proofs.party_sums.Given as goal

pub record Inv (p : Parameters) (prefix states sums share : List ℕ) (hidden i : ℕ) : Type 0 where
  pub made : sums ≡ sums_to p (drawn_share p prefix states) hidden i
  pub long : length sums ≡ sums_length p
  pub room : length share ≡ longest_share

abbrev pub invariant-loop-i : goal.invariant-loop-i
invariant-loop-i l = Inv l.p l.prefix l.states l.sums l.share l.hidden_leaf l.i
