-- The reader stands within the message after each part, as it did before it (`behind-inside`).
use Rattle.std.proofs.Common.{List, subst, sym, length, ℕ, ◌≤◌, ◌≡◌, Bor, arith}
use Rattle.reader.specs.declared.Reader.{Reader}
use Rattle.reader.specs.Taken.{behind}
use Rattle.reader.proofs.Laws.Taken.{behind-inside}
use Rattle.reader.proofs.opening.read_parts.Goals as goal
use Rattle.reader.proofs.opening.read_parts.Goals.{After-take, After-take-2}

inside : (d e : Reader) (out : List ℕ) → d.at ≤ length d.message.now → e.message ≡ d.message → e.at ≡ behind d.message.now d.at out
    → e.at ≤ length e.message.now
inside d e out h m a =
    subst (λ (n : ℕ). n ≤ length e.message.now) (sym a)
    (subst (λ (s : Bor (List ℕ)). behind d.message.now d.at out ≤ length s.now) (sym m) (behind-inside d.message.now d.at out h))

behind_siblings : (c : After-take) → c.take.new.self.at ≤ length c.take.new.self.message.now
behind_siblings c = inside c.start-reader.result c.take.new.self c.args.siblings.now (omega arith) c.take.ensures.0 c.take.ensures.1.0

behind_commitment : (c : After-take-2) → c.take.new.self.at ≤ length c.take.new.self.message.now → c.take-2.new.self.at ≤ length c.take-2.new.self.message.now
behind_commitment c h =
    inside c.take.new.self c.take-2.new.self c.args.commitment.now h c.take-2.ensures.0 c.take-2.ensures.1.0

pub take-requires-2 : goal.take-requires-2
take-requires-2 c = behind_siblings (goal.at.take-requires-2 c).After-take

pub take-requires-3 : goal.take-requires-3
take-requires-3 c = behind_commitment (goal.at.take-requires-3 c).After-take-2 (behind_siblings (goal.at.take-requires-3 c).After-take)

pub left-requires : goal.left-requires
left-requires c =
    let at = goal.at.left-requires c in
    inside c.take-2.new.self c.take-3.new.self c.args.values.now (behind_commitment at.After-take-2 (behind_siblings at.After-take))
    c.take-3.ensures.0 c.take-3.ensures.1.0
