-- Salt and root that an exchange may start with do not get 13.
--
-- may-start         told by the last begin carried out
use Rattle.std.specs.Prelude.{◌≡◌, refl, Bool, true, false, ◌&&◌, List, ℕ}
use Rattle.std.proofs.Common.{◌∙◌}
use Rattle.std.proofs.Math.Option.{Option, none, some}
use Rattle.lists.specs.Equal.{eq_list}
use Rattle.lists.specs.Equal.Laws.{eq_list-true}
use Rattle.calls.specs.Prover.{repeated}
use Rattle.calls.specs.Prover.History.{Begin, Call, after, made, last_begin, repeats}
use Rattle.calls.proofs.Prover.Told.{repeated-after}
use Rattle.claims.specs.Completeness.{MayStart}

pub may-start : (hash : List ℕ → ℕ → List ℕ) (cs : List Call) (salt root : List ℕ) → MayStart (made hash cs) salt root
    → repeated (after hash cs) salt root ≡ false
unfolding repeats
may-start hash cs salt root start = repeated-after hash cs salt root ∙ go (last_begin (made hash cs)) refl
  where
    not-both : (b : Begin) → ((salt ≡ b.salt) × (root ≡ b.root) → ⊥) → (x y : Bool) → eq_list salt b.salt ≡ x → eq_list root b.root ≡ y
        → (x && y) ≡ false
    not-both b n true true e f = absurd (n (eq_list-true salt b.salt e, eq_list-true root b.root f))
    not-both b n true false e f = refl
    not-both b n false y e f = refl

    go : (o : Option Begin) → last_begin (made hash cs) ≡ o → repeats o salt root ≡ false
    go none e = refl
    go (some b) e = not-both b (start.not-repeated b e) (eq_list salt b.salt) (eq_list root b.root) refl refl
