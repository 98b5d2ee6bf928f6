-- The digest of the commitments is compared with h of the statement.
use Rattle.std.proofs.Common.{List, ap, ap₂, arith, length-take-le, sym, take, ℕ, ◌∙◌}
use Rattle.lists.specs.Equal.{eq_list}
use Rattle.openings.specs.Statement.{digest_in, prefix_in}
use Rattle.openings.specs.Statement.Laws.{prefix-lent}
use Rattle.openings.specs.Parts.{hidden_commitment}
use Rattle.openings.specs.Parts.Laws.{states-lent, length-states-lent, commitment-lent}
use Rattle.openings.specs.From.{digest_from}
use Rattle.openings.proofs.commitment.commitment_agrees.Goals as goal

pub slice_bounds-digest_commitments-end-2 : goal.slice_bounds-digest_commitments-end-2
slice_bounds-digest_commitments-end-2 c = sym (length-states-lent c.args.p c.args.opened.now c.requires.sized-opened c.states_length-states.ensures ∙ sym
    c.states_length-states.ensures)

pub digest_commitments-requires : goal.digest_commitments-requires
digest_commitments-requires c = let l = length-states-lent c.args.p c.args.opened.now c.requires.sized-opened c.states_length-states.ensures in
    record { within = c.requires.within; states = l }

pub slice_bounds-equal-end-2 : goal.slice_bounds-equal-end-2
slice_bounds-equal-end-2 c = sym (length-take-le 32 c.args.statement.now (omega (arith, c.requires.sized-statement)))

pub returns : goal.returns
unfolding digest_from digest_in
returns c = let args = c.args in
    c.equal.ensures ∙ ap (λ (d : List ℕ). eq_list d (take 32 args.statement.now)) (c.digest_commitments.ensures ∙ ap₂
    (λ (pre g : List ℕ). digest_from args.p pre args.hidden_leaf g args.aux.now (take c.states_length-states.result args.opened.now) 32)
    (prefix-lent args.p args.statement.now c.prefix_place-at.ensures)
    (commitment-lent args.p args.opened.now c.rows_end-rows.ensures) ∙ ap (λ (st : List ℕ). digest_from args.p
    (prefix_in args.p args.statement.now) args.hidden_leaf (hidden_commitment args.p args.opened.now) args.aux.now st 32)
    (states-lent args.p args.opened.now c.states_length-states.ensures))
