-- The states first (`put_states`), then aux behind them: `written_is`.
use Rattle.std.proofs.Common.{List, ap₂, arith, length, sym, true, ℕ, ◌++◌, ◌+◌, ◌∙◌, ◌≡◌}
use Rattle.lists.specs.Part.{put_at}
use Rattle.layout.specs.Layout.{leaves, is_last, aux_length, states_length, output_length}
use Rattle.layout.specs.Layout.Laws.{is_last-last, is_last-false}
use Rattle.exchange.specs.Sequences.{joined}
use Rattle.extractor.specs.Comparison.{state_of, output_of}
use Rattle.extractor.specs.Output.{placed, written_is}
use Rattle.extractor.proofs.output.write_output.Goals as goal
use Rattle.extractor.proofs.output.write_output.Goals.{After-is_last, Start}

room : (c : Start) → length c.args.out.now ≡ states_length c.args.p + aux_length c.args.p
unfolding output_length
room c = c.requires.room

-- where the first opening hides leaf n−1, the second discloses aux
disclosed : (c : Start) → is_last c.args.p c.args.first.hidden ≡ true → length c.args.second.aux.now ≡ aux_length c.args.p
disclosed c e = let o = c.requires.openings in
    o.two.aux-size (is_last-false c.args.p _ (λ z. o.other (is_last-last c.args.p _ e ∙ sym z)))

-- the output with aux behind the states; aux has the length that is left
written : (c : After-is_last) → (aux out : List ℕ) (n : ℕ) → n ≡ states_length c.args.p → length aux ≡ aux_length c.args.p
    → out ≡ placed (leaves c.args.p) c.args.first.hidden c.args.first.made.now c.args.second.made.now c.args.out.now
    → put_at out n aux ≡ joined (state_of c.args.first.hidden c.args.first.made.now c.args.second.made.now) (leaves c.args.p) ++ aux
written c aux out n e l q =
    let room : length c.args.out.now ≡ states_length c.args.p + aux_length c.args.p = unfold output_length in (c.requires.room) in
    let o = c.requires.openings in
    ap₂ (λ (d : List ℕ) (m : ℕ). put_at d m aux) q e ∙ written_is _ c.args.first.hidden _ _ aux c.args.out.now
    (omega (arith, o.one.size)) (omega (arith, o.two.size)) o.one.below (omega (arith, room))

pub put_states-requires : goal.put_states-requires
put_states-requires c = let o = c.requires.openings in
    record { both = record { within = o.within; first = o.one.size; second = o.two.size }; below = o.one.below; room = omega (arith, room (goal.at.put_states-requires c).Start) }

pub put_at-requires : goal.put_at-requires
put_at-requires c = omega (arith, room (goal.at.put_at-requires c).Start, disclosed (goal.at.put_at-requires c).Start (sym c.is_last.ensures ∙ c.if-is_last.true), c.states_length-all.ensures, c.put_states)

pub returns-then-is_last : goal.returns-then-is_last
unfolding output_of
returns-then-is_last c = let last = sym c.is_last.ensures ∙ c.if-is_last.true in
    rw last (c.put_at.ensures ∙ written (goal.at.returns-then-is_last c).After-is_last _ _ _ c.states_length-all.ensures (disclosed (goal.at.returns-then-is_last c).Start last)
    c.put_states.ensures)

pub put_at-requires-2 : goal.put_at-requires-2
put_at-requires-2 c = omega (arith, room (goal.at.put_at-requires-2 c).Start, c.requires.openings.one.aux-size (sym c.is_last.ensures ∙ c.if-is_last.false), c.states_length-all.ensures, c.put_states)

pub returns : goal.returns
unfolding output_of
returns c = let other = sym c.is_last.ensures ∙ c.if-is_last.false in
    rw other (c.put_at-2.ensures ∙ written (goal.at.returns c).After-is_last _ _ _ c.states_length-all.ensures (c.requires.openings.one.aux-size other)
    c.put_states.ensures)
