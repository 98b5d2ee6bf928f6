-- The fronts of both halves (`first-half`, `second-half`).
use Rattle.std.proofs.Common.{List, ap, arith, sym, take, ℕ, ◌∙◌}
use Rattle.std.proofs.Math.Seq.{take-take}
use Rattle.layout.specs.Layout.{states_length}
use Rattle.layout.specs.Layout.Bounds.{opened-most}
use Rattle.layout.specs.Maxima.{most_opened}
use Rattle.openings.specs.Parts.{states_in}
use Rattle.extractor.specs.Recall.{recalled}
use Rattle.extractor.specs.Run.Laws.{front-long, back-long, first-half, second-half}
use Rattle.extractor.proofs.recall.recall_run.Goals as goal

pub slice_bounds-recall_states-end-3 : goal.slice_bounds-recall_states-end-3
slice_bounds-recall_states-end-3 c = sym (front-long c.args.openings.now c.requires.room)

pub recall_states-requires : goal.recall_states-requires
recall_states-requires c = record {
  within = c.requires.within;
  lies = c.requires.first;
  room = omega (arith, front-long c.args.openings.now c.requires.room, opened-most c.args.pair.p c.requires.within);
}

pub recall_states-requires-2 : goal.recall_states-requires-2
recall_states-requires-2 c = record {
  within = c.requires.within;
  lies = c.requires.second;
  room = omega (
    arith,
    back-long c.args.openings.now c.recall_states.new.opened c.requires.room c.recall_states.auto.opened,
    opened-most c.args.pair.p c.requires.within,
  );
}

pub returns : goal.returns
unfolding states_in
returns c = let a = c.args in let o = a.openings.now in let one = c.recall_states.new.opened in let two = c.recall_states-2.new.opened in
    let most = opened-most a.pair.p c.requires.within in
    let n = states_length a.pair.p in
    record {
      first = sym (take-take n most_opened _ (omega (arith, most)))
          ∙ ap (take n) (sym (first-half o one c.requires.room c.recall_states.auto.opened two c.recall_states-2.auto.opened))
          ∙ c.recall_states.ensures ∙ ap (λ (l : List ℕ). recalled a.pair.p l a.pair.first a.first5.now) c.put_prefix.ensures;
      second = ap (take n) (sym (second-half o one c.requires.room c.recall_states.auto.opened two c.recall_states-2.auto.opened))
          ∙ c.recall_states-2.ensures ∙ ap (λ (l : List ℕ). recalled a.pair.p l a.pair.second a.second5.now) c.put_prefix.ensures;
    }
