-- The parts of message 5 are read to where they are used, aux is lent on, and what is recomputed from them and compared
-- is the check of the opening (`checked-made`).
use Rattle.std.proofs.Common.{ap, arith, drop, length, length-drop, length-take-le, refl, sym, take, ℕ, ◌++◌, ◌-◌, ◌∙◌, ◌≡◌, ◌≤◌}
use Rattle.lists.specs.Part.Laws.{tail-part}
use Rattle.layout.specs.Layout.{values_length, opened_length, work_length}
use Rattle.layout.specs.Layout.Bounds.{siblings-fit}
use Rattle.reader.specs.Message5.{aux_place, commitment_in, aux_in}
use Rattle.reader.proofs.Laws.Message5.{aux-inside, length-commitment_in, aux-short}
use Rattle.reader.proofs.Laws.Opening.{room-asked, siblings-taken, values-taken, rest-inside, rest-is}
use Rattle.openings.specs.Statement.Laws.{prefix-lent}
use Rattle.openings.specs.Parts.Laws.{put-commitment, length-put-commitment}
use Rattle.openings.specs.Checked.Laws.{checked-made}
use Rattle.openings.proofs.check_opening.Goals as goal
use Rattle.openings.proofs.check_opening.Goals.{After-read_opening-rest, After-rows_end-at, After-values_length-size, Start}

inside : (c : Start) → aux_place c.args.p ≤ length (c.args.message5.now)
inside c =
    aux-inside c.args.p c.args.leaf (c.args.message5.now) c.requires.sized-message5

-- aux is lent on
aux-lent : (c : Start) → {n : ℕ} → n ≡ length (aux_in c.args.p (c.args.message5.now)) → take (length (c.args.message5.now) - (length (c.args.message5.now) - n)) (drop (length (c.args.message5.now) - n) (c.args.message5.now)) ≡ aux_in c.args.p (c.args.message5.now)
aux-lent c {n} e =
    let inside : aux_place c.args.p ≤ length (c.args.message5.now) = aux-inside c.args.p c.args.leaf (c.args.message5.now) c.requires.sized-message5 in
    tail-part (c.args.message5.now) (length (c.args.message5.now) - n) ∙ rest-is c.args.p (c.args.message5.now) (inside) e

-- where the commitment goes
commitment-room : (c : After-rows_end-at) → length (take (length c.args.opened.now - c.rows_end-at.result) (drop c.rows_end-at.result c.args.opened.now)) ≡ 32
commitment-room c =
    let o = c.args.opened.now in let at = c.rows_end-at.result in
    let n : length o - at ≡ 32 = omega (arith, c.requires.sized-opened, c.rows_end-at.ensures) in ap length (tail-part o at) ∙ length-drop at o ∙ n

values-lent : (c : After-values_length-size) → length (take c.values_length-size.result c.read_opening-rest.new.values) ≡ values_length c.args.p
values-lent c =
    length-take-le _ _ (omega (arith, c.read_opening-rest.auto.values, c.values_length-size.ensures, c.requires.within.t-most)) ∙
    c.values_length-size.ensures

-- the lists as they stand once message 5 is read
commitment-read : (c : After-read_opening-rest) → c.read_opening-rest.new.commitment ≡ commitment_in c.args.p (c.args.message5.now)
commitment-read c =
    c.read_opening-rest.ensures.commitment_after

long-opened : (c : After-read_opening-rest) → let o = c.args.opened.now in let at = c.rows_end-at.result in
    length (take at o ++ (c.read_opening-rest.new.commitment ++ drop (length o - at) (drop at o))) ≡ opened_length c.args.p
long-opened c =
    let commitment-read : c.read_opening-rest.new.commitment ≡ commitment_in c.args.p (c.args.message5.now) = c.read_opening-rest.ensures.commitment_after in
    let args = c.args in
    length-put-commitment args.p args.opened.now c.requires.sized-opened c.read_opening-rest.new.commitment c.rows_end-at.ensures
    (ap length (commitment-read) ∙ length-commitment_in args.p args.leaf (c.args.message5.now) c.requires.sized-message5)

long-work : (c : After-read_opening-rest) → length c.read_opening-rest.new.siblings ≡ work_length c.args.p
long-work c =
    c.read_opening-rest.auto.siblings ∙ c.requires.sized-work

pub read_opening-rest-requires : goal.read_opening-rest-requires
read_opening-rest-requires c = let args = c.args in
    room-asked args.p c.requires.within (c.args.message5.now) _ _ _ (inside (goal.at.read_opening-rest-requires c).Start) (omega (arith, siblings-fit args.p c.requires.within, c.requires.sized-work))
    (commitment-room (goal.at.read_opening-rest-requires c).After-rows_end-at) refl

pub overflow_sub-aux : goal.overflow_sub-aux
overflow_sub-aux c = rest-inside c.args.p (c.args.message5.now) (inside (goal.at.overflow_sub-aux c).Start) c.read_opening-rest.ensures.value

pub open_leaves-requires : goal.open_leaves-requires
open_leaves-requires c =
    let pre = c.requires in let said = c.read_opening-rest.ensures in
    record {
      within = pre.within;
      below = pre.below;
      sized-aux = omega (arith, ap length (aux-lent (goal.at.open_leaves-requires c).Start said.value), aux-short c.args.p c.args.leaf (c.args.message5.now) pre.sized-message5);
      sized-work = long-work (goal.at.open_leaves-requires c).After-read_opening-rest;
      sized-opened = long-opened (goal.at.open_leaves-requires c).After-read_opening-rest;
    }

pub slice_bounds-open_axes-end : goal.slice_bounds-open_axes-end
slice_bounds-open_axes-end c = sym (values-lent (goal.at.slice_bounds-open_axes-end c).After-values_length-size ∙ sym c.values_length-size.ensures)

pub open_axes-requires : goal.open_axes-requires
open_axes-requires c =
    let pre = c.requires in let d = pre.sized-statement in let e = values-lent (goal.at.open_axes-requires c).After-values_length-size in let f = pre.sized-matrix in
    let b = c.open_leaves.auto.work ∙ long-work (goal.at.open_axes-requires c).After-read_opening-rest in
    let a = c.open_leaves.auto.opened ∙ long-opened (goal.at.open_axes-requires c).After-read_opening-rest in
    record { within = pre.within; sized-statement = d; sized-values = e; sized-matrix = f; sized-y = pre.sized-y; sized-work = b; sized-opened = a }

pub verdict_of-requires : goal.verdict_of-requires
verdict_of-requires c = let pre = c.requires in
    let a = c.open_axes.auto.opened ∙ c.open_leaves.auto.opened ∙ long-opened (goal.at.verdict_of-requires c).After-read_opening-rest in
    record { within = pre.within; sized-statement = pre.sized-statement; sized-opened = a }

pub returns : goal.returns
returns c = let args = c.args in let pre = c.requires in
    let said = c.read_opening-rest.ensures in
    checked-made (c.args.message5.now) pre.within pre.below pre.sized-message5
    (prefix-lent args.p args.statement.now c.prefix_place-place.ensures)
    (siblings-taken args.p args.leaf (c.args.message5.now) pre.sized-message5 _ refl _ said.siblings_after)
    (put-commitment args.p args.opened.now pre.sized-opened c.read_opening-rest.new.commitment c.rows_end-at.ensures ∙
    commitment-read (goal.at.returns c).After-read_opening-rest)
    (values-taken args.p args.leaf (c.args.message5.now) pre.sized-message5 _ c.values_length-size.ensures _ said.values_after)
    (aux-lent (goal.at.returns c).Start said.value) c.open_leaves.ensures c.open_axes.ensures c.verdict_of.ensures
