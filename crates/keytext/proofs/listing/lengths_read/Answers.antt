-- Each return follows from what `read_in` answers.
use Rattle.std.proofs.Common.{ap, get_or, sym, ◌&&◌, ◌∙◌, ◌≡◌}
use Rattle.layout.specs.Layout.{y_length, matrix_length}
use Rattle.keytext.specs.Finish.{read_in, lengths_read}
use Rattle.keytext.proofs.listing.lengths_read.Goals as goal
use Rattle.keytext.proofs.listing.lengths_read.Goals.{Joined-read_in, then-read_in, else-read_in}

-- the first two answers are those of the definition
two-read : (c : Joined-read_in) → let a = c.args in
    c.if-read_in.value ≡ (read_in (get_or a.lengths 0 0) a.matrix (matrix_length a.p) && read_in (get_or a.lengths 1 0) a.y (y_length a.p))
two-read c =
    let a = c.args in
    let m : c.read_in.result ≡ read_in (get_or a.lengths 0 0) a.matrix (matrix_length a.p) =
    c.read_in.ensures ∙ ap (read_in (get_or a.lengths 0 0) a.matrix) c.matrix_length.ensures in
    elim c.if-read_in.branch [
      | then-read_in w ↦ w.value-is ∙ w.read_in-then-read_in.ensures ∙ rw (w.y_length.ensures, sym m ∙ w.if-read_in.true)
      | else-read_in w ↦ w.value-is ∙ w.if-read_in.false ∙ rw (sym m ∙ w.if-read_in.false)
    ]

pub returns-then-read_in-2 : goal.returns-then-read_in-2
unfolding lengths_read
returns-then-read_in-2 c =
    c.read_in-then-read_in-2.ensures ∙ rw (sym (two-read (goal.at.returns-then-read_in-2 c).Joined-read_in) ∙ c.if-read_in-2.true)

pub returns-else-read_in-2 : goal.returns-else-read_in-2
unfolding lengths_read
returns-else-read_in-2 c =
    c.if-read_in-2.false ∙ rw (sym (two-read (goal.at.returns-else-read_in-2 c).Joined-read_in) ∙ c.if-read_in-2.false)
