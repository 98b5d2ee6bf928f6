-- The leaf's state is lent to be hashed, and the front of `out` to be filled with as many bytes as the leaf takes.
-- the leaf's state, as it is lent
use Rattle.std.proofs.Common.{List, ap, ap₂, arith, drop, length, length-take-le, rules, sym, take, zero-add, ℕ, ◌*◌, ◌++◌, ◌+◌, ◌-◌, ◌∙◌, ◌≡◌, ◌≤◌}
use Rattle.lists.specs.Part.{part, put_at}
use Rattle.lists.specs.Part.Laws.{length_part}
use Rattle.shake256.specs.Fips.{SHAKE256}
use Rattle.layout.specs.Layout.Bounds.{leaves-most}
use Rattle.exchange.specs.Strings.{string3}
use Rattle.leaves.specs.After.Laws.{draw-begun}
use Rattle.leaves.specs.States.{state_at}
use Rattle.parties.specs.Drawn.Laws.{drawn_length-le, drawn_share-is}
use Rattle.parties.proofs.drawn.draw_share.Goals as goal
use Rattle.parties.proofs.drawn.draw_share.Goals.{After-drawn_length-size}

lent : (st : List ℕ) (i : ℕ) → take (32 * i + 32 - 32 * i) (drop (32 * i) st) ≡ state_at st i
unfolding part
lent st i = let e : 32 * i + 32 - 32 * i ≡ 32 = omega arith in ap (λ (n : ℕ). take n (drop (32 * i) st)) e

-- what a lent front `&mut d[..n]` leaves in d when it comes back
front-back : (n : ℕ) (ys d : List ℕ) → length ys ≡ n → ys ++ drop n d ≡ put_at d 0 ys
unfolding put_at
front-back n ys d e = ap (λ (k : ℕ). ys ++ drop k d) (sym e ∙ sym (zero-add (length ys)))

-- the front is there
room : (c : After-drawn_length-size) → c.drawn_length-size.result ≤ length c.args.out.now
room c =
    omega (arith, c.drawn_length-size.ensures, drawn_length-le c.args.p c.args.leaf, c.requires.room)

front : (c : After-drawn_length-size) → length (take c.drawn_length-size.result c.args.out.now) ≡ c.drawn_length-size.result
front c =
    let room : c.drawn_length-size.result ≤ length c.args.out.now = omega (arith, c.drawn_length-size.ensures, drawn_length-le c.args.p c.args.leaf, c.requires.room) in
    length-take-le c.drawn_length-size.result c.args.out.now (room)

pub slice_bounds-share_bytes-end-2 : goal.slice_bounds-share_bytes-end-2
slice_bounds-share_bytes-end-2 c = room (goal.at.slice_bounds-share_bytes-end-2 c).After-drawn_length-size

pub slice_bounds-share_bytes-end-3 : goal.slice_bounds-share_bytes-end-3
slice_bounds-share_bytes-end-3 c = sym (front (goal.at.slice_bounds-share_bytes-end-3 c).After-drawn_length-size)

pub share_bytes-requires : goal.share_bytes-requires
share_bytes-requires c = let st = c.args.states.now in let i = c.args.leaf in
    let number = leaves-most c.args.p c.requires.within in let seed = ap length (lent st i) in
    let seed' = length_part st (32 * i) 32 (omega (arith, c.requires.states, c.requires.leaf)) in search rules

pub returns : goal.returns
returns c = let filled = c.share_bytes in
    let args = c.args in let size = c.drawn_length-size.result in let ys = filled.new.out in record {
      length = c.drawn_length-size.ensures;
      share = λ prefix b.
          let same = filled.ensures ∙ draw-begun args.shares prefix args.leaf _ _ b
          ∙ ap₂ (λ (s : List ℕ) (n : ℕ). SHAKE256 (string3 prefix args.leaf (take 16 s)) n) (lent args.states.now args.leaf)
          (front (goal.at.returns c).After-drawn_length-size ∙ c.drawn_length-size.ensures)
          ∙ sym (drawn_share-is args.p prefix args.states.now args.leaf) in
          front-back size ys args.out.now (filled.auto.out ∙ front (goal.at.returns c).After-drawn_length-size) ∙ ap (put_at args.out.now 0) same;
    }
