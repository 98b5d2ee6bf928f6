-- The part that is lent has m bytes, and m is k and the number of rows.
use Rattle.std.proofs.Common.{ap₂, arith, length, length-take-le, replicate, sym, take, ℕ, ◌*◌, ◌∙◌, ◌≡◌}
use Rattle.std.proofs.lemmas.List.{length-replicate}
use Rattle.keytext.proofs.listing.listed.Goals as goal

pub weighed-requires : goal.weighed-requires
weighed-requires c =
    let w = c.requires.within in
    let q = c.requires.matrix_len in
    let l : length (take c.args.p.m (replicate {A = ℕ} 255 0)) ≡ c.args.p.m = length-take-le c.args.p.m (replicate {A = ℕ} 255 0) (omega (arith, length-replicate {A = ℕ} 255 0, w.m-most)) in
    let e = q.0 ∙ sym (ap₂ ◌*◌ q.1 q.2) in
    record { room = q.3; le_w = (w.w-least, omega (arith, l, w.w-most), omega (arith, l, w.m-most), omega (arith, l, q.1, q.2, w.k-most), e) }
