-- The three parts, one behind the other, are those of `verifier_bytes` (`messages-whole`).
use Rattle.std.proofs.Common.{List, [], ap, append_assoc, ap₂, arith, length, length-append, sym, ℕ, ◌++◌, ◌∙◌, ◌∷◌, ◌≡◌}
use lib.ListN.{length-map}
use Rattle.lists.specs.Part.Laws.{put_at-whole}
use Rattle.verifier.specs.Held.{held_length, message1_in, message2_in, message3_in}
use Rattle.parameters.specs.declared.Parameters.{Parameters}
use Rattle.stored.specs.Parameters.{parameter_bytes}
use Rattle.stored.proofs.Laws.Parts.{written_next}
use Rattle.stored.specs.Verifier.{verifier_bytes}
use Rattle.stored.proofs.Laws.Verifier.{messages-whole}
use Rattle.stored.proofs.write_verifier.Goals as goal

bytes-is : (a m ls : List ℕ) (p : Parameters) (runs phase phase' : ℕ) → a ≡ phase ∷ (parameter_bytes p ++ (runs ∷ [])) → phase ≡ phase'
    → length m ≡ held_length
    → a ++ (m ++ ls) ≡ phase' ∷ (parameter_bytes p ++ (runs ∷ (message1_in m ++ (message2_in m ++ (message3_in m ++ ls)))))
bytes-is a m ls p runs phase phase' e f l =
    ap (λ (z : List ℕ). z ++ (m ++ ls)) e
    ∙ ap₂ (λ (n : ℕ) (z : List ℕ). n ∷ (parameter_bytes p ++ (runs ∷ z))) f
    (ap (λ (z : List ℕ). z ++ ls) (sym (messages-whole m l)) ∙ append_assoc (message1_in m) (message2_in m ++ message3_in m) ls
    ∙ ap (λ (z : List ℕ). message1_in m ++ z) (append_assoc (message2_in m) (message3_in m) ls))

pub put_at-requires-2 : goal.put_at-requires-2
put_at-requires-2 c = let lm : length c.args.s.now.messages ≡ 4_128 = search in omega (arith, c.put_at, lm, c.requires.0)

pub put_at-requires-3 : goal.put_at-requires-3
put_at-requires-3 c = let ll : length c.args.s.now.leaves ≡ 32 = search in omega (arith, c.put_at-2, c.put_at, ll, c.requires.0)

pub returns : goal.returns
unfolding verifier_bytes
returns c = let out = c.args.out.now in let a = c.head-start.result in let m = c.args.s.now.messages in let ls = c.args.s.now.leaves in
    let la : length a ≡ 7 = ap length c.head-start.ensures in let lm : length m ≡ 4_128 = search in let ll : length ls ≡ 32 = search in let lo = c.requires.0 in
    let two = written_next out a m _ _ 7 c.put_at.ensures c.put_at-2.ensures (sym la) (omega (arith, la, lm, lo)) in
    let l₂ = length-append a m in
    let three = written_next out (a ++ m) ls _ _ 4_135 two c.put_at-3.ensures (omega (arith, la, lm, l₂)) (omega (arith, la, lm, ll, lo, l₂)) in
    let l₃ = length-append (a ++ m) ls in
    three ∙ put_at-whole out ((a ++ m) ++ ls) (omega (arith, la, lm, ll, lo, l₂, l₃)) ∙ append_assoc a m ls
    ∙ bytes-is a m ls c.args.s.now.parameters c.args.s.now.runs _ _ c.head-start.ensures c.from.ensures lm
