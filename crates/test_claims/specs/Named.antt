-- Two comparable openings of two runs of which the extractor names a pair of strings of run 1: under a hash that gives all strings of layer 7 one
-- digest, the second opening has another α of run 1's hidden leaf. Run 0 hides leaf 0 in both and is not compared.
--
-- honest u           the prover's messages, with leaf u hidden in run 1
-- bent               those with leaf 1 hidden, and α zero
-- comparable         the two openings are comparable
-- names-7            the extractor names the strings of layer 7 of run 1
use Rattle.std.specs.Prelude.{◌≡◌, refl, List, [], ◌∷◌, ◌++◌, ℕ, zero, suc, ◌<◌, get_or, take, drop, replicate, Ok}
use Rattle.std.proofs.Common.{ap, arith, lit<, lit≤}
use Rattle.parameters.specs.declared.Parameters.{Parameters}
use Rattle.layout.specs.Layout.{leaves}
use Rattle.runs.specs.Messages.{leaf_at, message1, message3, message5}
use Rattle.runs.specs.Opening.{Transcript, verdict}
use Rattle.runs.proofs.Opening.Laws.{accepted-then}
use Rattle.calls.specs.Lengths.{leaves_below}
use Rattle.calls.specs.Extractor.{pair, extract_lengths, both_distinct, same_statement, early_checks, found, second, first, early, extraction}
use Rattle.claims.specs.Words.{Sent, Comparable}
use Rattle.claims.proofs.Completeness.Sample.{one-position}
use Rattle.test_standin.specs.StandIn.{weak}
use Rattle.test_standin.specs.Definitions.{definitions}
use Rattle.test_claims.specs.Pairs.{p as parameters, key, x, salt, root, messages2}
use Rattle.test_claims.specs.Pairs.Laws.{within}

abbrev p : Parameters
p = parameters 1

unfoldable pub honest : ℕ → Transcript
honest u = record {
  message1 = message1 (weak 7) p 2 x salt root;
  message2 = messages2 16 1;
  message3 = message3 (weak 7) p 2 x salt root key (messages2 16 1);
  leaves = 0 ∷ u ∷ [];
  message5 = message5 (weak 7) p 2 x salt root key (messages2 16 1) (0 ∷ u ∷ []);
}

-- run 0's part has 63 bytes; α stands behind the sibling seed and the commitment
unfoldable pub bent : Transcript
bent = record {
  message1 = (honest 1).message1;
  message2 = (honest 1).message2;
  message3 = (honest 1).message3;
  leaves = 0 ∷ 1 ∷ [];
  message5 = take 111 (honest 1).message5 ++ (0 ∷ 0 ∷ 0 ∷ 0 ∷ drop 115 (honest 1).message5);
}

below : (u : ℕ) → u < 2 → (e : ℕ) → e < 2 → leaf_at (0 ∷ u ∷ []) e < leaves p
unfolding definitions
below u h zero l = lit< tt
below u h (suc zero) l = h
below u h (suc (suc e)) l = absurd (omega arith)

sent-honest : Sent p 2 (honest 0)
unfolding honest definitions
sent-honest = record { message1 = refl; message2 = refl; message3 = refl; message4 = refl; below = below 0 (lit< tt); message5 = refl }

sent-bent : Sent p 2 bent
unfolding bent honest definitions
sent-bent = record { message1 = refl; message2 = refl; message3 = refl; message4 = refl; below = below 1 (lit< tt); message5 = refl }

accepted : (verdict (weak 7) p 2 (honest 0) key ≡ Ok tt) × (verdict (weak 7) p 2 bent key ≡ Ok tt)
unfolding bent honest definitions
accepted = (refl, refl)

pub comparable : Comparable (weak 7) p 2 key (honest 0) bent
unfolding bent honest
comparable = record {
  within = within 1 (omega arith, omega arith);
  counted = record { least = lit≤ tt; most = lit≤ tt };
  lent = record { matrix = refl; y = refl };
  sent = sent-honest;
  sent' = sent-bent;
  salt-and-h = refl;
  points-and-multipliers = refl;
  distinct = one-position p refl 2 (messages2 16 1);
  response = refl;
  hidden = λ e. let z : ◌≡◌ {A = ℕ} 0 1 = ap (λ (l : List ℕ). get_or l 1 0) e in omega arith;
  accepted = accepted-then (weak 7) p 2 (honest 0) key accepted.0;
  accepted' = accepted-then (weak 7) p 2 bent key accepted.1;
}

pub names-7 : (extraction (weak 7) p 2 (honest 0) bent key (replicate 32 1) (replicate 142 0)).answer ≡ pair 1 7 0
unfolding bent honest leaves_below extract_lengths both_distinct same_statement early_checks
    found second first early extraction definitions
names-7 = refl
