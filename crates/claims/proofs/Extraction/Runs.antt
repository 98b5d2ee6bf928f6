-- A run of two comparable openings.
--
-- length-run5          a run's part of message 5 has its length
-- alike_of             a run whose hidden leaves differ is two accepted openings of one commitment
-- run-states           where no two of its strings are unequal, its part of the output is every leaf's state
use Rattle.std.specs.Prelude.{◌≡◌, ℕ, ◌<◌, length}
use Rattle.std.proofs.Math.Path.{ap}
use mathlib.Core.List.{List, []}
use Rattle.std.proofs.Common.{arith}
use Rattle.std.proofs.Math.ListN.{take, drop}
use Rattle.lists.specs.Part.Laws.{length_part}
use Rattle.parameters.specs.declared.Parameters.{Parameters}
use Rattle.layout.specs.Layout.{message5_length, output_length, prefix_length}
use Rattle.layout.specs.Runs.{message5_place}
use Rattle.layout.specs.Runs.Laws.{message5-inside}
use Rattle.exchange.specs.Values.{Key}
use Rattle.exchange.specs.Opening.{Exchange, exchange}
use Rattle.exchange.specs.Extractor.{output, unequal_at}
use Rattle.runs.specs.Messages.{message2_at, leaf_at}
use Rattle.runs.specs.Opening.{Transcript, message1_at, message3_at, message5_at, exchange_at}
use Rattle.runs.proofs.Extractor.Output.{length-output}
use Rattle.claims.specs.Words.{Sent, Apart, Comparable, States}
use Rattle.claims.proofs.Extraction.Compared.{Alike, none_then}
use Rattle.claims.proofs.Extraction.Output.{states-hold}

length-run5 : (p : Parameters) (runs : ℕ) (t : Transcript) → Sent p runs t → (e : ℕ) → e < runs
    → length (message5_at p t.leaves t.message5 e) ≡ message5_length p (leaf_at t.leaves e)
unfolding message5_at
length-run5 p runs t s e l =
    let a = message5-inside p t.leaves e (let k = s.message4 in omega arith) in
    let b = s.message5 in
    length_part t.message5 (message5_place p t.leaves e) (message5_length p (leaf_at t.leaves e)) (omega (arith, a, b))

module _ (hash : List ℕ → ℕ → List ℕ) (p : Parameters) (runs : ℕ) (key : Key) (t t' : Transcript) (c : Comparable hash p runs key t t') (e : ℕ)
    (inside : e < runs) (apart : Apart t t' e) where
  abbrev one : Exchange
  one = exchange_at p t e

  abbrev other : Exchange
  other = exchange_at p t' e

  pub alike_of : Alike hash p key (exchange_at p t e) (exchange_at p t' e)
  unfolding exchange_at exchange
  alike_of = record {
    matched = record {
      same-prefix = ap (λ (m : List ℕ). take prefix_length (message1_at m e)) c.salt-and-h;
      same-message2 = ap (λ (m : List ℕ). message2_at p m e) c.points-and-multipliers;
      inside = c.sent.below e inside;
      inside' = c.sent'.below e inside;
      apart = apart;
      length5 = length-run5 p runs t c.sent e inside;
      length5' = length-run5 p runs t' c.sent' e inside;
    };
    same-h = ap (λ (m : List ℕ). drop prefix_length (message1_at m e)) c.salt-and-h;
    same-message3 = ap (λ (m : List ℕ). message3_at m e) c.response;
    accepted = c.accepted e inside;
    accepted' = c.accepted' e inside;
  }

  module _ (hash-length : (s : List ℕ) (n : ℕ) → length (hash s n) ≡ n) where
    pub length-part5 : length (output hash p one other) ≡ output_length p
    length-part5 =
        length-output hash hash-length p one other alike_of.matched.length5 alike_of.matched.length5' alike_of.matched.apart

    pub run-states : unequal_at hash p key one other ≡ [] → States hash p key one other (output hash p one other)
    run-states q =
        states-hold hash hash-length p key c.within.k-most c.lent.y one other alike_of (none_then hash hash-length p key one other alike_of q)
