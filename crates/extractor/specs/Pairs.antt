-- A run of two exchanges: the hidden leaves, and where the run's part of either message 5 lies.
--
-- place_at p is e       of run e, where the runs hide the leaves is
-- pair_at p is js e     of run e of two exchanges
-- PlaceAsked           e is one of the runs
-- message_in place m5   the part, lent
-- Lies p place m5      the hidden leaf is below n, the part is as long as it gives, and within message 5
-- length-message       the length of the part
-- aux-before           aux starts within it
-- lies_at              so it is in a message 5 of the right length
-- message-at           and the part is the run's
use Rattle.std.specs.Prelude.{◌≡◌, refl, List, ℕ, ◌+◌, ◌-◌, ◌≤◌, ◌<◌, length, take, drop}
use Rattle.std.proofs.Common.{arith, length-take-le}
use Rattle.lists.specs.Part.Laws.{lent-part, length-lent}
use Rattle.parameters.specs.declared.Parameters.{Parameters}
use Rattle.parameters.specs.Limits.{Within}
use Rattle.layout.specs.Layout.{leaves, message5_length}
use Rattle.layout.specs.Maxima.{most_runs}
use Rattle.layout.specs.Runs.{messages5_length, message5_place}
use Rattle.layout.specs.Runs.Laws.{message5-inside, messages5-most}
use Rattle.runs.specs.Messages.{leaf_at}
use Rattle.reader.specs.Message5.{aux_place}
use Rattle.reader.proofs.Laws.Message5.{aux-inside}
use Rattle.runs.specs.Opening.{message5_at}
use Rattle.extractor.specs.declared.pairs.Place.{Place}
use Rattle.extractor.specs.declared.pairs.Pair.{Pair}

abbrev pub place_at : Parameters → List ℕ → ℕ → Place
place_at p is e = record { leaf = leaf_at is e; start = message5_place p is e; end = message5_place p is e + message5_length p (leaf_at is e) }

abbrev pub pair_at : Parameters → List ℕ → List ℕ → ℕ → Pair
pair_at p is js e = record { p = p; first = place_at p is e; second = place_at p js e }

pub record PlaceAsked (p : Parameters) (is : List ℕ) (e : ℕ) : Type 0 where
  pub within : Within p
  pub few : length is ≤ most_runs
  pub inside : e < length is

abbrev pub message_in : Place → List ℕ → List ℕ
message_in place m5 = take (place.end - place.start) (drop place.start m5)

pub record Lies (p : Parameters) (place : Place) (m5 : List ℕ) : Type 0 where
  pub below : place.leaf < leaves p
  pub near : place.start ≤ 32_640
  pub long : place.end ≡ place.start + message5_length p place.leaf
  pub inside : place.end ≤ length m5

pub length-message : (p : Parameters) (place : Place) (m5 : List ℕ) → Lies p place m5 → length (message_in place m5) ≡ message5_length p place.leaf
length-message p place m5 l = rw l.long (length-lent place.start (message5_length p place.leaf) m5 (let a = l.inside in let b = l.long in omega arith))

pub aux-before : (p : Parameters) (place : Place) (m5 : List ℕ) → Lies p place m5 → place.start + aux_place p ≤ place.end
aux-before p place m5 l =
    let a = aux-inside p place.leaf (message_in place m5) (length-message p place m5 l) in let b = length-message p place m5 l in let c = l.long in
    omega arith

module _ (p : Parameters) (is : List ℕ) (m5 : List ℕ) where
  pub lies_at : (e : ℕ) → Within p → length is ≤ most_runs → length m5 ≡ messages5_length p is → e < length is → leaf_at is e < leaves p
      → Lies p (place_at p is e) m5
  lies_at e w few long inside below = record {
    below = below;
    near = let a = messages5-most p w (take e is) in let b = length-take-le e is (omega arith) in omega arith;
    long = refl;
    inside = let a = message5-inside p is e inside in omega arith;
  }

  pub message-at : (e : ℕ) → message_in (place_at p is e) m5 ≡ message5_at p is m5 e
  unfolding message5_at
  message-at e = lent-part m5 (message5_place p is e) (message5_length p (leaf_at is e))
