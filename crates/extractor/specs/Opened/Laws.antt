-- What an opening gives, part by part.
--
-- state-front      the states are the front
-- openings-given   what two openings of a run give is what the comparison asks, where they hide different leaves
use Rattle.std.specs.Prelude.{◌≡◌, List, ℕ, ◌+◌, ◌*◌, ◌<◌, length}
use Rattle.std.proofs.Common.{ap, sym, ◌∙◌, arith, length-take-le}
use Rattle.lists.specs.Part.{part}
use Rattle.lists.specs.Part.Laws.{part-part}
use Rattle.parameters.specs.declared.Parameters.{Parameters}
use Rattle.layout.specs.Layout.{leaves, is_last, opened_length, states_length}
use Rattle.openings.specs.Parts.{states_in}
use Rattle.reader.proofs.Laws.Message5.{all-aux}
use Rattle.extractor.specs.declared.opened.Opened.{Opened}
use Rattle.extractor.specs.declared.pairs.Place.{Place}
use Rattle.extractor.specs.Comparison.{View, state_at}
use Rattle.extractor.specs.Opened.{seen, view_in, Gives}
use Rattle.extractor.specs.Pairs.{message_in, length-message}
use Rattle.extractor.specs.Shapes.{Opening, Openings}

pub state-front : (p : Parameters) (o : List ℕ) (i : ℕ) → i < leaves p → state_at (states_in p o) i ≡ state_at o i
unfolding states_in part
state-front p o i l =
    let z : 0 + 32 * i ≡ 32 * i = omega arith in part-part o 0 (states_length p) (32 * i) 32 (omega arith) ∙ ap (λ (m : ℕ). part o m 32) z

module _ (p : Parameters) (place : Place) (m5 o : List ℕ) (g : Gives p place m5 o) (x : Opened) (e : seen p x ≡ view_in p place m5 o) where
  hidden-given : x.hidden ≡ place.leaf
  hidden-given = ap (λ (v : View). v.leaf) e

  opening-given : Opening p x
  opening-given = record {
    below = omega (arith, hidden-given, g.lies.below);
    aux-size = λ h. ap length (ap (λ (v : View). v.aux) e)
        ∙ all-aux p place.leaf (message_in place m5) (length-message p place m5 g.lies) (ap (is_last p) (sym hidden-given) ∙ h);
    size = ap length (ap (λ (v : View). v.states) e) ∙ length-take-le (opened_length p) o g.room;
  }

pub openings-given : (p : Parameters) (place place' : Place) (m5 m5' o o' : List ℕ) → Gives p place m5 o → Gives p place' m5' o' → (x x' : Opened)
    → seen p x ≡ view_in p place m5 o → seen p x' ≡ view_in p place' m5' o' → (place.leaf ≡ place'.leaf → ⊥) → Openings p x x'
openings-given p place place' m5 m5' o o' g g' x x' e e' other = record {
  within = g.within;
  one = opening-given p place m5 o g x e;
  two = opening-given p place' m5' o' g' x' e';
  other = λ q. other (sym (hidden-given p place m5 o g x e) ∙ q ∙ hidden-given p place' m5' o' g' x' e');
}
