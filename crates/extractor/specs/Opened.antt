-- What an opening gives, in one list (`Parts` of openings), as the comparison sees it.
--
-- view_of p leaf aux o     the view of the opening that hides the leaf. The states start the list, so that `state_at o i` is the state of leaf i
-- seen p o                 the view of what an opening gives
-- view_in p place m5 o     what the opening of a run gave, in the front of o
-- Gives                    what that asks of its part of message 5, and of o
use Rattle.std.specs.Prelude.{List, ℕ, ◌≤◌, length, take}
use Rattle.parameters.specs.declared.Parameters.{Parameters}
use Rattle.parameters.specs.Limits.{Within}
use Rattle.layout.specs.Layout.{opened_length}
use Rattle.reader.specs.Message5.{aux_in}
use Rattle.openings.specs.Parts.{rows_in, hidden_commitment}
use Rattle.extractor.specs.declared.opened.Opened.{Opened}
use Rattle.extractor.specs.declared.pairs.Place.{Place}
use Rattle.extractor.specs.Comparison.{View, view}
use Rattle.extractor.specs.Pairs.{message_in, Lies}
pub mod Laws

abbrev pub view_of : Parameters → ℕ → List ℕ → List ℕ → View
view_of p leaf aux o = view leaf (hidden_commitment p o) aux o (rows_in p o)

abbrev pub seen : Parameters → Opened → View
seen p o = view_of p o.hidden o.aux.now o.made.now

abbrev pub view_in : Parameters → Place → List ℕ → List ℕ → View
view_in p place m5 o = view_of p place.leaf (aux_in p (message_in place m5)) (take (opened_length p) o)

pub record Gives (p : Parameters) (place : Place) (m5 o : List ℕ) : Type 0 where
  pub within : Within p
  pub lies : Lies p place m5
  pub room : opened_length p ≤ length o
