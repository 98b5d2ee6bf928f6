-- What the extractor's call gives, from what the extractor answered.
--
-- extract-unnamed   with a set of another count of numbers
-- extract-given     the number, output and work area, with a set of five
use Rattle.std.specs.Prelude.{◌≡◌, List, ℕ, length}
use Rattle.std.proofs.Math.Path.{ap}
use Rattle.std.proofs.Common.{◌∙◌}
use Rattle.answers.specs.Number.{refusal_number}
use Rattle.answers.specs.declared.Refusal.TheVariants.{Length}
use Rattle.parameters.specs.declared.Parameters.{Parameters}
use Rattle.parameters.specs.Set.{set_length, parameters_of}
use Rattle.shake256.specs.Fips.{SHAKE256}
use Rattle.exchange.specs.Values.{Key}
use Rattle.runs.specs.Opening.{Transcript}
use Rattle.calls.specs.Extractor as extractor
use Rattle.capi.specs.Set.Laws.{set-not, set_so}
use Rattle.capi.specs.Extract.{Outcome, extract_number, given, extract_after, extract_call, extract_set}

module _ (ns : List ℕ) (runs : ℕ) (t t' : Transcript) (key : Key) (work out : List ℕ) where
  abbrev with : Parameters → Outcome
  with p = extract_call p runs t t' key work out

  pub extract-unnamed : (length ns ≡ set_length → ⊥) → given (refusal_number Length) out work ≡ extract_set ns runs t t' key work out
  extract-unnamed h = set-not ns with (given (refusal_number Length) out work) h

  pub extract-given : (p : Parameters) (n : ℕ) (o : extractor.Outcome) → length ns ≡ set_length → p ≡ parameters_of ns
      → o ≡ extractor.extraction SHAKE256 p runs t t' key work out → n ≡ extract_number o.answer
      → given n o.out o.work ≡ extract_set ns runs t t' key work out
  unfolding extract_after
  extract-given p n o e is o_is n-is =
      ap (λ (z : ℕ). given z o.out o.work) n-is ∙ ap extract_after o_is ∙ set_so ns with (given (refusal_number Length) out work) p e is
