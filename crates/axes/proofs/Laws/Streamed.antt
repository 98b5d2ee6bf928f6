-- Layer 7's string on its way through the sponge.
--
-- streamed p pre rows n        the sponge that has absorbed 7 ‖ prefix ‖ the digests of the first n axes
-- streamed-none, -turn, -end   from no axis to all
use Rattle.std.specs.Prelude.{◌≡◌, ℕ, ◌+◌, ◌-◌, ◌*◌, drop}
use Rattle.std.proofs.Common.{sym, ◌∙◌, add-one}
use Rattle.std.proofs.Math.Path.{ap, ap₂}
use mathlib.Core.List.{List, [], ◌∷◌}
use native.Mathlib.Omega.{arith}
use Rattle.std.proofs.Math.ListN.{take}
use Rattle.shake256.specs.declared.Sponge.{Sponge}
use Rattle.shake256.specs.Stream.{absorbed}
use Rattle.shake256.specs.Fips.{SHAKE256}
use Rattle.lists.specs.Part.{part}
use Rattle.parameters.specs.declared.Parameters.{Parameters}
use Rattle.layout.specs.Layout.{axis_length}
use Rattle.exchange.specs.Sequences.{joined}
use Rattle.exchange.specs.Strings.{string, string7}
use Rattle.strings.specs.Digest.{begun, hashed}
use Rattle.strings.specs.Digest.Laws.{hashed-begun, hashed-streamed, absorbed-joined}
use Rattle.axes.specs.RowStrings.{row_string, rows_string}

unfoldable pub streamed : Parameters → List ℕ → List ℕ → ℕ → Sponge
streamed p prefix rows n = absorbed (begun 7 prefix) (joined (λ j. SHAKE256 (row_string p prefix rows j) 32) n)

module _ (p : Parameters) (prefix rows : List ℕ) where
  pub streamed-none : (all : Sponge) → all ≡ begun 7 prefix → all ≡ streamed p prefix rows 0
  unfolding streamed joined absorbed
  streamed-none all e = e

  pub streamed-turn : (all next : Sponge) (j b width : ℕ) → b ≡ j * axis_length p → width ≡ axis_length p → all ≡ streamed p prefix rows j
      → next ≡ absorbed all (SHAKE256 (string 6 prefix ((j + 1) ∷ take (b + width - b) (drop b rows))) 32) → next ≡ streamed p prefix rows (j + 1)
  unfolding streamed part
  streamed-turn all next j b width eb ew ea en =
      let e : b + width - b ≡ axis_length p = omega arith in
      en
      ∙ ap₂ (λ (s : Sponge) (r : List ℕ). absorbed s (SHAKE256 (string 6 prefix ((j + 1) ∷ r)) 32)) ea
      (ap₂ (λ (n i : ℕ). take n (drop i rows)) e eb)
      ∙ absorbed-joined (begun 7 prefix) (λ j. SHAKE256 (row_string p prefix rows j) 32) j
      ∙ ap (streamed p prefix rows) (sym (add-one j))

  pub streamed-end : (all : Sponge) (j n : ℕ) → j ≡ p.axes → all ≡ streamed p prefix rows j
      → hashed all [] n ≡ SHAKE256 (rows_string SHAKE256 p prefix rows) n
  unfolding streamed string7
  streamed-end all j n e ea =
      ap (λ (s : Sponge). hashed s [] n) (ea ∙ ap (streamed p prefix rows) e)
      ∙ hashed-streamed (begun 7 prefix) _ n
      ∙ hashed-begun 7 prefix (joined (λ j. SHAKE256 (row_string p prefix rows j) 32) p.axes) n
