-- The lines that the program `unlock` prints: fields parted by tabs, each line ended by a line feed.
--
-- runs_word, verdict_word, accepted_word, chance_word    words; 'refused' and 'set' are those of the key listing
-- power_text            the ASCII text '2^-'
-- chance_text           the ASCII text 'about, that a prover without the key is accepted'
-- three_digits n        the three digits of n, for n below 1,000
-- number_text n         the decimal of n, for n below 1,000,000
-- number_field n        a tab and a decimal
-- digest_field s        a tab and 32 bytes of SHAKE256 of s in hex
-- number_fields ns      the fields of numbers one behind the other
-- set_line p            the parameters, as the numbers of their set
-- runs_line n           the run count
-- message_line name s   a message: its name, its length and its digest
-- verdict_line a        accepted, or refused with document 01's number
-- chance_line p n       about how likely n runs accept a prover without the key: 1/2^D a run
use Rattle.std.specs.Prelude.{cond, List, [], ◌∷◌, ◌++◌, ℕ, ◌+◌, ◌*◌, ◌/◌, ◌%◌, ltb, length, Ok, Err}
use Rattle.answers.specs.Answer.{Answer}
use Rattle.answers.specs.Number.{refusal_number}
use Rattle.parameters.specs.declared.Parameters.{Parameters}
use Rattle.parameters.specs.Set.{numbers_of}
use Rattle.shake256.specs.Fips.{SHAKE256}
use Rattle.text.specs.Split.{tab, line_feed}
use Rattle.text.specs.Decimal.{decimal_text}
use Rattle.text.specs.Hex.{hex_text}
use Rattle.keytext.specs.Form.{set_word}
use Rattle.keytext.specs.Listing.{refused_word}
pub mod Laws

unfoldable pub runs_word : List ℕ
runs_word = 114 ∷ 117 ∷ 110 ∷ 115 ∷ []

unfoldable pub verdict_word : List ℕ
verdict_word = 118 ∷ 101 ∷ 114 ∷ 100 ∷ 105 ∷ 99 ∷ 116 ∷ []

unfoldable pub accepted_word : List ℕ
accepted_word = 97 ∷ 99 ∷ 99 ∷ 101 ∷ 112 ∷ 116 ∷ 101 ∷ 100 ∷ []

unfoldable pub chance_word : List ℕ
chance_word = 99 ∷ 104 ∷ 97 ∷ 110 ∷ 99 ∷ 101 ∷ []

unfoldable pub power_text : List ℕ
power_text = 50 ∷ 94 ∷ 45 ∷ []

unfoldable pub chance_text : List ℕ
chance_text =
    97 ∷ 98 ∷ 111 ∷ 117 ∷ 116 ∷ 44 ∷ 32 ∷ 116 ∷ 104 ∷ 97 ∷ 116 ∷ 32 ∷ 97 ∷ 32 ∷ 112 ∷ 114 ∷ 111 ∷ 118 ∷ 101 ∷ 114 ∷ 32 ∷ 119 ∷ 105 ∷ 116
    ∷ 104 ∷ 111 ∷ 117 ∷ 116 ∷ 32 ∷ 116 ∷ 104 ∷ 101 ∷ 32 ∷ 107 ∷ 101 ∷ 121 ∷ 32 ∷ 105 ∷ 115 ∷ 32 ∷ 97 ∷ 99 ∷ 99 ∷ 101 ∷ 112 ∷ 116 ∷ 101 ∷ 100 ∷ []

abbrev pub three_digits : ℕ → List ℕ
three_digits n = (48 + n / 100) ∷ (48 + n / 10 % 10) ∷ (48 + n % 10) ∷ []

unfoldable pub number_text : ℕ → List ℕ
number_text n = cond (ltb n 1_000) (decimal_text n) (decimal_text (n / 1_000) ++ three_digits (n % 1_000))

abbrev pub number_field : ℕ → List ℕ
number_field n = tab ∷ number_text n

abbrev pub digest_field : List ℕ → List ℕ
digest_field s = tab ∷ hex_text (SHAKE256 s 32)

abbrev pub number_fields : List ℕ → List ℕ
number_fields [] = []
number_fields (n ∷ ns) = number_field n ++ number_fields ns

unfoldable pub set_line : Parameters → List ℕ
set_line p = set_word ++ (number_fields (numbers_of p) ++ (line_feed ∷ []))

unfoldable pub runs_line : ℕ → List ℕ
runs_line n = runs_word ++ (number_field n ++ (line_feed ∷ []))

unfoldable pub message_line : List ℕ → List ℕ → List ℕ
message_line name s = name ++ (number_field (length s) ++ (digest_field s ++ (line_feed ∷ [])))

unfoldable pub verdict_line : Answer → List ℕ
verdict_line (Ok _) = verdict_word ++ (tab ∷ (accepted_word ++ (line_feed ∷ [])))
verdict_line (Err r) = verdict_word ++ (tab ∷ (refused_word ++ (number_field (refusal_number r) ++ (line_feed ∷ []))))

unfoldable pub chance_line : Parameters → ℕ → List ℕ
chance_line p n = chance_word ++ (tab ∷ (power_text ++ (number_text (n * p.axes) ++ (tab ∷ (chance_text ++ (line_feed ∷ []))))))
