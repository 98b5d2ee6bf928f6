-- The key listing (document 01, Key listing): from the bytes of the input to the bytes of the output.
--
-- vector_word to f_word, refused_word     the words of the lines that are printed
-- result_line word s        a line of a word and bytes in hex
-- refused_line r            'A refusal prints only `refused<TAB>` and the number', its line ended
-- key_lines w x             'vector is x and locator all of Q', then S, P, F
-- parameters_in t           the parameters of the set line
-- vector_in t               x, of the matrix, the syndrome y and the key x_A
-- answer_in t               the checks: 10 over the whole input, then 1, 2, 3
-- printed a w x            the lines, or the refusal
-- listing_of t              the whole output for the input t
use Rattle.std.specs.Prelude.{List, [], ◌∷◌, ◌++◌, ℕ, length, Ok, Err}
use Rattle.answers.specs.declared.Refusal.{Refusal}
use Rattle.answers.specs.declared.Refusal.TheVariants.{Malformed}
use Rattle.answers.specs.Answer.{Answer}
use Rattle.answers.specs.Number.{refusal_number}
use Rattle.answers.specs.Checks.{checks}
use Rattle.parameters.specs.declared.Parameters.{Parameters}
use Rattle.parameters.specs.Set.{parameters_of}
use Rattle.polynomial.specs.Interpolant.{interpolant_of, vanishing_of}
use Rattle.relation.specs.Key.{vector_of, locator_of, quotient_of}
use Rattle.relation.specs.Admission.{key_checks}
use Rattle.text.specs.Split.{tab, line_feed}
use Rattle.text.specs.Decimal.{decimal_text}
use Rattle.text.specs.Hex.{hex_text}
use Rattle.text.specs.Form.{has_form}
use Rattle.keytext.specs.Form.{key_form, numbers_in, bytes_at}
pub mod Laws

unfoldable pub vector_word : List ℕ
vector_word = 118 ∷ 101 ∷ 99 ∷ 116 ∷ 111 ∷ 114 ∷ []

unfoldable pub locator_word : List ℕ
locator_word = 108 ∷ 111 ∷ 99 ∷ 97 ∷ 116 ∷ 111 ∷ 114 ∷ []

unfoldable pub s_word : List ℕ
s_word = 83 ∷ []

unfoldable pub p_word : List ℕ
p_word = 80 ∷ []

unfoldable pub f_word : List ℕ
f_word = 70 ∷ []

unfoldable pub refused_word : List ℕ
refused_word = 114 ∷ 101 ∷ 102 ∷ 117 ∷ 115 ∷ 101 ∷ 100 ∷ []

unfoldable pub result_line : List ℕ → List ℕ → List ℕ
result_line word s = word ++ (tab ∷ (hex_text s ++ (line_feed ∷ [])))

unfoldable pub refused_line : Refusal → List ℕ
refused_line r = refused_word ++ (tab ∷ (decimal_text (refusal_number r) ++ (line_feed ∷ [])))

unfoldable pub key_lines : ℕ → List ℕ → List ℕ
key_lines w x =
    result_line vector_word x
    ++ (result_line locator_word (locator_of w x)
    ++ (result_line s_word (interpolant_of x) ++ (result_line p_word (quotient_of w x) ++ result_line f_word (vanishing_of (length x)))))

abbrev pub parameters_in : List ℕ → Parameters
parameters_in t = parameters_of (numbers_in t)

abbrev pub vector_in : List ℕ → List ℕ
vector_in t = vector_of (bytes_at t 1) (bytes_at t 2) (bytes_at t 3)

abbrev pub answer_in : List ℕ → Answer
answer_in t = checks ((has_form key_form t, Malformed) ∷ key_checks (parameters_in t) (bytes_at t 1) (bytes_at t 2) (bytes_at t 3))

abbrev pub printed : Answer → ℕ → List ℕ → List ℕ
printed (Ok _) w x = key_lines w x
printed (Err r) w x = refused_line r

unfoldable pub listing_of : List ℕ → List ℕ
listing_of t = printed (answer_in t) (parameters_in t).w (vector_in t)
