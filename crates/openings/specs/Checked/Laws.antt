-- What was recomputed and compared is the check of the opening, and what the list that it leaves holds.
--
-- checked-made     the answer on what was recomputed from the parts of message 5 is the verdict
-- checked-state    the state of a disclosed leaf
-- checked-row      behind an axis's number, layer 6's string has the axis's row
use Rattle.std.specs.Prelude.{◌≡◌, ℕ, ◌+◌, ◌*◌, ◌<◌, length, take}
use Rattle.std.proofs.Math.Path.{sym, ap, ap₂}
use Rattle.std.proofs.Common.{◌∙◌}
use mathlib.Core.List.{List, [], ◌∷◌}
use Rattle.shake256.specs.Fips.{SHAKE256}
use Rattle.lists.specs.Part.{part}
use Rattle.lists.specs.Equal.{eq_list}
use Rattle.answers.specs.Answer.{Answer}
use Rattle.answers.specs.declared.Refusal.TheVariants.{Commitment, Response}
use Rattle.answers.specs.Checks.{checks}
use Rattle.parameters.specs.declared.Parameters.{Parameters}
use Rattle.parameters.specs.Limits.{Within}
use Rattle.layout.specs.Layout.{leaves, axis_length, siblings_length, message5_length}
use Rattle.exchange.specs.Strings.{string, string6}
use Rattle.exchange.specs.Values.{Key}
use Rattle.exchange.specs.Parties.{axis_string}
use Rattle.exchange.specs.Opening.{Exchange, path_of, commitment_of, opened_state, announced, verdict}
use Rattle.leaves.specs.States.{states_from}
use Rattle.parties.specs.Sums.Front.{filled}
use Rattle.reader.specs.Message5.{siblings_in, commitment_in, values_in, aux_in}
use Rattle.openings.specs.Statement.{message2_in, prefix_in, digest_in, response_in, exchange_in}
use Rattle.openings.specs.Parts.{states_in, rows_in, hidden_commitment}
use Rattle.openings.specs.From.{digest_from, announced_from, response_from, judged}
use Rattle.openings.specs.Opened.{opened_states, opened_row, opened_rows}
use Rattle.openings.specs.Opened.Laws.{opened-state, row_opened}
use Rattle.openings.specs.Opened.Made.{made-rows, made-commitment, made-response}
use Rattle.openings.specs.Checked.{LeavesOpened, AxesOpened, Checked}

module _ (m5 : List ℕ) {p : Parameters} {s : List ℕ} {leaf : ℕ} {prefix values aux : List ℕ} {key : Key} {r : Answer} {work₀ o₀ work o work' o' : List ℕ}
    (within : Within p) (below : leaf < leaves p) (long : length m5 ≡ message5_length p leaf)
    (of-prefix : prefix ≡ prefix_in p s) (of-siblings : take (siblings_length p) work₀ ≡ siblings_in p m5) (of-commitment : hidden_commitment p o₀ ≡ commitment_in p m5)
    (of_values : values ≡ values_in p m5) (of-aux : aux ≡ aux_in p m5)
    (first : LeavesOpened p prefix leaf aux work₀ o₀ work o) (second : AxesOpened p s leaf values key work o work' o') (answered : r ≡ judged p s leaf aux o') where
  abbrev e : Exchange
  e = exchange_in p s leaf m5

  states-before : states_in p o ≡ opened_states p (exchange_in p s leaf m5)
  unfolding exchange_in opened_states path_of siblings_in
  states-before = first.states-are ∙ ap₂ (λ (pre l : List ℕ). states_from p pre leaf l) of-prefix of-siblings

  states-are : states_in p o' ≡ opened_states p (exchange_in p s leaf m5)
  states-are = second.states-stay ∙ states-before

  commitment-is : hidden_commitment p o' ≡ commitment_of p (exchange_in p s leaf m5)
  unfolding exchange_in commitment_of commitment_in part
  commitment-is = second.commitment-stays ∙ first.commitment-stays ∙ of-commitment

  rows_are : rows_in p o' ≡ opened_rows p (exchange_in p s leaf m5) key
  unfolding exchange_in
  rows_are =
      second.rows_are
      ∙ ap₂ (λ (w v : List ℕ). announced_from p key (message2_in p s) w leaf v)
      (first.sums-are ∙ ap₂ (λ (pre st : List ℕ). filled p pre st leaf aux) of-prefix states-before ∙ ap (filled p (prefix_in p s) (opened_states p e) leaf) of-aux) of_values
      ∙ made-rows p e within below long key

  answer-is : r ≡ verdict SHAKE256 p (exchange_in p s leaf m5) key
  unfolding judged exchange_in verdict
  answer-is =
      answered
      ∙ ap₂ (λ (h h' : List ℕ). checks ((eq_list h (digest_in s), Commitment) ∷ (eq_list h' (response_in s), Response) ∷ []))
      (ap₂ (λ (c a : List ℕ). digest_from p (prefix_in p s) leaf c a (states_in p o') 32) commitment-is of-aux
      ∙ ap (λ (st : List ℕ). digest_from p (prefix_in p s) leaf (commitment_of p e) (aux_in p m5) st 32) states-are ∙ made-commitment p e within below long)
      (ap (λ (rows : List ℕ). response_from p (prefix_in p s) rows 32) rows_are ∙ made-response p e key)

  pub checked-made : Checked p (exchange_in p s leaf m5) key r work' o'
  checked-made = record { answer = answer-is; zeros = second.zeros; states-are = states-are; rows_are = rows_are; commitment-is = commitment-is }

module _ {p : Parameters} {e : Exchange} {key : Key} {r : Answer} {work o : List ℕ} (checked : Checked p e key r work o) where
  pub checked-state : e.leaf < leaves p → length e.message5 ≡ message5_length p e.leaf → (i : ℕ) → i < leaves p → (i ≡ e.leaf → ⊥)
      → opened_state SHAKE256 p e i ≡ part (states_in p o) (32 * i) 32
  checked-state below long i h other = sym (ap (λ (st : List ℕ). part st (32 * i) 32) checked.states-are ∙ opened-state p e below long i h other)

  pub checked-row : (j : ℕ) → j < p.axes
      → axis_string p e.prefix j (announced SHAKE256 p e key j) ≡ string 6 e.prefix ((j + 1) ∷ part (rows_in p o) (j * axis_length p) (axis_length p))
  unfolding opened_row axis_string string6
  checked-row j h =
      sym
      (ap (λ (row : List ℕ). string 6 e.prefix ((j + 1) ∷ row))
      (ap (λ (rows : List ℕ). part rows (j * axis_length p) (axis_length p)) checked.rows_are ∙ row_opened p e key j h))
