-- What the steps make is what the opening gives.
--
-- made-commitment      the digest of layer 5
-- made-parties         the sums are those of the parties' disclosed leaves
-- made-rows            what the parties of every axis announce, from these sums
-- made-response        the digest of layer 7
use Rattle.std.specs.Prelude.{◌≡◌, not, ℕ, ◌+◌, ◌<◌, eqb, length}
use Rattle.std.proofs.Math.Path.{refl, ap}
use Rattle.std.proofs.Common.{◌∙◌}
use mathlib.Core.List.{List}
use Rattle.std.proofs.lemmas.Bool.{eqb-false, not-true}
use Rattle.shake256.specs.Fips.{SHAKE256}
use Rattle.lists.specs.Part.{part}
use Rattle.lists.specs.Checks.Laws.{and_right}
use Rattle.parameters.specs.declared.Parameters.{Parameters}
use Rattle.parameters.specs.Limits.{Within}
use Rattle.layout.specs.Layout.{side, leaves, values_length, siblings_length, message5_length}
use Rattle.exchange.proofs.Sequences.Laws.{joined-ext}
use Rattle.exchange.specs.Leaf.{share}
use Rattle.exchange.specs.Values.{Key}
use Rattle.exchange.specs.Parties.{total, party_of}
use Rattle.exchange.proofs.Parties.Laws.{total_ext}
use Rattle.exchange.specs.Opening.{Exchange, commitment_of, aux_of, opened_share, disclosed, commitment_string, response_string}
use Rattle.leaves.specs.States.{state_at}
use Rattle.leaves.specs.Commitments.Laws.{commitments-string}
use Rattle.parties.specs.Totals.{disclosed_of}
use Rattle.parties.specs.Sums.Front.{Known, filled, party-filled}
use Rattle.axes.specs.Announcing.{party_from, row_of}
use Rattle.axes.proofs.Laws.Announcing.Strings.{opened-row}
use Rattle.reader.specs.Message5.{values_in, aux_in}
use Rattle.reader.proofs.Laws.Message5.{aux-short, no-aux}
use Rattle.openings.specs.From.{digest_from, announced_from, response_from}
use Rattle.openings.specs.Opened.{opened_states, opened_row, opened_rows}
use Rattle.openings.specs.Opened.Laws.{opened-state, rows-string}

module _ (p : Parameters) (e : Exchange) where
  pub made-response : (key : Key) → response_from p e.prefix (opened_rows p e key) 32 ≡ SHAKE256 (response_string SHAKE256 p e key) 32
  unfolding response_from
  made-response key = ap (λ (s : List ℕ). SHAKE256 s 32) (rows-string p e key)

  module _ (within : Within p) (below : e.leaf < leaves p) (long : length e.message5 ≡ message5_length p e.leaf) where
    pub made-commitment : digest_from p e.prefix e.leaf (commitment_of p e) (aux_in p e.message5) (opened_states p e) 32 ≡ SHAKE256 (commitment_string SHAKE256 p e) 32
    unfolding digest_from aux_in aux_of
    made-commitment =
        ap (λ (s : List ℕ). SHAKE256 s 32) (commitments-string p e (opened_states p e) (commitment_of p e) (aux_in p e.message5) (opened-state p e below long) refl refl)

    known : Known p e.leaf (aux_in p e.message5)
    known = record { short = aux-short p e.leaf e.message5 long; last-hidden = no-aux p e.leaf e.message5 long }

    sums : List ℕ
    sums = filled p e.prefix (opened_states p e) e.leaf (aux_in p e.message5)

    -- the shares of disclosed leaves
    shares-are : (j c : ℕ)
        → total p (disclosed_of p e.leaf j c) (λ i. share SHAKE256 p e.prefix i (state_at (opened_states p e) i) (aux_in p e.message5)) (leaves p) ≡ disclosed SHAKE256 p e j c
    unfolding disclosed opened_share aux_in aux_of
    shares-are j c =
        total_ext p (disclosed_of p e.leaf j c) _ (opened_share SHAKE256 p e) (leaves p)
        (λ i l picked. ap (λ (st : List ℕ). share SHAKE256 p e.prefix i st (aux_in p e.message5))
        (opened-state p e below long i l (eqb-false i e.leaf (not-true (eqb i e.leaf) (and_right (party_of p j c i) (not (eqb i e.leaf)) picked)))))

    made-parties : (j c : ℕ) → j < p.axes → c < side p → party_from p sums j c ≡ disclosed SHAKE256 p e j c
    unfolding party_from sums
    made-parties j c hj hc = party-filled p e.prefix (opened_states p e) e.leaf (aux_in p e.message5) known j c hj hc ∙ shares-are j c

    pub made-rows : (key : Key) → announced_from p key e.message2 (filled p e.prefix (opened_states p e) e.leaf (aux_in p e.message5)) e.leaf (values_in p e.message5)
        ≡ opened_rows p e key
    unfolding announced_from opened_rows opened_row sums
    made-rows key =
        joined-ext (row_of p key e.message2 sums e.leaf (values_in p e.message5)) (opened_row p e key) p.axes
        (opened-row SHAKE256 p e key sums (values_in p e.message5) below values made-parties)
      where
        values : values_in p e.message5 ≡ part e.message5 (siblings_length p + 32) (values_length p)
        values = unfold values_in in refl
