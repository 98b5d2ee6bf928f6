-- The laws of message 3 from the sums over the leaves.
--
-- total-is          at index D stands the sum of all shares as hashed
-- fill-made         aux comes from it, and is added into it
-- parts-own         the parties of all axes, from the sums
-- response-made     so h' is message 3
use Rattle.std.specs.Prelude.{◌≡◌, ℕ, ◌*◌, ◌<◌, length, replicate}
use Rattle.std.proofs.Common.{sym, ap₂, ◌∙◌, le_refl, le_of_eq, arith}
use Rattle.std.proofs.Math.Path.{ap}
use mathlib.Core.List.{List}
use Rattle.shake256.specs.Fips.{SHAKE256}
use Rattle.lists.specs.Part.{part}
use Rattle.parameters.specs.declared.Parameters.{Parameters}
use Rattle.layout.specs.Layout.{side, leaves, values_length, aux_length, share_length}
use Rattle.layout.specs.Layout.Laws.{leaves-pos}
use Rattle.exchange.specs.Run.{Run}
use Rattle.exchange.specs.Leaf.{share}
use Rattle.exchange.specs.Values.{Key}
use Rattle.exchange.specs.Parties.{total, party_of}
use Rattle.exchange.proofs.Parties.Laws.{total_ext}
use Rattle.exchange.specs.Messages.{own_aux, own_share, own_party, message3}
use Rattle.messages.specs.Auxiliary.{aux_for}
use Rattle.leaves.specs.States.{state_at}
use Rattle.parties.specs.Drawn.{drawn_share}
use Rattle.parties.specs.Totals.{disclosed_of, hides-none, party-hides-none}
use Rattle.parties.specs.Sums.{party_sums, with_aux}
use Rattle.parties.specs.Sums.Front.{Known, sum-total, party-filled}
use Rattle.axes.specs.Announcing.{party_from}
use Rattle.axes.proofs.Laws.Announcing.Strings.{own-rows}
use Rattle.messages.specs.Own.{own_states, sum_of}
use Rattle.messages.proofs.Laws.Own.{own_states-at, aux-made}
use Rattle.messages.specs.Response.{Filled, response_of}

pub total-is : (p : Parameters) (prefix states : List ℕ)
    → part (party_sums p (drawn_share p prefix states) (leaves p)) (p.axes * share_length p) (share_length p) ≡ sum_of p prefix states
unfolding drawn_share
total-is p prefix states =
    sum-total p prefix states (leaves p) ∙ hides-none p (drawn_share p prefix states) (leaves p) (leaves p) (le_refl (leaves p))

module _ (p : Parameters) (x : List ℕ) (run : Run) (sixteen : length run.root ≡ 16) where
  -- the sums d, then aux added
  pub fill-made : (prefix states : List ℕ) (n : ℕ) (d aux sums : List ℕ) → prefix ≡ run.prefix → states ≡ own_states p run → n ≡ leaves p
      → d ≡ party_sums p (drawn_share p prefix states) n → aux ≡ aux_for p x (part d (p.axes * share_length p) (share_length p))
      → length aux ≡ aux_length p → sums ≡ with_aux p d aux → Filled p x run sums
  fill-made prefix states n d aux sums ep es en e ea sized e' =
      let all : d ≡ party_sums p (drawn_share p run.prefix (own_states p run)) (leaves p)
      = e ∙ ap (λ (q : List ℕ). party_sums p (drawn_share p q states) n) ep ∙ ap₂ (λ (st : List ℕ) (k : ℕ). party_sums p (drawn_share p run.prefix st) k) es en in
      let own : aux ≡ own_aux SHAKE256 p x run
      = ea ∙ ap (λ (w : List ℕ). aux_for p x (part w (p.axes * share_length p) (share_length p))) all
      ∙ ap (aux_for p x) (total-is p run.prefix (own_states p run)) ∙ aux-made p x run sixteen in
      record { is = e' ∙ ap₂ (with_aux p) all own; sized = ap length (sym own) ∙ sized }

  module _ (sums : List ℕ) (fill : Filled p x run sums) (key : Key) (message2 : List ℕ) where
    abbrev aux : List ℕ
    aux = own_aux SHAKE256 p x run

    abbrev shares : ℕ → List ℕ
    shares i = share SHAKE256 p run.prefix i (state_at (own_states p run) i) aux

    -- leaf n−1 is a leaf, so it is not hidden
    known : Known p (leaves p) aux
    known = record { short = le_of_eq fill.sized; last-hidden = λ e. absurd (omega (arith, leaves-pos p)) }

    -- the parties' sums of the leaves that the states give
    own : (j c : ℕ) → total p (disclosed_of p (leaves p) j c) shares (leaves p) ≡ own_party SHAKE256 p x run key message2 j c
    unfolding own_party own_share
    own j c =
        party-hides-none p shares (leaves p) j c (leaves p) (le_refl (leaves p))
        ∙ total_ext p (party_of p j c) shares (own_share SHAKE256 p x run) (leaves p)
        (λ i h e. ap (λ (st : List ℕ). share SHAKE256 p run.prefix i st aux) (own_states-at p x run sixteen i h))

    pub parts-own : (j c : ℕ) → j < p.axes → c < side p → party_from p sums j c ≡ own_party SHAKE256 p x run key message2 j c
    unfolding party_from
    parts-own j c hj hc =
        ap (λ (d : List ℕ). party_from p d j c) fill.is ∙ party-filled p run.prefix (own_states p run) (leaves p) aux known j c hj hc ∙ own j c

    pub response-made : response_of p run.prefix key message2 sums ≡ message3 SHAKE256 p x run key message2
    unfolding response_of
    response-made = own-rows SHAKE256 p x run key message2 sums (leaves p) (replicate (values_length p) 0) (le_refl (leaves p)) parts-own
