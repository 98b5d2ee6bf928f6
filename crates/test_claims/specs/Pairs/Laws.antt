-- Such pairs are as demand 3 has them.
--
-- Axes d           document 01's limits of the axes
-- within, secret   parameters and vector are as they must be
-- below, sent, accepted   the leaves are below n, the messages have their lengths, and all runs of the opening are accepted
-- under            a pair that hides different leaves is comparable, under salt and h of run 1
-- under-pair, under-idle   so are those above
-- bytes_pair, bytes-idle   their messages 5 are bytes
-- points           the points 16, 17, 18
-- different        they are different
-- meets-twice      a list with two pairs of the point r, at multipliers 1 and 2, meets it with both, in run 1
use Rattle.std.proofs.Math.Path.{◌≡◌, refl, ap}
use mathlib.Core.List.{List, [], ◌∷◌}
use Rattle.std.specs.Prelude.{ℕ, zero, suc, ◌≤◌, ◌<◌, take}
use Rattle.std.proofs.Common.{arith, lit<}
use Rattle.std.proofs.Math.Dec.{lit≤}
use Rattle.std.proofs.Math.ListN.{get_or}
use Rattle.algebra.specs.Each.{Distinct}
use Rattle.lists.specs.Part.{part}
use Rattle.bytefield.specs.Byte.{byte}
use Rattle.tower.specs.Point.{lone}
use Rattle.tower.specs.Field.{Point, point}
use Rattle.parameters.specs.Limits.{Within}
use Rattle.polynomial.specs.Bytes.{Bytes}
use Rattle.layout.specs.Layout.{leaves}
use Rattle.layout.specs.Layout.Laws.{leaves-pos}
use Rattle.exchange.proofs.Sequences.Laws.{bytes-joined}
use Rattle.exchange.specs.Reading.{bytes_at, point_at}
use Rattle.exchange.specs.Values.{point_of, multiplier_of}
use Rattle.exchange.proofs.Messages.Laws.{Secret, bytes-message5}
use Rattle.runs.specs.Run.{run_at}
use Rattle.runs.specs.Messages.{message2_at, leaf_at, message1, message5}
use Rattle.runs.proofs.Messages.Laws.{length-message1, length-message3, length-message5}
use Rattle.runs.specs.Opening.{Accepted}
use Rattle.claims.specs.Words.{Sent}
use Rattle.claims.proofs.Completeness.Sample.{one-position}
use Rattle.claims.specs.Weight.{Pair, InBytes, In, Meets, MeetsTwice, Under}
use Rattle.test_standin.specs.StandIn.{stand_in}
use Rattle.test_standin.specs.Definitions.{definitions}
use Rattle.test_claims.specs.StandIn.{length-stand_in, bytes-stand_in}
use Rattle.test_claims.specs.Honest.{honest-accepted}
use Rattle.test_claims.specs.Pairs.{p, key, x_a, x, salt, root, m1, h, message2, messages2, opened, pair, idle}

abbrev pub Axes : ℕ → Type 0
Axes d = (1 ≤ d) × (d ≤ 8)

module _ (d : ℕ) (axes : Axes d) where
  pub within : Within (p d)
  within = record {
    m-least = omega arith;
    m-most = omega arith;
    k-least = omega arith;
    k-most = omega arith;
    w-least = omega arith;
    w-most = omega arith;
    axes-least = axes.0;
    axes-most = axes.1;
    t-least = omega arith;
    t-most = omega arith;
  }

  pub secret : Secret (p d) x
  unfolding definitions
  secret = record { within = within; long = refl; light = omega arith; bytes = (lit< tt, (lit< tt, tt)) }

  module _ (r ε : ℕ) where
    pub below : (i u : ℕ) → i < leaves (p d) → u < leaves (p d) → (e : ℕ) → e < 2 → leaf_at (i ∷ u ∷ []) e < leaves (p d)
    below i u hi hu zero l = hi
    below i u hi hu (suc zero) l = hu
    below i u hi hu (suc (suc e)) l = absurd (omega arith)

    pub sent : (i u : ℕ) → i < leaves (p d) → u < leaves (p d) → Sent (p d) 2 (opened d r ε i u)
    unfolding opened
    sent i u hi hu = record {
      message1 = length-message1 stand_in (p d) 2 x salt root refl length-stand_in;
      message2 = refl;
      message3 = length-message3 stand_in length-stand_in (p d) 2 x secret salt root key (messages2 r ε);
      message4 = refl;
      below = below i u hi hu;
      message5 = length-message5 stand_in length-stand_in (p d) 2 x secret salt root key (messages2 r ε) (i ∷ u ∷ []) refl;
    }

    pub accepted : (i u : ℕ) → i < leaves (p d) → u < leaves (p d) → Accepted stand_in (p d) 2 (opened d r ε i u) key
    unfolding opened
    accepted i u hi hu =
        honest-accepted (p d) 2 key salt root (messages2 r ε) (i ∷ u ∷ []) x_a x refl refl refl secret refl refl (below i u hi hu)

    abbrev both : ℕ → ℕ → ℕ → ℕ → Pair
    both i i' u u' = record { one = opened d r ε i u; other = opened d r ε i' u' }

    salt-held : take 32 (message1 stand_in (p d) 2 x salt root) ≡ salt
    unfolding message1
    salt-held = refl

    under : (i i' u u' : ℕ) → i < leaves (p d) → i' < leaves (p d) → u < leaves (p d) → u' < leaves (p d)
        → (◌≡◌ {A = List ℕ} (i ∷ u ∷ []) (i' ∷ u' ∷ []) → ⊥) → Under stand_in (p d) 2 key 1 salt (h d) (both i i' u u')
    unfolding opened h m1
    under i i' u u' hi hi' hu hu' n = record {
      comparable = record {
        within = within;
        counted = record { least = lit≤ tt; most = lit≤ tt };
        lent = record { matrix = refl; y = refl };
        sent = sent i u hi hu;
        sent' = sent i' u' hi' hu';
        salt-and-h = refl;
        points-and-multipliers = refl;
        distinct = one-position (p d) refl 2 (messages2 r ε);
        response = refl;
        hidden = n;
        accepted = accepted i u hi hu;
        accepted' = accepted i' u' hi' hu';
      };
      same-salt = salt-held;
      same-h = refl;
    }

    pub under-pair : (u u' : ℕ) → u < leaves (p d) → u' < leaves (p d) → (u ≡ u' → ⊥) → Under stand_in (p d) 2 key 1 salt (h d) (pair d r ε u u')
    unfolding pair
    under-pair u u' hu hu' n =
        under 0 0 u u' (leaves-pos (p d)) (leaves-pos (p d)) hu hu' (λ q. n (ap (λ (l : List ℕ). get_or l 1 0) q))

    pub under-idle : 1 < leaves (p d) → Under stand_in (p d) 2 key 1 salt (h d) (idle d r ε)
    unfolding idle
    under-idle l =
        under 0 1 0 0 (leaves-pos (p d)) l (leaves-pos (p d)) (leaves-pos (p d))
        (λ q. let z : ◌≡◌ {A = ℕ} 0 1 = ap (λ (l : List ℕ). get_or l 0 0) q in omega arith)

    bytes-opened : (i u : ℕ) → Bytes (opened d r ε i u).message5
    unfolding opened message5
    bytes-opened i u =
        bytes-joined _ 2
        (λ e l. bytes-message5 stand_in bytes-stand_in (p d) x secret.bytes (run_at stand_in salt root e) key (message2_at (p d) (messages2 r ε) e)
        (leaf_at (i ∷ u ∷ []) e))

    pub bytes_pair : (u u' : ℕ) → InBytes (pair d r ε u u')
    unfolding pair
    bytes_pair u u' = record { one = bytes-opened 0 u; other = bytes-opened 0 u' }

    pub bytes-idle : InBytes (idle d r ε)
    unfolding idle
    bytes-idle = record { one = bytes-opened 0 0; other = bytes-opened 1 0 }

-- ---- the points

unfoldable pub points : List Point
points = point (lone 16) ∷ point (lone 17) ∷ point (lone 18) ∷ []

byte_of : Point → ℕ
byte_of r = r.0.0.0

pub different : Distinct points
unfolding points point byte byte_of
different = (
  ((λ e. let z : ◌≡◌ {A = ℕ} 17 16 = ap byte_of e in omega arith), ((λ e. let z : ◌≡◌ {A = ℕ} 18 16 = ap byte_of e in omega arith), tt)),
  (((λ e. let z : ◌≡◌ {A = ℕ} 18 17 = ap byte_of e in omega arith), tt), (tt, tt)),
)

module _ (d r u u' v v' : ℕ) (qs : List Pair) where
  pub meets-twice : In (pair d r 1 u u') qs → In (pair d r 2 v v') qs → (u ≡ u' → ⊥) → (v ≡ v' → ⊥)
      → MeetsTwice (p d) 1 qs 0 (point (lone r))
  meets-twice i i' n n' = record {
    pair = pair d r 1 u u';
    pair' = pair d r 2 v v';
    ε = point (lone 1);
    ε' = point (lone 2);
    in_list = i;
    in-list' = i';
    counts = unfold pair opened in n;
    counts' = unfold pair opened in n';
    meets = met 1 u u';
    meets' = met 2 v v';
    unequal = λ e. unequal e;
  }
    where
      met : (ε u u' : ℕ) → Meets (p d) 1 (pair d r ε u u') 0 (point (lone r)) (point (lone ε))
      met ε u u' = unfold pair opened message2_at part point_of multiplier_of point_at bytes_at in record { point = refl; multiplier = refl }

      unequal : point (lone 1) ≡ point (lone 2) → ⊥
      unequal e = unfold point byte byte_of in (let z : ◌≡◌ {A = ℕ} 1 2 = ap byte_of e in omega arith)
