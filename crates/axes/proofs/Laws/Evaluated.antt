-- The blocks of some sums, evaluated together, and then of the others.
--
-- few-first            the sums with the constants are some of all
-- Parted p sums blocks share row   how many places they take in the sums and in the blocks, and how many the others
-- from_front, from_back   what is announced by sums in the front of a list, and behind it
use Rattle.std.specs.Prelude.{◌≡◌, Bool, List, ◌++◌, ℕ, ◌+◌, ◌-◌, ◌*◌, ◌≤◌, ◌<◌, length, take, drop}
use Rattle.std.proofs.Common.{sym, ap₂, ◌∙◌, zero-add, mul-le-mul_right, add-mul, arith, take-append-drop, length-take-le}
use Rattle.std.proofs.Math.Path.{ap}
use Rattle.lists.specs.Part.{part}
use Rattle.lists.specs.Part.Laws.{part-part, part-append-left, part-append-right, part-fits}
use Rattle.parameters.specs.declared.Parameters.{Parameters}
use Rattle.parameters.specs.Limits.{Within}
use Rattle.layout.specs.Layout.{others, sum_count, row_length, share_length, sums_length, blocks_length}
use Rattle.layout.specs.Layout.Bounds.{sums-most}
use Rattle.layout.specs.Layout.Laws.{others-pos}
use Rattle.exchange.specs.Values.{Key}
use Rattle.coefficients.specs.Shares.{share_of}
use Rattle.values.specs.Announced.{announced_of}
use Rattle.values.specs.Shares.{block_of, Announcements}
use Rattle.axes.specs.Axes.{rest_count}

pub few-first : (p : Parameters) → p.axes + 1 ≤ sum_count p
few-first p = let e : 1 * p.axes ≤ others p * p.axes = mul-le-mul_right p.axes (others-pos p) in omega arith

pub record Parted (p : Parameters) (sums blocks : List ℕ) (share row : ℕ) : Type 0 where
  pub few : p.axes + 1 ≤ 9
  pub rest-few : rest_count p ≤ 9
  pub sums-end : (p.axes + 1) * share ≡ (p.axes + 1) * share_length p
  pub blocks-end : (p.axes + 1) * row ≡ (p.axes + 1) * row_length p
  pub sums-are : length sums ≡ (p.axes + 1) * share_length p + rest_count p * share_length p
  pub blocks-are : length blocks ≡ (p.axes + 1) * row_length p + rest_count p * row_length p
  pub front-sums : length (take ((p.axes + 1) * share) sums) ≡ (p.axes + 1) * share_length p
  pub front-blocks : length (take ((p.axes + 1) * row) blocks) ≡ (p.axes + 1) * row

pub parted : (p : Parameters) (sums blocks : List ℕ) (share row : ℕ) → Within p → share ≡ share_length p → row ≡ row_length p → length sums ≡ sums_length p
    → length blocks ≡ blocks_length p → Parted p sums blocks share row
parted p sums blocks share row w es er ls lb =
    let n = p.axes + 1 in
    let e : sum_count p ≡ n + rest_count p = omega (arith, few-first p) in
    let es' = ap (◌*◌ n) es in
    let er' = ap (◌*◌ n) er in
    let ls' = ls ∙ ap (λ (k : ℕ). k * share_length p) e ∙ add-mul n (rest_count p) (share_length p) in
    let lb' = lb ∙ ap (λ (k : ℕ). k * row_length p) e ∙ add-mul n (rest_count p) (row_length p) in
    record {
      few = omega (arith, w.axes-most);
      rest-few = omega (arith, sums-most p w);
      sums-end = es';
      blocks-end = er';
      sums-are = ls';
      blocks-are = lb';
      front-sums = length-take-le _ sums (omega arith) ∙ es';
      front-blocks = length-take-le _ blocks (omega arith);
    }

part-behind : (w : List ℕ) (a at n : ℕ) → a ≤ length w → part (drop a w) at n ≡ part w (a + at) n
part-behind w a at n h =
    let e : length (take a w) ≡ a = length-take-le a w h in
    sym (part-append-right (take a w) (drop a w) at n) ∙ ap₂ (λ (d : List ℕ) (k : ℕ). part d (k + at) n) (take-append-drop a w) e

module _ (p : Parameters) (key : Key) (m2 : List ℕ) (first : Bool) (sums : List ℕ) (n : ℕ) (u : List ℕ) (sized : length u ≡ n * row_length p) where
  pub from_front : (v : List ℕ) → Announcements p key m2 first (take (n * share_length p) sums) n u
      → (i : ℕ) → i < n → block_of p (u ++ v) i ≡ announced_of p key m2 first (share_of p sums i)
  from_front v e i h =
      part-append-left u v (i * row_length p) (row_length p) (omega (arith, sized, part-fits i n (row_length p) h)) ∙ e i h
      ∙ ap (announced_of p key m2 first) (front (part-fits i n (share_length p) h))
    where
      front : i * share_length p + share_length p ≤ n * share_length p → share_of p (take (n * share_length p) sums) i ≡ share_of p sums i
      front k = unfold part in part-part sums 0 (n * share_length p) (i * share_length p) (share_length p) k ∙ ap (λ (j : ℕ). part sums j (share_length p)) (zero-add (i * share_length p))

  pub from_back : (r : ℕ) (v : List ℕ) → n * share_length p ≤ length sums → Announcements p key m2 first (drop (n * share_length p) sums) r v
      → (i : ℕ) → n ≤ i → i < n + r → block_of p (u ++ v) i ≡ announced_of p key m2 first (share_of p sums i)
  from_back r v fits e i l h =
      let j : i ≡ n + (i - n) = omega arith in
      ap (λ (k : ℕ). part (u ++ v) k (row_length p)) (ap (λ (k : ℕ). k * row_length p) j ∙ add-mul n (i - n) (row_length p) ∙ ap (λ (k : ℕ). k + (i - n) * row_length p) (sym sized))
      ∙ part-append-right u v ((i - n) * row_length p) (row_length p) ∙ e (i - n) (omega arith)
      ∙ ap (announced_of p key m2 first) (part-behind sums (n * share_length p) ((i - n) * share_length p) (share_length p) fits
      ∙ ap (λ (k : ℕ). part sums k (share_length p)) (sym (add-mul n (i - n) (share_length p)) ∙ ap (λ (k : ℕ). k * share_length p) (sym j)))
