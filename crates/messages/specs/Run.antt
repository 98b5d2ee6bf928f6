-- What an exchange starts from, and a run, as the code has them: one slice each.
--
-- salt_in s, root_in s   what an exchange starts from: the salt of 32 bytes, then the root seed of 16
-- seeds-made           salt and root, written one after another
-- run_in s       the run that s holds: the root's seed of 16 bytes, then the prefix, which is the rest and may have any length
-- root-length   its root's seed has 16 bytes
-- prefix-made, run-made   the prefix is written and the root's seed hashed before it: the run of a number
use Rattle.std.specs.Prelude.{◌≡◌, List, [], ◌∷◌, ◌++◌, ℕ, ◌+◌, ◌≤◌, length, take, drop}
use Rattle.std.proofs.Common.{sym, ap, ap₂, ◌∙◌, append_assoc, le_of_eq, arith, length-append, length-drop, drop_of_length-le, take_at, drop_at, length-take-le}
use Rattle.lists.specs.Part.{put_at}
use Rattle.lists.specs.Part.Laws.{put_at-put_at, put_at-whole}
use Rattle.shake256.specs.declared.Sponge.{Sponge}
use Rattle.shake256.specs.Fips.{SHAKE256}
use Rattle.exchange.specs.Run.{Run, run_of}
use Rattle.exchange.specs.Strings.{string}
use Rattle.strings.specs.Digest.{begun, hashed}
use Rattle.strings.specs.Digest.Laws.{hashed-from}
use Rattle.runs.specs.Run.{run_prefix, string8, run_root, run_at}

abbrev pub salt_in : List ℕ → List ℕ
salt_in s = take 32 s

abbrev pub root_in : List ℕ → List ℕ
root_in s = drop 32 s

abbrev pub run_in : List ℕ → Run
run_in s = run_of (drop 16 s) (take 16 s)

pub seeds-made : (d d₁ r salt root : List ℕ) → length salt ≡ 32 → length d ≡ 32 + length root → d₁ ≡ put_at d 0 salt → r ≡ put_at d₁ 32 root
    → (salt_in r ≡ salt) × (root_in r ≡ root)
seeds-made d d₁ r salt root e l f g =
    let whole : r ≡ salt ++ root
    = g ∙ ap₂ (λ (z : List ℕ) (n : ℕ). put_at z n root) f (sym e) ∙ put_at-put_at d salt root (omega arith)
    ∙ put_at-whole d (salt ++ root) (length-append salt root ∙ omega arith) in
    (ap salt_in whole ∙ take_at salt root 32 e, ap root_in whole ∙ drop_at salt root 32 e)

pub root-length : (s : List ℕ) → 16 ≤ length s → length (run_in s).root ≡ 16
root-length s h = length-take-le 16 s h

-- the prefix in a run of 49 bytes: salt and run byte are written behind the place of the root's seed
pub prefix-made : (d d₁ d₂ salt : List ℕ) (e : ℕ) → length d ≡ 49 → length salt ≡ 32 → d₁ ≡ put_at d 16 salt → d₂ ≡ put_at d₁ 48 (e ∷ [])
    → drop 16 d₂ ≡ run_prefix salt e
unfolding put_at run_prefix
prefix-made d d₁ d₂ salt e sized l f g =
    let front : List ℕ = take 16 d ++ salt in
    let sixteen : length (take 16 d) ≡ 16 = length-take-le 16 d (omega arith) in
    let long : length front ≡ 48 = length-append (take 16 d) salt ∙ omega arith in
    let one : d₁ ≡ front ++ drop 48 d
    = f ∙ sym (append_assoc (take 16 d) salt (drop (16 + length salt) d)) ∙ ap (λ (n : ℕ). front ++ drop (16 + n) d) l in
    let kept : length d₁ ≡ 49 = ap length one ∙ length-append front (drop 48 d) ∙ simp length-drop (omega arith) in
    let none : drop 49 d₁ ≡ [] = drop_of_length-le d₁ (le_of_eq kept) in
    let two : d₂ ≡ front ++ (e ∷ []) = g ∙ ap₂ (λ (a b : List ℕ). a ++ (e ∷ b)) (ap (take 48) one ∙ take_at front (drop 48 d) 48 long) none in
    ap (drop 16) (two ∙ append_assoc (take 16 d) salt (e ∷ [])) ∙ drop_at (take 16 d) (salt ++ (e ∷ [])) 16 sixteen

-- then its root's seed is hashed to the front
pub run-made : (seeds d₂ y r prefix root : List ℕ) (start : Sponge) (e l : ℕ) → drop 16 d₂ ≡ run_prefix (salt_in seeds) e → l ≡ 16 → length y ≡ l
    → start ≡ begun 8 prefix → prefix ≡ drop 16 d₂ → root ≡ root_in seeds → y ≡ hashed start root l → r ≡ y ++ drop 16 d₂
    → run_in r ≡ run_at SHAKE256 (salt_in seeds) (root_in seeds) e
unfolding run_root string8
run-made seeds d₂ y r prefix root start e l ep el ly es eq er ey e' =
    let sixteen : length y ≡ 16 = ly ∙ el in
    let seed : y ≡ SHAKE256 (string 8 (run_prefix (salt_in seeds) e) (root_in seeds)) 16
    = ey ∙ ap₂ (hashed start) er el ∙ hashed-from 8 (run_prefix (salt_in seeds) e) (root_in seeds) 16 start (es ∙ ap (begun 8) (eq ∙ ep)) in
    ap run_in e' ∙ ap₂ run_of (drop_at y (drop 16 d₂) 16 sixteen ∙ ep) (take_at y (drop 16 d₂) 16 sixteen ∙ seed)
