-- One byte in all bytes of a word.
--
--   spread b        the word whose eight bytes are the byte b
--   byte_at-spread   each of them is b
--   share-spread    so bytes that are spread are each share of the words
use Rattle.std.specs.Prelude.{◌≡◌, refl, List, [], ◌∷◌, map, ℕ, suc, ◌*◌, ◌<◌, T, eqb, get_or}
use Rattle.std.proofs.Common.{ap₂, eqb→eq}
use Rattle.lists.specs.Computed.{all, below}
use Rattle.packed.specs.Share.{byte_at, share}

unfoldable pub spread : ℕ → ℕ
spread b = b * 72340172838076673

spread-test : T (all 8 (λ i. all 256 (λ b. eqb (byte_at i (spread b)) b)))
unfolding spread byte_at
spread-test = tt

pub byte_at-spread : (i b : ℕ) → i < 8 → b < 256 → byte_at i (spread b) ≡ b
byte_at-spread i b hi hb =
    eqb→eq (byte_at i (spread b)) b
    (below 256 (λ b. eqb (byte_at i (spread b)) b) (below 8 (λ i. all 256 (λ b. eqb (byte_at i (spread b)) b)) spread-test i hi) b hb)

pub share-spread : (i : ℕ) (y : List ℕ) → i < 8 → ((k : ℕ) → get_or y k 0 < 256) → share i (map spread y) ≡ y
unfolding share
share-spread i [] hi h = refl
share-spread i (b ∷ y) hi h = ap₂ ◌∷◌ (byte_at-spread i b hi (h 0)) (share-spread i y hi (λ k. h (suc k)))
