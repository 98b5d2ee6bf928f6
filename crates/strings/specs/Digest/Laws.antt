-- The laws of a string's start and its hash.
--
-- begun-pieces      the layer byte and then the prefix make the start
-- absorbed-pieces   three pieces, absorbed one after the other, are absorbed as one
-- hashed-begun      a start and the rest of the string give SHAKE256 of the whole
-- hashed-from       the same from a sponge that is such a start
-- hashed-streamed   what is absorbed before counts as what is hashed on
-- hashed-no-tail    a string that ends with its body
-- absorbed-joined   a sponge that has absorbed f 0 ‖ .. ‖ f (n−1) absorbs f n
-- length-hashed     n bytes
use Rattle.std.specs.Prelude.{◌≡◌, refl, List, [], ◌∷◌, ◌++◌, ℕ, suc, length}
use Rattle.std.proofs.Common.{sym, ap, ◌∙◌, append-nil}
use Rattle.shake256.specs.declared.Sponge.{Sponge}
use Rattle.shake256.specs.Stream.{start, absorbed, finished}
use Rattle.shake256.specs.Fips.{SHAKE256}
use Rattle.shake256.proofs.Sponges.{absorbed-append, length-squeezed}
use Rattle.shake256.proofs.Laws.{squeezed-SHAKE256}
use Rattle.exchange.specs.Strings.{string}
use Rattle.exchange.specs.Sequences.{joined}
use Rattle.strings.specs.Digest.{begun, hashed}

pub begun-pieces : (layer : ℕ) (prefix : List ℕ) → absorbed (absorbed start (layer ∷ [])) prefix ≡ begun layer prefix
unfolding begun
begun-pieces layer prefix = sym (absorbed-append start (layer ∷ []) prefix)

pub absorbed-pieces : (s : Sponge) (number body tail : List ℕ) → absorbed (absorbed (absorbed s number) body) tail ≡ absorbed s (number ++ (body ++ tail))
absorbed-pieces s number body tail =
    sym (absorbed-append (absorbed s number) body tail) ∙ sym (absorbed-append s number (body ++ tail))

pub hashed-begun : (layer : ℕ) (prefix m : List ℕ) (n : ℕ) → hashed (begun layer prefix) m n ≡ SHAKE256 (string layer prefix m) n
unfolding begun hashed string
hashed-begun layer prefix m n =
    rw (← absorbed-append start (layer ∷ prefix) m) (squeezed-SHAKE256 (layer ∷ (prefix ++ m)) n)

pub hashed-from : (layer : ℕ) (prefix m : List ℕ) (n : ℕ) (s : Sponge) → s ≡ begun layer prefix → hashed s m n ≡ SHAKE256 (string layer prefix m) n
hashed-from layer prefix m n s b = ap (λ (z : Sponge). hashed z m n) b ∙ hashed-begun layer prefix m n

pub hashed-streamed : (s : Sponge) (m : List ℕ) (n : ℕ) → hashed (absorbed s m) [] n ≡ hashed s m n
unfolding hashed absorbed
hashed-streamed s m n = refl

pub hashed-no-tail : (s : Sponge) (number body : List ℕ) (n : ℕ) → hashed s (number ++ (body ++ [])) n ≡ hashed s (number ++ body) n
hashed-no-tail s number body n = ap (λ (m : List ℕ). hashed s (number ++ m) n) (append-nil body)

pub absorbed-joined : (s : Sponge) (f : ℕ → List ℕ) (n : ℕ) → absorbed (absorbed s (joined f n)) (f n) ≡ absorbed s (joined f (suc n))
unfolding joined
absorbed-joined s f n = sym (absorbed-append s (joined f n) (f n))

pub length-hashed : (s : Sponge) (m : List ℕ) (n : ℕ) → length (hashed s m n) ≡ n
unfolding hashed
length-hashed s m n = length-squeezed (finished (absorbed s m)) n
