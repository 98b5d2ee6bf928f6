-- The laws of the key digest.
--
-- length-key_digest    it has 32 bytes
-- string9-inj         the string holds parameters, matrix and y: two keys with one string are one key, their matrices having the lengths that document 01
--                     gives them
use Rattle.std.specs.Prelude.{◌≡◌, refl, List, ◌++◌, ℕ, length, drop}
use Rattle.std.proofs.Common.{sym, ap, ap₂, ◌∙◌}
use Rattle.parameters.specs.declared.Parameters.{Parameters}
use Rattle.parameters.specs.Set.{numbers_of, parameters_of}
use Rattle.parameters.specs.Set.Laws.{parameters-back}
use Rattle.layout.specs.Layout.{matrix_length}
use Rattle.exchange.proofs.Sequences.Laws.{append_inj}
use Rattle.exchange.specs.Strings.{string}
use Rattle.exchange.specs.Values.{Key, key_of}
use Rattle.key_digest.specs.KeyDigest.{string9, key_digest}

pub length-key_digest : (hash : List ℕ → ℕ → List ℕ) → ((s : List ℕ) (n : ℕ) → length (hash s n) ≡ n) → (p : Parameters) (key : Key)
    → length (key_digest hash p key) ≡ 32
unfolding key_digest
length-key_digest hash hash-length p key = hash-length (string9 p key) 32

pub string9-inj : (p p' : Parameters) (key key' : Key) → length key.matrix ≡ matrix_length p → length key'.matrix ≡ matrix_length p'
    → string9 p key ≡ string9 p' key' → (p ≡ p') × (key ≡ key')
unfolding string9 string
string9-inj p p' key key' l l' e =
    let parts = append_inj (numbers_of p) (key.matrix ++ key.y) (numbers_of p') (key'.matrix ++ key'.y) refl (ap (drop 1) e) in
    let set : p ≡ p' = sym (parameters-back p) ∙ ap parameters_of parts.0 ∙ parameters-back p' in
    let long : length key.matrix ≡ length key'.matrix = l ∙ ap matrix_length set ∙ sym l' in
    let both = append_inj key.matrix key.y key'.matrix key'.y long parts.1 in
    (set, ap₂ key_of both.0 both.1)
