-- The key digest, to which layer 5's string commits (document 02, request 04): '32 bytes of layer 9, here without salt or run byte, ‖ m, k, w, D, t as one
-- byte each ‖ matrix ‖ y'.
--
-- string9 p key      9 ‖ the numbers of the set ‖ matrix ‖ y, with an empty prefix
-- key_digest p key    its digest
use Rattle.std.specs.Prelude.{List, [], ◌++◌, ℕ}
use Rattle.parameters.specs.declared.Parameters.{Parameters}
use Rattle.parameters.specs.Set.{numbers_of}
use Rattle.exchange.specs.Strings.{string}
use Rattle.exchange.specs.Values.{Key}

unfoldable pub string9 : Parameters → Key → List ℕ
string9 p key = string 9 [] (numbers_of p ++ (key.matrix ++ key.y))

unfoldable pub key_digest : (List ℕ → ℕ → List ℕ) → Parameters → Key → List ℕ
key_digest hash p key = hash (string9 p key) 32
