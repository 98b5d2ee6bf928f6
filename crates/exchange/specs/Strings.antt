-- The strings that are hashed. 'Each is hashed by SHAKE256 and starts with a layer byte and the 32-byte salt; ‖ joins.'
-- The prefix is what follows the layer byte in every string: the salt, then the run byte ('Each string of layers 1 to 7 gets a run byte (0 upward)
-- after the salt', document 02, request 01).
--
-- string layer pre s   layer ‖ prefix ‖ s: nothing else builds a string
-- node_bytes v          'node numbers two, low byte first'
-- string1 pre v seed   1 ‖ node ‖ seed
-- string2 pre i seed   2 ‖ leaf ‖ node seed
-- string3 pre i seed   3 ‖ leaf ‖ seed
-- string4 p pre i st aux   4 ‖ leaf ‖ seed ‖ rho, 'and for leaf n−1 ‖ aux'; st is seed ‖ rho
-- string5 pre f n      5 ‖ all leaf commitments
-- string6 pre j f n    6 ‖ axis ‖ what the parties announce; axes 'from 1'
-- string7 pre f n      7 ‖ H_1 to H_D
use Rattle.std.specs.Prelude.{cond, List, [], ◌∷◌, ◌++◌, ℕ, ◌+◌, ◌/◌, ◌%◌}
use Rattle.parameters.specs.declared.Parameters.{Parameters}
use Rattle.layout.specs.Layout.{is_last}
use Rattle.exchange.specs.Sequences.{joined}

unfoldable pub string : ℕ → List ℕ → List ℕ → List ℕ
string layer prefix s = layer ∷ (prefix ++ s)

unfoldable pub node_bytes : ℕ → List ℕ
node_bytes v = v % 256 ∷ v / 256 ∷ []

unfoldable pub string1 : List ℕ → ℕ → List ℕ → List ℕ
string1 prefix v seed = string 1 prefix (node_bytes v ++ seed)

unfoldable pub string2 : List ℕ → ℕ → List ℕ → List ℕ
string2 prefix i seed = string 2 prefix (i ∷ seed)

unfoldable pub string3 : List ℕ → ℕ → List ℕ → List ℕ
string3 prefix i seed = string 3 prefix (i ∷ seed)

unfoldable pub string4 : Parameters → List ℕ → ℕ → List ℕ → List ℕ → List ℕ
string4 p prefix i state aux = string 4 prefix (i ∷ (state ++ cond (is_last p i) aux []))

unfoldable pub string5 : List ℕ → (ℕ → List ℕ) → ℕ → List ℕ
string5 prefix commitment n = string 5 prefix (joined commitment n)

unfoldable pub string6 : List ℕ → ℕ → (ℕ → List ℕ) → ℕ → List ℕ
string6 prefix j announced n = string 6 prefix ((j + 1) ∷ joined announced n)

unfoldable pub string7 : List ℕ → (ℕ → List ℕ) → ℕ → List ℕ
string7 prefix digest n = string 7 prefix (joined digest n)
