-- Message 5 from the siblings, the hidden leaf (its state of 32 bytes, then its share) and aux.
--
-- leaf_bytes p prefix message2 leaf matrix own aux   what the leaf itself gives: 'commitment of i*, its α and β'
-- opening_of p prefix message2 leaf matrix siblings own aux   'D sibling seeds from the root side down', what the leaf gives, 'then aux unless i* = n−1'
use Rattle.std.specs.Prelude.{cond, List, [], ◌++◌, ℕ, take, drop}
use Rattle.shake256.specs.Fips.{SHAKE256}
use Rattle.parameters.specs.declared.Parameters.{Parameters}
use Rattle.layout.specs.Layout.{is_last}
use Rattle.exchange.specs.Leaf.{commitment}
use Rattle.values.specs.Leaf.{leaf_values}

unfoldable pub leaf_bytes : Parameters → List ℕ → List ℕ → ℕ → List ℕ → List ℕ → List ℕ → List ℕ
leaf_bytes p prefix message2 leaf matrix own aux = commitment SHAKE256 p prefix leaf (take 32 own) aux ++ leaf_values p matrix message2 (drop 32 own)

unfoldable pub opening_of : Parameters → List ℕ → List ℕ → ℕ → List ℕ → List ℕ → List ℕ → List ℕ → List ℕ
opening_of p prefix message2 leaf matrix siblings own aux =
    siblings ++ (leaf_bytes p prefix message2 leaf matrix own aux ++ cond (is_last p leaf) [] aux)
