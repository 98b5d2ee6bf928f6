-- The seed tree. 'Root is node 1, leaf i is node n+i.' It goes by halves: from a node, the leaves some levels below it.
--
-- children pre v seed        the 32 bytes that layer 1 gives for node v: 'seeds of nodes 2v and 2v+1'
-- left_seed, right_seed        their halves
-- leaf_seeds pre l v seed     the seeds of the 2^l leaves l levels below node v, in order
-- siblings pre l v seed i    beside the way from node v to leaf i of these: node and seed of each sibling, from the root side down
-- sibling_seeds .. i          their seeds one after another: 'D sibling seeds from the root side down'
-- opened_seeds pre l v i s    the seeds of all these leaves from the sibling seeds s; nothing for leaf i
use Rattle.std.specs.Prelude.{cond, List, [], ◌∷◌, ◌++◌, ℕ, zero, suc, ◌+◌, ◌-◌, ◌*◌, ◌^◌, ltb, take, drop}
use Rattle.exchange.specs.Strings.{string1}

unfoldable pub seeds_of : List (ℕ × List ℕ) → List ℕ
seeds_of [] = []
seeds_of (s ∷ ss) = s.1 ++ seeds_of ss

module _ (hash : List ℕ → ℕ → List ℕ) (prefix : List ℕ) where
  unfoldable pub children : ℕ → List ℕ → List ℕ
  children v seed = hash (string1 prefix v seed) 32

  abbrev pub left_seed : ℕ → List ℕ → List ℕ
  left_seed v seed = take 16 (children v seed)

  abbrev pub right_seed : ℕ → List ℕ → List ℕ
  right_seed v seed = drop 16 (children v seed)

  unfoldable pub leaf_seeds : ℕ → ℕ → List ℕ → List (List ℕ)
  leaf_seeds zero v seed = seed ∷ []
  leaf_seeds (suc l) v seed = leaf_seeds l (2 * v) (left_seed v seed) ++ leaf_seeds l (2 * v + 1) (right_seed v seed)

  unfoldable pub siblings : ℕ → ℕ → List ℕ → ℕ → List (ℕ × List ℕ)
  siblings zero v seed i = []
  siblings (suc l) v seed i =
      cond (ltb i (2 ^ l))
      ((2 * v + 1, right_seed v seed) ∷ siblings l (2 * v) (left_seed v seed) i)
      ((2 * v, left_seed v seed) ∷ siblings l (2 * v + 1) (right_seed v seed) (i - 2 ^ l))

  unfoldable pub sibling_seeds : ℕ → ℕ → List ℕ → ℕ → List ℕ
  sibling_seeds l v seed i = seeds_of (siblings l v seed i)

  unfoldable pub opened_seeds : ℕ → ℕ → ℕ → List ℕ → List (List ℕ)
  opened_seeds zero v i s = [] ∷ []
  opened_seeds (suc l) v i s =
      cond (ltb i (2 ^ l))
      (opened_seeds l (2 * v) i (drop 16 s) ++ leaf_seeds l (2 * v + 1) (take 16 s))
      (leaf_seeds l (2 * v) (take 16 s) ++ opened_seeds l (2 * v + 1) (i - 2 ^ l) (drop 16 s))
