-- The runs of an exchange (document 02, request 01). Runs count from 0, as the run byte does.
--
-- run_prefix salt e    'Each string of layers 1 to 7 gets a run byte (0 upward) after the salt'
-- string8 pre root    8 ‖ root
-- run_root salt root e 'Run e has as root the first 16 bytes of layer 8 ‖ e ‖ root'
-- run_at salt root e   run e
use Rattle.std.specs.Prelude.{List, [], ◌∷◌, ◌++◌, ℕ}
use Rattle.exchange.specs.Strings.{string}
use Rattle.exchange.specs.Run.{Run, run_of}

unfoldable pub run_prefix : List ℕ → ℕ → List ℕ
run_prefix salt e = salt ++ (e ∷ [])

unfoldable pub string8 : List ℕ → List ℕ → List ℕ
string8 prefix root = string 8 prefix root

module _ (hash : List ℕ → ℕ → List ℕ) (salt root : List ℕ) where
  unfoldable pub run_root : ℕ → List ℕ
  run_root e = hash (string8 (run_prefix salt e) root) 16

  abbrev pub run_at : ℕ → Run
  run_at e = run_of (run_prefix salt e) (run_root e)
