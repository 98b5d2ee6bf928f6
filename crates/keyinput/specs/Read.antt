-- A text of which nobody knows what it is, read by the scanner.
--
-- Read h h'            h' is what the scanner and the lent slices, which held h, hold after some text
-- ReadSome h h' more   the same, and more says whether that text has any bytes
-- read_none, read-on   after no text; after one text and then another
use Rattle.std.specs.Prelude.{◌≡◌, refl, Bool, not, List, [], ◌++◌, ℕ, eqb, length}
use Rattle.std.proofs.Common.{sym, ap, ◌∙◌}
use Rattle.text.specs.Fold.{fold, fold-append}
use Rattle.keytext.specs.Scan.{Held, step}

pub record Read (h h' : Held) : Type 0 where
  pub text : List ℕ
  pub after : h' ≡ fold step h text

pub record ReadSome (h h' : Held) (more : Bool) : Type 0 where
  pub text : List ℕ
  pub after : h' ≡ fold step h text
  pub any : more ≡ not (eqb (length text) 0)

pub read_none : (h : Held) → Read h h
read_none h = record { text = []; after = refl }

pub read-on : {h h' h'' : Held} {more : Bool} → Read h h' → ReadSome h' h'' more → Read h h''
read-on {h} r s = record {
  text = r.text ++ s.text;
  after = s.after ∙ ap (λ (x : Held). fold step x s.text) r.after ∙ sym (fold-append step h r.text s.text);
}
