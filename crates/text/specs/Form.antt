-- The form of a text: lines of fields.
--
-- Kind                 what a field is: a given word, a decimal of one to n digits, or hex
-- fits k f             the field f is of kind k
-- fits_fields ks fs     as many fields as kinds, each of its kind
-- fits_line ks l        the line l, its fields parted by tabs
-- fits_lines lines ps   pieces parted by line feeds: the lines in their order, and nothing behind the last line feed
-- has_form lines s      the text s is these lines, each ended by a line feed
-- line_at s i           line i of s, counted from 0
-- field_at s i j        field j of that line, counted from 0
use Rattle.std.specs.Prelude.{ℕ, Bool, true, false, ◌&&◌, List, [], ◌∷◌, get_or}
use Rattle.lists.specs.Equal.{eq_list}
use Rattle.text.specs.Split.{tab, line_feed, split}
use Rattle.text.specs.Decimal.{is_decimal}
use Rattle.text.specs.Hex.{is_hex}

pub data Kind : Type 0 where
  word : List ℕ → Kind
  decimal : ℕ → Kind
  hex : Kind

abbrev pub fits : Kind → List ℕ → Bool
fits (word w) f = eq_list f w
fits (decimal n) f = is_decimal n f
fits hex f = is_hex f

abbrev pub fits_fields : List Kind → List (List ℕ) → Bool
fits_fields [] [] = true
fits_fields [] (f ∷ fs) = false
fits_fields (k ∷ ks) [] = false
fits_fields (k ∷ ks) (f ∷ fs) = fits k f && fits_fields ks fs

abbrev pub fits_line : List Kind → List ℕ → Bool
fits_line ks l = fits_fields ks (split tab l)

abbrev pub fits_lines : List (List Kind) → List (List ℕ) → Bool
fits_lines [] [] = false
fits_lines [] ([] ∷ []) = true
fits_lines [] ([] ∷ p ∷ ps) = false
fits_lines [] ((b ∷ p) ∷ ps) = false
fits_lines (ks ∷ lines) [] = false
fits_lines (ks ∷ lines) (l ∷ ps) = fits_line ks l && fits_lines lines ps

abbrev pub has_form : List (List Kind) → List ℕ → Bool
has_form lines s = fits_lines lines (split line_feed s)

abbrev pub line_at : List ℕ → ℕ → List ℕ
line_at s i = get_or (split line_feed s) i []

abbrev pub field_at : List ℕ → ℕ → ℕ → List ℕ
field_at s i j = get_or (split tab (line_at s i)) j []
