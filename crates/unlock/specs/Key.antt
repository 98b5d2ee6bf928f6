-- The default key: a key of the shipped set whose x has 79 nonzero entries. Its matrix is in Expanded.
--
-- shipped_set       'Our shipped set: m 230, k 126, w 79, D 8, t 3'
-- default_y         its y, m−k bytes
-- default_x_a        its x_A, k bytes
use Rattle.std.specs.Prelude.{List, [], ◌∷◌, ℕ}
use Rattle.parameters.specs.declared.Parameters.{Parameters}
use Rattle.parameters.specs.Set.{parameters_of}

abbrev pub shipped_set : Parameters
shipped_set = parameters_of (230 ∷ 126 ∷ 79 ∷ 8 ∷ 3 ∷ [])

unfoldable pub default_y : List ℕ
default_y =
    53 ∷ 163 ∷ 225 ∷ 152 ∷ 76 ∷ 29 ∷ 218 ∷ 206 ∷ 106 ∷ 71 ∷ 171 ∷ 135 ∷ 78 ∷ 193 ∷ 12 ∷ 215 ∷
    17 ∷ 14 ∷ 215 ∷ 86 ∷ 24 ∷ 204 ∷ 110 ∷ 39 ∷ 182 ∷ 226 ∷ 0 ∷ 159 ∷ 181 ∷ 117 ∷ 154 ∷ 26 ∷
    222 ∷ 123 ∷ 4 ∷ 201 ∷ 84 ∷ 220 ∷ 195 ∷ 234 ∷ 29 ∷ 243 ∷ 1 ∷ 216 ∷ 50 ∷ 51 ∷ 111 ∷ 70 ∷
    184 ∷ 6 ∷ 138 ∷ 46 ∷ 29 ∷ 97 ∷ 204 ∷ 255 ∷ 87 ∷ 217 ∷ 62 ∷ 30 ∷ 29 ∷ 41 ∷ 46 ∷ 26 ∷
    18 ∷ 160 ∷ 0 ∷ 204 ∷ 253 ∷ 154 ∷ 175 ∷ 147 ∷ 109 ∷ 94 ∷ 6 ∷ 121 ∷ 231 ∷ 203 ∷ 237 ∷ 18 ∷
    176 ∷ 26 ∷ 193 ∷ 229 ∷ 3 ∷ 83 ∷ 175 ∷ 236 ∷ 45 ∷ 135 ∷ 6 ∷ 33 ∷ 112 ∷ 110 ∷ 120 ∷ 50 ∷
    183 ∷ 28 ∷ 35 ∷ 135 ∷ 43 ∷ 214 ∷ 111 ∷ 143 ∷ []

unfoldable pub default_x_a : List ℕ
default_x_a =
    0 ∷ 0 ∷ 0 ∷ 0 ∷ 192 ∷ 0 ∷ 219 ∷ 51 ∷ 97 ∷ 90 ∷ 0 ∷ 0 ∷ 0 ∷ 0 ∷ 0 ∷ 0 ∷
    0 ∷ 0 ∷ 221 ∷ 0 ∷ 110 ∷ 139 ∷ 0 ∷ 0 ∷ 186 ∷ 0 ∷ 0 ∷ 0 ∷ 10 ∷ 0 ∷ 0 ∷ 0 ∷
    0 ∷ 0 ∷ 0 ∷ 0 ∷ 0 ∷ 0 ∷ 199 ∷ 0 ∷ 0 ∷ 0 ∷ 0 ∷ 119 ∷ 0 ∷ 0 ∷ 47 ∷ 0 ∷
    26 ∷ 0 ∷ 45 ∷ 237 ∷ 12 ∷ 0 ∷ 0 ∷ 252 ∷ 0 ∷ 0 ∷ 0 ∷ 253 ∷ 143 ∷ 10 ∷ 0 ∷ 0 ∷
    0 ∷ 0 ∷ 0 ∷ 0 ∷ 0 ∷ 104 ∷ 0 ∷ 0 ∷ 221 ∷ 0 ∷ 0 ∷ 204 ∷ 0 ∷ 0 ∷ 0 ∷ 0 ∷
    0 ∷ 227 ∷ 137 ∷ 173 ∷ 116 ∷ 73 ∷ 89 ∷ 0 ∷ 129 ∷ 0 ∷ 0 ∷ 0 ∷ 0 ∷ 0 ∷ 0 ∷ 0 ∷
    0 ∷ 0 ∷ 0 ∷ 182 ∷ 127 ∷ 13 ∷ 0 ∷ 0 ∷ 0 ∷ 0 ∷ 109 ∷ 0 ∷ 0 ∷ 0 ∷ 0 ∷ 0 ∷
    72 ∷ 209 ∷ 0 ∷ 0 ∷ 0 ∷ 0 ∷ 65 ∷ 0 ∷ 0 ∷ 0 ∷ 0 ∷ 0 ∷ 0 ∷ 225 ∷ []
