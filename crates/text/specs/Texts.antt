-- What the lines of a listing are made of: texts, and numbers in decimal.
use Rattle.std.specs.Prelude.{cond, List, [], ◌∷◌, ◌++◌, ℕ, zero, suc, ◌+◌, ◌/◌, ◌%◌, ltb}
use Prim.Native.Char.{code}
use Prim.Native.String.{String, [] as empty, ◌∷◌ as ◌before◌}

-- The bytes of a text, a character's code each.
abbrev pub ascii : String → List ℕ
ascii empty = []
ascii (c before rest) = code c ∷ ascii rest

-- A digit's character.
abbrev pub digit : ℕ → List ℕ
digit d = (48 + d) ∷ []

-- A number's digits: those of its tenth, then the last; one alone below ten. So many turns are allowed.
unfoldable pub digits_in : ℕ → ℕ → List ℕ
digits_in zero n = digit n
digits_in (suc turns) n = cond (ltb n 10) (digit n) (digits_in turns (n / 10) ++ digit (n % 10))

-- A number in decimal. It takes no more turns than its own size.
unfoldable pub decimal : ℕ → List ℕ
decimal n = digits_in n n

-- A text and a number.
abbrev pub field : List ℕ → ℕ → List ℕ
field text n = text ++ decimal n

-- Each line ends with a line feed.
abbrev pub ending : List ℕ
ending = ascii "\n"

-- A line of two texts, each before a number.
unfoldable pub pair_line : List ℕ → ℕ → List ℕ → ℕ → List ℕ
pair_line first a second b = field first a ++ (field second b ++ ending)
