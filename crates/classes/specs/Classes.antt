-- The class of a byte, and what the row of this crate says. Characters that belong together have classes in a row: 4 to 6 are the parts of a name,
-- 0 to 15 are printable.
-- Assumes nothing.
use Rattle.std.specs.Prelude.{ℕ, ◌<◌, ◌≡◌, ◌||◌, List, eqb, ltb, get_or}
use Rattle.base.specs.Pick.{pick}
use Rattle.base.specs.Range.{inside}
use Rattle.fitness.specs.Ascii.{is_letter}

-- of a byte below 128
abbrev pub ascii_class_of : ℕ → ℕ
ascii_class_of b =
    -- quotes, "{", the backslash
    pick (eqb b 34) 0
    (pick (eqb b 39) 1
    (pick (eqb b 123) 2
    (pick (eqb b 92) 3
    -- parts of a name
    (pick (is_letter b) 4
    (pick (inside b 48 57) 5
    (pick (eqb b 95) 6
    -- the space
    (pick (eqb b 32) 7
    -- ( ) , ; ? @ [ ] |
    (pick (inside b 40 41 || (eqb b 44 || (eqb b 59 || (inside b 63 64 || (eqb b 91 || (eqb b 93 || eqb b 124)))))) 8
    -- ! % * + / < = > ^
    (pick (eqb b 33 || (eqb b 37 || (inside b 42 43 || (eqb b 47 || (inside b 60 62 || eqb b 94))))) 9
    -- "." and ":" and "}" and "#" and "-"
    (pick (eqb b 46) 10
    (pick (eqb b 58) 11
    (pick (eqb b 125) 12
    (pick (eqb b 35) 14
    (pick (eqb b 45) 15
    -- the tab, the line feed, the carriage return
    (pick (eqb b 9) 16
    (pick (eqb b 10) 17
    (pick (eqb b 13) 18
    -- other controls; and what is left: $ & ` ~
    (pick (ltb b 32 || eqb b 127) 19 13))))))))))))))))))

-- above 127: 20 where a character begins, 21 inside of one
unfoldable pub class_of : ℕ → ℕ
class_of b = pick (ltb 127 b) (pick (ltb 191 b) 20 21) (ascii_class_of b)

-- a row has the class of each byte at its place
pub record ClassTable (l : List ℕ) : Type 0 where
  pub at : (b : ℕ) → b < 256 → get_or l b 0 ≡ class_of b
