-- Document 01, "The property table": the properties that every fit table gives code points 0 to 127, by tests. `CountLaws` proves that
-- they are the table's.
-- Assumes nothing.
use Rattle.std.specs.Prelude.{ℕ, ltb, eqb}
use Rattle.base.specs.Pick.{pick}
use Rattle.base.specs.Range.{inside}
use Rattle.text.specs.Tests.{lf, cr, space, underscore}

unfoldable pub ascii_properties : ℕ → ℕ
ascii_properties c =
    pick (inside c 97 122) 7
    (pick (inside c 65 90) 7
    (pick (inside c 48 57) 6
    (pick (eqb c underscore) 6
    (pick (eqb c lf) 32
    (pick (eqb c cr) 16
    (pick (ltb c space) 48
    (pick (eqb c 127) 48 4)))))))
