-- Document 01, "The property table": the small table, which also fixes the properties of code points 0 to 127.
-- Assumes nothing.
use Rattle.std.specs.Prelude.{ℕ, ◌+◌, ◌*◌, List, [], ◌∷◌}

-- the number of a run
abbrev run : ℕ → ℕ → ℕ
run start properties = start * 2048 + properties

-- start in hex, properties
unfoldable pub small_table : List ℕ
small_table =
    run 0x0 48 ∷ run 0xa 32 ∷ run 0xb 48 ∷ run 0xd 16 ∷ run 0xe 48 ∷ run 0x20 4 ∷ run 0x30 6 ∷ run 0x3a 4 ∷ run 0x41 7 ∷ run 0x5b 4
    ∷ run 0x5f 6 ∷ run 0x60 4 ∷ run 0x61 7 ∷ run 0x7b 4 ∷ run 0x7f 48 ∷ run 0xa0 4 ∷ run 0xe9 7 ∷ run 0xea 4 ∷ run 0x300 1090
    ∷ run 0x370 4 ∷ run 0x4e00 11 ∷ run 0xa000 4 ∷ []
