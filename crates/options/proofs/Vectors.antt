-- Worked examples, computed in one go: what follows `'{x:`, so at byte 4, and where the brace is found. The first is document 01's `'{x:}>'`.
-- Assumes nothing.
use Prim.Native.Nat.{ℕ, ◌+◌}
use mathlib.Core.Path.{◌≡◌, refl}
use mathlib.Core.List.{List, [], ◌∷◌}
use Rattle.std.specs.Prelude.{Option, Some, None}
use Rattle.utf8.specs.Encode.{encode, encode_all}
use Rattle.property.specs.Table.{last_from, properties_at}
use Rattle.fitness.specs.Small.{small_table}
use Rattle.uax29.specs.Uax29.{is_control, gb3, gb6, gb7, gb8, gb9, pair_rule, ends_pict, ends_pict_zwj, ends_odd, ends_consonant, ends_linked, gb9c, gb11, gb12}
use Rattle.cluster.specs.First.{go_on}
use Rattle.text.specs.Follow.{drop_bytes}
use Rattle.options.specs.ConsumeFormatOptions.{is_aligned, skip_bytes, find_brace}

abbrev found : List ℕ → Option ℕ
found cs = let skip = skip_bytes (properties_at small_table) 2 cs in find_brace (4 + skip) (drop_bytes skip cs)

vectors :
    -- }>'  the brace is the fill
    found (125 ∷ 62 ∷ 39 ∷ [])
    -- }'
    ∷ found (125 ∷ 39 ∷ [])
    -- }^}'
    ∷ found (125 ∷ 94 ∷ 125 ∷ 39 ∷ [])
    -- <}'  no fill
    ∷ found (60 ∷ 125 ∷ 39 ∷ [])
    -- e, U+0301, <5}'  a fill of three bytes
    ∷ found (101 ∷ 769 ∷ 60 ∷ 53 ∷ 125 ∷ 39 ∷ [])
    -- }<, U+0301, }'  "<" is no cluster by itself
    ∷ found (125 ∷ 60 ∷ 769 ∷ 125 ∷ 39 ∷ [])
    ∷ []
    ≡ None ∷ Some 4 ∷ Some 6 ∷ Some 5 ∷ Some 9 ∷ Some 4 ∷ []
unfolding encode encode_all last_from small_table is_control gb3 gb6 gb7 gb8 gb9 pair_rule ends_pict ends_pict_zwj ends_odd ends_consonant ends_linked gb9c gb11 gb12 go_on drop_bytes is_aligned skip_bytes find_brace
vectors = refl
