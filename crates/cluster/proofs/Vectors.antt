-- Worked examples, each computed: samples of UAX #29, table 1a, document 01's "a, U+0301, <", and one for Hangul, for flags and for each other
-- rule that looks back. `some` is a table for those characters that the small table has not.
-- Assumes nothing.
use Prim.Native.Nat.{ℕ, ◌+◌, ◌*◌}
use mathlib.Core.Path.{◌≡◌, refl}
use mathlib.Core.List.{List, [], ◌∷◌}
use mathlib.Core.Bool.{true, false}
use Rattle.utf8.specs.Encode.{encode, encode_all}
use Rattle.property.specs.Table.{last_from, properties_at}
use Rattle.fitness.specs.Small.{small_table}
use Rattle.uax29.specs.Uax29.{is_control, gb3, gb6, gb7, gb8, gb9, pair_rule, ends_pict, ends_pict_zwj, ends_odd, ends_consonant, ends_linked, gb9c, gb11, gb12}
use Rattle.cluster.specs.First.{go_on, first_end, second_is}

-- opens every definition at once
unfoldable computes : Unit {0}
unfolding encode encode_all last_from small_table is_control gb3 gb6 gb7 gb8 gb9 pair_rule ends_pict ends_pict_zwj ends_odd ends_consonant ends_linked gb9c gb11 gb12 go_on
computes = tt

abbrev run : ℕ → ℕ → ℕ
run start props = start * 2048 + props

-- U+0600 Prepend, U+0915 to U+0937 consonants, U+093F SpacingMark, U+094D a linker, U+0E33 SpacingMark, U+1100 L, U+1161 V, U+11A8 T,
-- U+200D ZWJ, U+2764 a pictograph, U+AC00 LV, U+FE0F Extend, U+1F1E6 to U+1F1FF Regional_Indicator, U+1F468 a pictograph
unfoldable some : List ℕ
some =
    run 0 0 ∷ run 0x600 112 ∷ run 0x601 0 ∷ run 0x915 512 ∷ run 0x938 0 ∷ run 0x93f 128 ∷ run 0x940 0 ∷ run 0x94d 1600 ∷ run 0x94e 0
    ∷ run 0xe33 128 ∷ run 0xe34 0 ∷ run 0x1100 144 ∷ run 0x1101 0 ∷ run 0x1161 160 ∷ run 0x1162 0 ∷ run 0x11a8 176 ∷ run 0x11a9 0
    ∷ run 0x200d 1104 ∷ run 0x200e 0 ∷ run 0x2764 256 ∷ run 0x2765 0 ∷ run 0xac00 192 ∷ run 0xac01 0 ∷ run 0xfe0f 64 ∷ run 0xfe10 0
    ∷ run 0x1f1e6 96 ∷ run 0x1f200 0 ∷ run 0x1f468 256 ∷ run 0x1f469 0 ∷ []

-- ---- table 1a

-- g and a diaeresis
umlaut : first_end (properties_at small_table) 2 0 (0x67 ∷ 0x308 ∷ 0x67 ∷ []) ≡ 3
unfolding computes
umlaut = refl

-- ko kai, sara am
thai : first_end (properties_at some) 2 0 (0xe01 ∷ 0xe33 ∷ 0xe01 ∷ []) ≡ 6
unfolding computes some
thai = refl

-- ssa, vowel sign i
devanagari : first_end (properties_at some) 2 0 (0x937 ∷ 0x93f ∷ 0x937 ∷ []) ≡ 6
unfolding computes some
devanagari = refl

-- ka, virama, ssa, vowel sign i: one cluster in edition 2, two in edition 1
conjunct : first_end (properties_at some) 2 0 (0x915 ∷ 0x94d ∷ 0x937 ∷ 0x93f ∷ []) ≡ 12
unfolding computes some
conjunct = refl

no_conjunct : first_end (properties_at some) 1 0 (0x915 ∷ 0x94d ∷ 0x937 ∷ 0x93f ∷ []) ≡ 6
unfolding computes some
no_conjunct = refl

-- ---- newlines

-- CR LF
newline : first_end (properties_at small_table) 2 0 (0xd ∷ 0xa ∷ 0xa ∷ []) ≡ 2
unfolding computes
newline = refl

-- a combining mark does not join a newline
mark_after_newline : first_end (properties_at small_table) 2 0 (0xa ∷ 0x301 ∷ []) ≡ 1
unfolding computes
mark_after_newline = refl

-- ---- Hangul, Prepend

-- L V T, then L
hangul : first_end (properties_at some) 2 0 (0x1100 ∷ 0x1161 ∷ 0x11a8 ∷ 0x1100 ∷ []) ≡ 9
unfolding computes some
hangul = refl

-- LV T, then V
syllable : first_end (properties_at some) 2 0 (0xac00 ∷ 0x11a8 ∷ 0x1161 ∷ []) ≡ 6
unfolding computes some
syllable = refl

-- a number sign and what it stands before
number_sign : first_end (properties_at some) 2 0 (0x600 ∷ 0x31 ∷ 0x32 ∷ []) ≡ 3
unfolding computes some
number_sign = refl

-- ---- pictographs and flags

-- a man, ZWJ, a heart with its variation selector, ZWJ, a man
couple : first_end (properties_at some) 2 0 (0x1f468 ∷ 0x200d ∷ 0x2764 ∷ 0xfe0f ∷ 0x200d ∷ 0x1f468 ∷ []) ≡ 20
unfolding computes some
couple = refl

-- a letter and ZWJ join no pictograph
letter_zwj : first_end (properties_at some) 2 0 (0x61 ∷ 0x200d ∷ 0x1f468 ∷ []) ≡ 4
unfolding computes some
letter_zwj = refl

-- three letters of flags: two, and the third begins the next cluster
flags : first_end (properties_at some) 2 0 (0x1f1e6 ∷ 0x1f1e7 ∷ 0x1f1e8 ∷ []) ≡ 8
unfolding computes some
flags = refl

-- ---- the format rule: a and an acute are followed by a cluster that is exactly "<", but not where "<" has an acute too

sign : second_is (properties_at small_table) 2 (0x61 ∷ 0x301 ∷ 0x3c ∷ 0x35 ∷ []) 0x3c ≡ true
unfolding computes
sign = refl

accented_sign : second_is (properties_at small_table) 2 (0x61 ∷ 0x301 ∷ 0x3c ∷ 0x301 ∷ []) 0x3c ≡ false
unfolding computes
accented_sign = refl
