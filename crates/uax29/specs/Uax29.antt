-- UAX #29, section 3.1.1, "Grapheme Cluster Boundary Rules": whether there is no break between what stands left of a place and the
-- character right of it. The rules are tried in the annex's order, and the first that speaks decides.
-- A character stands here as its properties (document 01, "The property table"). What stands left of a place is a list, the nearest
-- character first, as far back as the start of the text.
-- GB1 and GB2 (a break at the start and the end of the text) are in `First.antt`. Edition 1 is without GB9c, edition 2 with it.
-- Assumes nothing.
use Rattle.std.specs.Prelude.{ℕ, List, [], ◌∷◌, Bool, true, false, not, ◌&&◌, ◌||◌, eqb, get_or}
use Rattle.base.specs.Pick.{pick}
use Rattle.property.specs.Parts.{class_of, is_pict, incb_of, cr, lf, control, extend, zwj, regional_indicator, prepend, spacing_mark, hangul_l, hangul_v, hangul_t, hangul_lv, hangul_lvt, consonant, incb_extend, linker}
use Rattle.uax29.specs.declared.Pair.{Pair}
use Rattle.uax29.specs.declared.Pair.TheVariants.{Joined, Broken, Open}

-- ---- the rules on the two characters at the place; b and a are their classes, before it and after it

-- CR, LF or Control
unfoldable pub is_control : ℕ → Bool
is_control c = eqb c cr || (eqb c lf || eqb c control)

-- GB3: CR × LF
unfoldable pub gb3 : ℕ → ℕ → Bool
gb3 b a = eqb b cr && eqb a lf

-- GB6: L × (L | V | LV | LVT)
unfoldable pub gb6 : ℕ → ℕ → Bool
gb6 b a = eqb b hangul_l && (eqb a hangul_l || (eqb a hangul_v || (eqb a hangul_lv || eqb a hangul_lvt)))

-- GB7: (LV | V) × (V | T)
unfoldable pub gb7 : ℕ → ℕ → Bool
gb7 b a = (eqb b hangul_lv || eqb b hangul_v) && (eqb a hangul_v || eqb a hangul_t)

-- GB8: (LVT | T) × T
unfoldable pub gb8 : ℕ → ℕ → Bool
gb8 b a = (eqb b hangul_lvt || eqb b hangul_t) && eqb a hangul_t

-- GB9: × (Extend | ZWJ)
unfoldable pub gb9 : ℕ → Bool
gb9 a = eqb a extend || eqb a zwj

-- the rules in the annex's order: joined, broken, or open, where the two do not decide
unfoldable pub pair_rule : ℕ → ℕ → Pair
pair_rule b a =
    -- GB3
    pick (gb3 b a) Joined
    -- GB4: (Control | CR | LF) ÷
    (pick (is_control b) Broken
    -- GB5: ÷ (Control | CR | LF)
    (pick (is_control a) Broken
    -- GB6
    (pick (gb6 b a) Joined
    -- GB7
    (pick (gb7 b a) Joined
    -- GB8
    (pick (gb8 b a) Joined
    -- GB9
    (pick (gb9 a) Joined
    -- GB9a: × SpacingMark
    (pick (eqb a spacing_mark) Joined
    -- GB9b: Prepend ×
    (pick (eqb b prepend) Joined
    Open))))))))

-- ---- what the other rules look back for: how the text left of the place ends

-- ExtPict Extend*
unfoldable pub ends_pict : List ℕ → Bool
ends_pict [] = false
ends_pict (p ∷ left) = is_pict p || (eqb (class_of p) extend && ends_pict left)

-- ExtPict Extend* ZWJ
unfoldable pub ends_pict_zwj : List ℕ → Bool
ends_pict_zwj [] = false
ends_pict_zwj (p ∷ left) = eqb (class_of p) zwj && ends_pict left

-- an odd number of Regional_Indicator: (sot | [^RI]) (RI RI)* RI
unfoldable pub ends_odd : List ℕ → Bool
ends_odd [] = false
ends_odd (p ∷ left) = eqb (class_of p) regional_indicator && not (ends_odd left)

-- InCB=Consonant [InCB=Extend InCB=Linker]*
unfoldable pub ends_consonant : List ℕ → Bool
ends_consonant [] = false
ends_consonant (p ∷ left) = eqb (incb_of p) consonant || ((eqb (incb_of p) incb_extend || eqb (incb_of p) linker) && ends_consonant left)

-- InCB=Consonant [InCB=Extend InCB=Linker]* InCB=Linker [InCB=Extend InCB=Linker]*
unfoldable pub ends_linked : List ℕ → Bool
ends_linked [] = false
ends_linked (p ∷ left) = pick (eqb (incb_of p) linker) (ends_consonant left) (eqb (incb_of p) incb_extend && ends_linked left)

-- ---- the rules that look back; p is the character after the place

-- GB9c, in edition 2: .. × InCB=Consonant
unfoldable pub gb9c : ℕ → Bool → ℕ → Bool
gb9c edition linked p = eqb edition 2 && (eqb (incb_of p) consonant && linked)

-- GB11: .. × ExtPict
unfoldable pub gb11 : Bool → ℕ → Bool
gb11 pictZwj p = is_pict p && pictZwj

-- GB12 and GB13: .. × RI
unfoldable pub gb12 : Bool → ℕ → Bool
gb12 odd p = eqb (class_of p) regional_indicator && odd

-- an answer where the pair does not decide
abbrev pub on_open : Pair → Bool → Bool
on_open Joined r = true
on_open Broken r = false
on_open Open r = r

-- no break between the characters of left and p. Any ÷ Any (GB999) is the false of the last rule
abbrev pub joined : ℕ → List ℕ → ℕ → Bool
joined edition left p =
    on_open (pair_rule (class_of (get_or left 0 0)) (class_of p))
    (gb9c edition (ends_linked left) p || (gb11 (ends_pict_zwj left) p || gb12 (ends_odd left) p))
