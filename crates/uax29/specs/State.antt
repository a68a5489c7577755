-- What the code keeps of the characters to the left: the answers of the looks back, each of which is had from the one before it.
-- Assumes nothing.
use Rattle.std.specs.Prelude.{ℕ, List, Bool, not, ◌&&◌, ◌||◌, eqb, get_or}
use Rattle.base.specs.Pick.{pick}
use Rattle.property.specs.Parts.{class_of, is_pict, incb_of, extend, zwj, regional_indicator, consonant, incb_extend, linker}
use Rattle.uax29.specs.Uax29.{pair_rule, ends_pict, ends_pict_zwj, ends_odd, ends_consonant, ends_linked, gb9c, gb11, gb12, on_open}
use Rattle.uax29.specs.declared.Left.{Left}

-- the state after the characters of left
abbrev pub left_of : List ℕ → Left
left_of left =
    record {
      class = class_of (get_or left 0 0);
      pict = ends_pict left;
      zwj = ends_pict_zwj left;
      odd = ends_odd left;
      consonant = ends_consonant left;
      linked = ends_linked left;
    }

-- ---- one step of each look back, by the character p

-- of ExtPict Extend*
unfoldable pub pict_step : Bool → ℕ → Bool
pict_step pict p = is_pict p || (eqb (class_of p) extend && pict)

-- of ExtPict Extend* ZWJ
unfoldable pub zwj_step : Bool → ℕ → Bool
zwj_step pict p = eqb (class_of p) zwj && pict

-- of an odd number of Regional_Indicator
unfoldable pub odd_step : Bool → ℕ → Bool
odd_step odd p = eqb (class_of p) regional_indicator && not odd

-- of a consonant and its extenders
unfoldable pub consonant_step : Bool → ℕ → Bool
consonant_step after p = eqb (incb_of p) consonant || ((eqb (incb_of p) incb_extend || eqb (incb_of p) linker) && after)

-- of these, with a linker among the extenders
unfoldable pub linked_step : Bool → Bool → ℕ → Bool
linked_step after linked p = pick (eqb (incb_of p) linker) after (eqb (incb_of p) incb_extend && linked)

-- the state, one character on
abbrev pub passed : Left → ℕ → Left
passed left p =
    record {
      class = class_of p;
      pict = pict_step left.pict p;
      zwj = zwj_step left.pict p;
      odd = odd_step left.odd p;
      consonant = consonant_step left.consonant p;
      linked = linked_step left.consonant left.linked p;
    }

-- `joined`, of the state
unfoldable pub joined_by : ℕ → Left → ℕ → Bool
joined_by edition left p =
    on_open (pair_rule left.class (class_of p))
    (gb9c edition left.linked p || (gb11 left.zwj p || gb12 left.odd p))
