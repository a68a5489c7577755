-- Documents 01 and 02 (C-4), "Records": the first number of a record, kind + 128 × detail + 2^20 × depth: the kind is its bits 0 to 6, the detail
-- 7 to 19, the depth 20 to 27. What stands above them, from bit 28 on, is a layout's own matter (`Row` has 0 there).
-- Assumes nothing.
use Rattle.std.specs.Prelude.{Bool, ◌&&◌, ℕ, ◌+◌, ◌*◌, ◌/◌, ◌%◌, ◌<◌, eqb, leb, Option, Some, None}
use Rattle.base.specs.Pick.{pick}
use Rattle.token.specs.Detail.{fits}
use Rattle.rows.specs.declared.Row.{Row}

-- how many kinds it has room for
abbrev pub kind_room : ℕ
kind_room = 128

-- how many details
abbrev pub detail_room : ℕ
detail_room = 8192

-- and how many depths
abbrev pub depth_room : ℕ
depth_room = 256

-- where in it the depth begins: 2^20
abbrev pub depth_unit : ℕ
depth_unit = 1048576

-- and what stands above the depth: 2^28
abbrev pub above_unit : ℕ
above_unit = 268435456

-- the first number of a record, with nothing above the depth
abbrev pub first_of : Row → ℕ
first_of r = r.kind + kind_room * r.detail + depth_unit * r.depth

-- the records whose first number keeps kind, detail and depth apart
pub record Packs (r : Row) : Type 0 where
  pub kind_fits : r.kind < kind_room
  pub detail_fits : r.detail < detail_room
  pub depth_fits : r.depth < depth_room

-- ---- its parts

-- bits 0 to 6
abbrev pub kind_in : ℕ → ℕ
kind_in first = first % kind_room

-- bits 7 to 19
abbrev pub detail_in : ℕ → ℕ
detail_in first = first / kind_room % detail_room

-- bits 20 to 27
abbrev pub depth_in : ℕ → ℕ
depth_in first = first / depth_unit % depth_room

-- the bits above the depth, from 28 on
abbrev pub above_in : ℕ → ℕ
above_in first = first / above_unit

-- ---- a record that may be shown

-- the greatest depth: a lexer has at most 64 modes
abbrev pub depth_most : ℕ
depth_most = 64

-- its depth is at most 64, its kind is none over 80, and its detail is one that this kind may have (else: refusal 9)
unfoldable pub row_fits : Row → Bool
row_fits r = leb r.depth depth_most && fits r.kind r.detail

-- that, of a record whose first number has this above the depth, where only 0 may stand
unfoldable pub fits_below : ℕ → Row → Bool
fits_below above r = eqb above 0 && row_fits r

-- the record, if it may be shown
abbrev pub shown_below : ℕ → Row → Option Row
shown_below above r = pick (fits_below above r) (Some r) None
