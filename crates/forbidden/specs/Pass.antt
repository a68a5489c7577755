-- How the code finds the first forbidden token: by one pass over the records alone. Up to it there is no raw string and no template inside a
-- template, so the modes are, from the bottom: a string, its template, then a string or a map or format options in that, then a string in the
-- map. So a "{" opens a second template at depth 4, and at depth 3 where what opened depth 3 was a string: that is the last record of depth 2.
-- That this is what `Forbidden` says is `PassLaws`.
-- Assumes nothing.
use Rattle.std.specs.Prelude.{ℕ, zero, suc, Bool, false, leb, eqb, Option, Some, None}
use Rattle.base.specs.Pick.{pick}
use Rattle.token.specs.Kind.{string_start, curly_open}
use Rattle.rows.specs.declared.Row.{Row}
use Rattle.forbidden.specs.Forbidden.{is_raw}

-- the kind of the last record of depth 2
abbrev pub opener_after : ℕ → Row → ℕ
opener_after opener r = pick (eqb r.depth 2) r.kind opener

-- a "{" at this depth opens a template inside a template
abbrev pub is_inner : ℕ → ℕ → Bool
is_inner opener depth = pick (eqb depth 3) (eqb opener string_start) (leb 4 depth)

abbrev pub is_forbidden_by : ℕ → Row → Bool
is_forbidden_by opener r =
    pick (eqb r.kind string_start) (is_raw r.detail) (pick (eqb r.kind curly_open) (is_inner opener r.depth) false)

-- a record that may not be shown is none of a scan's
abbrev pub forbidden_at : ℕ → Option Row → Bool
forbidden_at opener (Some r) = is_forbidden_by opener r
forbidden_at opener None = false

abbrev pub opener_at : ℕ → Option Row → ℕ
opener_at opener (Some r) = opener_after opener r
opener_at opener None = opener

-- the first forbidden of the n records from i on; the number after them where there is none
unfoldable pub pass_from : (ℕ → Option Row) → ℕ → ℕ → ℕ → ℕ
pass_from at opener i zero = i
pass_from at opener i (suc n) = pick (forbidden_at opener (at i)) i (pass_from at (opener_at opener (at i)) (suc i) n)
