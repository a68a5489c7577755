-- The state that the code keeps, against what stands left of a place.
--     step         the state of one character more is had from the state
--     by_state     the state decides as what stands left does
-- Assumes nothing.
use Rattle.std.specs.Prelude.{ℕ, ◌≡◌, refl, List, ◌∷◌}
use Rattle.uax29.specs.Uax29.{ends_pict, ends_pict_zwj, ends_odd, ends_consonant, ends_linked, joined}
use Rattle.uax29.specs.State.{left_of, pict_step, zwj_step, odd_step, consonant_step, linked_step, passed, joined_by}

pub step : (left : List ℕ) (p : ℕ) → passed (left_of left) p ≡ left_of (p ∷ left)
unfolding ends_pict ends_pict_zwj ends_odd ends_consonant ends_linked pict_step zwj_step odd_step consonant_step linked_step
step left p = refl

pub by_state : (edition : ℕ) (left : List ℕ) (p : ℕ) → joined_by edition (left_of left) p ≡ joined edition left p
unfolding joined_by
by_state edition left p = refl
