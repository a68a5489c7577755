-- Worked examples of the padded text, each computed.
-- Assumes nothing.
use mathlib.Core.Path.{◌≡◌, refl}
use mathlib.Core.List.{[], ◌∷◌}
use Rattle.fills.specs.Pad.{default, left, center, right, no_width, space, repeated, padded}

-- "abc" in the middle of six: the odd "-" stands on the right
in_the_middle : padded center 6 (45 ∷ []) (97 ∷ 98 ∷ 99 ∷ []) 3 ≡ 45 ∷ 97 ∷ 98 ∷ 99 ∷ 45 ∷ 45 ∷ []
unfolding repeated
in_the_middle = refl

-- "ab" behind two U+00B7, of two bytes each
behind_two : padded right 4 (194 ∷ 183 ∷ []) (97 ∷ 98 ∷ []) 2 ≡ 194 ∷ 183 ∷ 194 ∷ 183 ∷ 97 ∷ 98 ∷ []
unfolding repeated
behind_two = refl

by_default : padded default 3 space (97 ∷ []) 1 ≡ 97 ∷ 32 ∷ 32 ∷ []
unfolding repeated
by_default = refl

above_the_width : padded left 1 space (97 ∷ 98 ∷ []) 2 ≡ 97 ∷ 98 ∷ []
unfolding repeated
above_the_width = refl

no_width_is_given : padded center no_width space (97 ∷ []) 1 ≡ 97 ∷ []
unfolding repeated
no_width_is_given = refl
