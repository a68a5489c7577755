-- A case by a test that computes: the one way in which definitions of this project choose. The ways to reason by its cases are in
-- `PickLaws`.
-- Assumes nothing.
use Rattle.std.specs.Prelude.{Bool, true, false}

-- a where the test is true, b where it is false
abbrev pub pick : {A : Type 0} → Bool → A → A → A
pick true a b = a
pick false a b = b
