-- What a row holds after a table file was read into it, whatever stood in the file.
-- Assumes nothing.
use Rattle.std.specs.Prelude.{ℕ, ◌<◌, ◌≡◌, List, take, drop}
use Rattle.fitness.specs.Fit.{FitTable}

-- the row `new` of the row `old`, where n numbers were read: they are a fit table at its start, and the rest stays. Where the file was
-- refused n is 0, and all stays
pub record TableIn (old new : List ℕ) (n : ℕ) : Type 0 where
  pub fit : 0 < n → FitTable (take n new)
  pub rest : drop n new ≡ drop n old
