-- What an answer says in document 01's terms: a number (0, or a refusal's) and its place or value. The promises tell both through this
-- alone, by each answer's own `number_of` and `place_of`.
-- Assumes nothing.
use Rattle.std.specs.Prelude.{ℕ}

pub record Said : Type 0 where
  pub number : ℕ
  pub place : ℕ

abbrev pub says : ℕ → ℕ → Said
says number place = record { number = number; place = place }
