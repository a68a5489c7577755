-- A comparison that fails promises nothing: what a contract says of the answer true, where the answer is false.
-- Assumes nothing.
use Rattle.std.specs.Prelude.{◌≡◌, ℕ, true, false}
use Rattle.std.proofs.Common.{arith}

pub never : {G : Type 0} → false ≡ true → G
never e = absurd (let z : ◌≡◌ {A = ℕ} 0 1 = cc in omega arith)
