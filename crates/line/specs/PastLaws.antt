-- C-7: of a choice by a test that is the same for every q.
--     pick_either     with a path between the tests
--     pick_when       with one test, whose fact each case may use
-- Assumes nothing.
use Rattle.std.specs.Prelude.{ℕ, ◌≡◌, refl, Bool, true, false}
use Rattle.std.proofs.Common.{subst}
use Rattle.base.specs.Pick.{pick}
use Rattle.line.specs.Past.{Either}
use Rattle.state.specs.declared.Lexer.{Lexer}
use Rattle.state.specs.declared.Taken.{Taken}

pub pick_either : {n : ℕ} {l : Lexer} (t u : Bool) {a b c d : Taken} → t ≡ u → Either n l a c → Either n l b d
    → Either n l (pick t a b) (pick u c d)
pick_either {n} {l} t u {a} {b} {c} {d} e f g = subst (λ (v : Bool). Either n l (pick t a b) (pick v c d)) e (go t)
  where
    go : (v : Bool) → Either n l (pick v a b) (pick v c d)
    go true = f
    go false = g

-- of a test that asks nothing of q, whose cases may use its fact
pub pick_when : {n : ℕ} {l : Lexer} (t : Bool) {a b c d : Taken} → (t ≡ true → Either n l a c) → (t ≡ false → Either n l b d)
    → Either n l (pick t a b) (pick t c d)
pick_when true f g = f refl
pick_when false f g = g refl
