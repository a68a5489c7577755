-- What a definition answers where its tests have been told: `sym (search cases)` closes a `return` of code that takes the definition's
-- tests in the definition's order, whether it makes a test itself or calls a function for it.
--     chain, cases, denied    the rules for `search`, from few to many: take the first that serves
-- With n tests before it a return wants `depth` n + 3, and past six calls `fits 4000`.
-- Assumes nothing.
use Rattle.std.specs.Prelude.{ℕ, ◌≡◌, Bool, true, false, not, ◌&&◌, ◌||◌, eqb}
use Rattle.std.proofs.Common.{sym, ◌∙◌, eq-eqb, ne_eqb, lt-ltb, le-ltb, le-leb}
use Rattle.std.proofs.lemmas.Bool.{not-true, not-false, lt-leb}
use Rattle.base.specs.Pick.{pick}

pub pick_yes : {A : Type 0} (t : Bool) (a b v : A) → t ≡ true → a ≡ v → pick t a b ≡ v
pick_yes t a b v e f = rw e f

pub pick_no : {A : Type 0} (t : Bool) (a b v : A) → t ≡ false → b ≡ v → pick t a b ≡ v
pick_no t a b v e f = rw e f

pub or_yes : (s t : Bool) → s ≡ true → (s || t) ≡ true
or_yes s t e = rw e

pub or_no : (s t v : Bool) → s ≡ false → t ≡ v → (s || t) ≡ v
or_no s t v e f = rw e f

pub and_yes : (s t v : Bool) → s ≡ true → t ≡ v → (s && t) ≡ v
and_yes s t v e f = rw e f

pub and_no : (s t : Bool) → s ≡ false → (s && t) ≡ false
and_no s t e = rw e

-- the same, where the code hands the test's own value on, as at the end of `a || (b || c)`
pub or_itself : (s t : Bool) → s ≡ true → (s || t) ≡ s
or_itself s t e = rw e

pub and_itself : (s t : Bool) → s ≡ false → (s && t) ≡ s
and_itself s t e = rw e

-- a test that was called: r is what the call answered
pub told : (r t v : Bool) → r ≡ t → r ≡ v → t ≡ v
told r t v e f = sym e ∙ f

pub told_not : (r t : Bool) → r ≡ t → not r ≡ true → t ≡ false
told_not r t e f = sym e ∙ not-true r f

pub told_is : (r t : Bool) → r ≡ t → not r ≡ false → t ≡ true
told_is r t e f = sym e ∙ not-false r f

pub told_yes : (r m n : ℕ) → r ≡ m → r ≡ n → eqb m n ≡ true
told_yes r m n e f = eq-eqb m n (sym e ∙ f)

pub told_no : (r m n : ℕ) → r ≡ m → (r ≡ n → ⊥) → eqb m n ≡ false
told_no r m n e f = ne_eqb m n (λ h. f (e ∙ h))

-- a chain of tests that are called, each with its answer: the shortest list, for the longest chains
pub ruleset chain = (pick_yes, pick_no, told, eq-eqb, ne_eqb)

pub ruleset cases = (chain, or_yes, or_no, or_itself, and_yes, and_no, and_itself, told_yes, told_no, lt-ltb, le-ltb, le-leb, lt-leb)

-- where the code also says `if !test(..)`
pub ruleset denied = (cases, told_not, told_is)
