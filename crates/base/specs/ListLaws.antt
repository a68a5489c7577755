-- Laws of lists that the library does not have.
--     rest_all      the part from a place to the end is what is left there
--     same_start    two lists that agree at each of the first n places begin alike
-- Assumes nothing.
use Rattle.std.specs.Prelude.{ℕ, ◌-◌, ◌<◌, ◌≤◌, ◌≡◌, List, length, get_or, take, drop}
use Rattle.std.proofs.Common.{arith, sym, ◌∙◌, length-drop, take_all, ext_get_or, get_or-take, length-take-le}

pub rest_all : (s : List ℕ) (i : ℕ) → take (length s - i) (drop i s) ≡ drop i s
rest_all s i = take_all (length s - i) (drop i s) (omega (arith, length-drop i s))

pub same_start : (n : ℕ) (l m : List ℕ) → n ≤ length l → n ≤ length m → ((k : ℕ) → k < n → get_or l k 0 ≡ get_or m k 0) → take n l ≡ take n m
same_start n l m h i same =
    ext_get_or 0 (take n l) (take n m) (length-take-le n l h ∙ sym (length-take-le n m i))
    (λ k j.
    let b : k < n = omega (arith, length-take-le n l h) in
    get_or-take n l k 0 b ∙ same k b ∙ sym (get_or-take n m k 0 b))
