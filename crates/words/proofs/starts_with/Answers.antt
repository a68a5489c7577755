-- `words::starts_with` meets its contract: std's test of what is left of the source asks the same. Assumes nothing.
use native.Mathlib.Omega.{arith}
use mathlib.Core.Path.{◌≡◌, ap, ◌∙◌}
use mathlib.Core.List.{List}
use Prim.Native.Nat.{ℕ, ◌-◌}
use lib.Dec.{eqb}
use lib.ListN.{length, take, drop, length-drop}
use Rattle.std.specs.List as std
use Rattle.std.proofs.lemmas.List.{drop_min, take_all}
use Rattle.words.proofs.Compare.{starts_is}
use Rattle.words.proofs.starts_with.Goals as goal

pub returns : goal.returns
returns c =
    let s = c.args.source.now in
    let w = c.args.word.now in
    let at = c.min.result in
    let left : take (length s - at) (drop at s) ≡ drop c.args.at s =
    take_all _ _ (omega (arith, length-drop at s)) ∙ ap (λ (n : ℕ). drop n s) c.min.ensures ∙ drop_min c.args.at s
    in
    c.starts_with.ensures.value ∙ ap (λ (l : List ℕ). std.starts_with eqb l w) left ∙ starts_is w (drop c.args.at s)
