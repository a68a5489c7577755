-- `fast_strings::contents` meets its contract: what stays is passed at once, and the literal ends there; else none is found. Assumes nothing.
use mathlib.Core.Path.{refl, sym, ap, ◌∙◌}
use mathlib.Core.Bool.{◌||◌}
use Prim.Native.Nat.{ℕ}
use lib.Dec.{eqb}
use Rattle.token.specs.Kind.{string_literal}
use Rattle.text.specs.Tests.{curly_open}
use Rattle.plain.specs.PlainLaws.{plain_none, plain_token}
use Rattle.fast_strings.specs.ContentsLaws.{contents_to}
use Rattle.fast_strings.proofs.contents.Goals as goal

pub returns-then-ends : goal.returns-then-ends
returns-then-ends c table fit =
    let p = c.requires in
    plain_token string_literal _ refl
    (contents_to c.args.source.now c.args.lexer c.args.quote c.skip_block-end.result p.0 p.1 c.skip_block-end.ensures
    (ap (λ (x : ℕ). eqb x c.args.quote || eqb x curly_open) (sym c.byte_at.ensures) ∙ sym c.ends.ensures ∙ c.if-ends.true) table fit)

pub returns : goal.returns
returns c table fit = plain_none c.none.ensures
