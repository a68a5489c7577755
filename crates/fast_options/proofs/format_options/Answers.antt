-- `fast_options::format_options` meets its contract: the first three characters stand apart, so what is passed before the brace is searched for is told by
-- the second of them; and the brace is the definition's. Assumes nothing.
use native.Mathlib.Omega.{arith}
use Prim.Native.Nat.{ℕ}
use mathlib.Core.Path.{◌≡◌, refl, sym, ◌∙◌}
use mathlib.Core.List.{List}
use lib.ListN.{drop}
use Rattle.std.specs.Prelude.{Some}
use Rattle.utf8.specs.Chars.{chars}
use Rattle.token.specs.Kind.{string_literal}
use Rattle.text.specs.Stands.{Stands}
use Rattle.state.specs.Lexer.{reach_of}
use Rattle.options.specs.ConsumeFormatOptions.{find_brace}
use Rattle.plain.specs.PlainLaws.{plain_none, plain_token}
use Rattle.fast_options.specs.OptionsLaws.{Apart, apart_by, lands, options_to, brace_on}
use Rattle.fast_options.proofs.format_options.Goals as goal
use Rattle.fast_options.proofs.format_options.Goals.{After-skip_ascii, In-Some}

abbrev src : After-skip_ascii → List ℕ
src k = k.args.source.now

abbrev at : After-skip_ascii → ℕ
at k = (reach_of k.args.lexer).byte.0

abbrev stands : (k : After-skip_ascii) → Stands (src k) (reach_of k.args.lexer)
stands k = k.requires

apart : (k : After-skip_ascii) → Apart (src k) (at k)
apart k =
    apart_by (src k) (at k) (omega (arith, k.if-source-at-lt3.false, (stands k).inside))
    (sym k.stand_apart.ensures ∙ k.if-not-stand_apart.false)

-- the brace that is found from there on
found : (e : In-Some)
    → (Some e.in-Some.end ≡ find_brace e.skip_ascii.result (chars (drop e.skip_ascii.result (src (goal.at.In-Some e).After-skip_ascii))))
found e = sym e.in-Some.is ∙ e.find_brace.ensures

pub returns-then-source-at-lt3 : goal.returns-then-source-at-lt3
returns-then-source-at-lt3 c table fit edition = plain_none c.none.ensures

pub returns-then-not-stand_apart : goal.returns-then-not-stand_apart
returns-then-not-stand_apart c table fit edition = plain_none c.none-then-not-stand_apart.ensures

pub find_brace-requires : goal.find_brace-requires
find_brace-requires c = rw c.skip_ascii.ensures (lands (src c) (at c) (apart c) (stands c).well)

pub returns-in_default : goal.returns-in_default
returns-in_default c table fit edition = plain_none c.none-in_default.ensures

pub overflow_sub-result : goal.overflow_sub-result
overflow_sub-result c =
    brace_on (src (goal.at.overflow_sub-result c).After-skip_ascii) (at (goal.at.overflow_sub-result c).After-skip_ascii) (apart (goal.at.overflow_sub-result c).After-skip_ascii) (stands (goal.at.overflow_sub-result c).After-skip_ascii).well _ _ c.skip_ascii.ensures (found (goal.at.overflow_sub-result c).In-Some)

pub returns : goal.returns
returns c table fit edition =
    plain_token string_literal _ refl
    (sym (options_to table fit edition (src (goal.at.returns c).After-skip_ascii) c.args.lexer (stands (goal.at.returns c).After-skip_ascii) (apart (goal.at.returns c).After-skip_ascii) _ c.skip_ascii.ensures (Some c.in-Some.end) (found (goal.at.returns c).In-Some)))
