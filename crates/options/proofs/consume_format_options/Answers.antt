-- `options::consume_format_options` meets its contract: a character begins behind the fill and the alignment, so the brace may be searched
-- for from there on, and it stands inside the source. Assumes nothing.
use native.Mathlib.Omega.{arith}
use Prim.Native.Nat.{ℕ, ◌+◌}
use mathlib.Core.Path.{◌≡◌, sym, ap, ◌∙◌}
use mathlib.Core.List.{List}
use lib.ListN.{drop}
use Rattle.std.specs.Prelude.{Option, Some, None}
use Rattle.position.specs.declared.Reach.{Reach}
use Rattle.utf8.specs.Chars.{chars}
use Rattle.property.specs.Table.{properties_at}
use Rattle.text.specs.Stands.{Stands, chars_from}
use Rattle.state.specs.Lexer.{reach_of}
use Rattle.options.specs.ConsumeFormatOptions.{skip_bytes, find_brace}
use Rattle.options.specs.StandsLaws.{skip_lands, Braced, brace_from, brace_behind, options_by}
use Rattle.options.proofs.consume_format_options.Goals as goal
use Rattle.options.proofs.consume_format_options.Goals.{After-find_brace, After-skip_fill, In-Some}

abbrev src : After-skip_fill → List ℕ
src k = k.args.source.now

abbrev look : After-skip_fill → ℕ → ℕ
look k = properties_at k.args.table.now

abbrev reach : After-skip_fill → Reach
reach k = reach_of k.args.lexer

abbrev stands : (k : After-skip_fill) → Stands (src k) (reach k)
stands k = k.requires.0

begins : (k : After-skip_fill) → k.skip_fill.result ≡ (reach k).byte.0 + skip_bytes (look k) k.args.edition (chars_from (src k) (reach k))
begins k =
    k.skip_fill.ensures
    ∙ ap (λ (r : Reach). r.byte.0 + skip_bytes (look k) k.args.edition (chars_from (src k) r)) k.reach-reach.ensures

-- the brace that is found from there on
answer : (f : After-find_brace) (b : Option ℕ) → f.find_brace.result ≡ b
    → b ≡ (brace_from (look (goal.at.After-find_brace f).After-skip_fill) f.args.edition (src (goal.at.After-find_brace f).After-skip_fill) (reach (goal.at.After-find_brace f).After-skip_fill).byte.0)
answer f b e =
    sym e
    ∙ f.find_brace.ensures
    ∙ ap (λ (i : ℕ). find_brace i (chars (drop i (src (goal.at.After-find_brace f).After-skip_fill)))) (begins (goal.at.After-find_brace f).After-skip_fill)

-- it stands inside
braced : (e : In-Some) → (Braced (src (goal.at.In-Some e).After-skip_fill) (reach (goal.at.In-Some e).After-skip_fill).byte.0 e.in-Some.end)
braced e =
    brace_behind (look (goal.at.In-Some e).After-skip_fill) e.args.edition (src (goal.at.In-Some e).After-skip_fill) _ _ (stands (goal.at.In-Some e).After-skip_fill).inside (stands (goal.at.In-Some e).After-skip_fill).well (sym (answer (goal.at.In-Some e).After-find_brace (Some e.in-Some.end) e.in-Some.is))

pub skip_fill-requires : goal.skip_fill-requires
skip_fill-requires c =
    let p = c.requires in
    record { well_formed = rw c.reach-reach.ensures ((p.0.well, p.0.inside, p.0.small)); fit_table = p.1 }

pub find_brace-requires : goal.find_brace-requires
find_brace-requires c =
    rw (begins c) (skip_lands (look c) c.args.edition (src c) _ (stands c).inside (stands c).well).well

pub returns-in_default : goal.returns-in_default
returns-in_default c =
    c.stuck.ensures
    ∙ options_by (look (goal.at.returns-in_default c).After-skip_fill) c.args.edition (src (goal.at.returns-in_default c).After-skip_fill) c.args.lexer None (stands (goal.at.returns-in_default c).After-skip_fill) (answer (goal.at.returns-in_default c).After-find_brace None c.in_default.is)

pub overflow_sub-end : goal.overflow_sub-end
overflow_sub-end c =
    rw c.reach-reach.ensures (braced (goal.at.overflow_sub-end c).In-Some).on

pub advance_line-requires : goal.advance_line-requires
advance_line-requires c =
    record { self_bound = omega (arith, (braced (goal.at.advance_line-requires c).In-Some).within, stands (goal.at.advance_line-requires c).After-skip_fill); self_bound_2 = omega (arith, (braced (goal.at.advance_line-requires c).In-Some).within, stands (goal.at.advance_line-requires c).After-skip_fill) }

pub returns : goal.returns
returns c =
    rw (c.advance_line.ensures, c.token_of.ensures, c.reach-reach.ensures)
    (options_by (look (goal.at.returns c).After-skip_fill) c.args.edition (src (goal.at.returns c).After-skip_fill) c.args.lexer (Some c.in-Some.end) (stands (goal.at.returns c).After-skip_fill)
    (answer (goal.at.returns c).After-find_brace (Some c.in-Some.end) c.in-Some.is))
