-- `lexer::read_half` meets its contract: at the end and inside a character nothing is left; else the token that is taken makes the half.
-- Assumes nothing.
use Prim.Native.Nat.{◌<◌}
use mathlib.Core.Path.{sym, ap, subst, ◌∙◌}
use lib.ListN.{length}
use Rattle.property.specs.Table.{properties_at}
use Rattle.text.specs.Stands.{Stands, chars_from}
use Rattle.state.specs.Lexer.{reach_of}
use Rattle.state.specs.declared.Lexer.{Lexer}
use Rattle.lexer.specs.GetNextToken.{take_token}
use Rattle.lexer.specs.Step.{half_of}
use Rattle.lexer.specs.ArmLaws.{remaining_end, remaining_inside, half_none, half_some}
use Rattle.lexer.proofs.read_half.Goals as goal

pub returns-then-source-at : goal.returns-then-source-at
returns-then-source-at c =
    sym (half_none _ _ c.args.source.now c.args.lexer (remaining_end _ _ c.if-source-at.true))

pub returns-then-is_inside : goal.returns-then-is_inside
returns-then-is_inside c =
    sym
    (half_none _ _ c.args.source.now c.args.lexer
    (remaining_inside _ _ (sym c.is_inside.ensures ∙ c.if-is_inside.true)))

pub take_token-requires : goal.take_token-requires
take_token-requires c =
    let f = c.requires.0 in
    let w = f.whole (sym c.is_inside.ensures ∙ c.if-is_inside.false) in record {
      stands = subst (λ (x : Lexer). Stands c.args.source.now (reach_of x) × ((reach_of x).byte.0 < length c.args.source.now))
          (sym c.settle.ensures)
          (record { small = f.small; inside = f.inside; well = w; lines = f.lines; columns = f.columns }, c.if-source-at.false);
      fit_table = c.requires.1;
    }

pub returns : goal.returns
returns c =
    let l = c.args.lexer in
    let s = c.args.source.now in
    let look = properties_at c.args.table.now in
    let inside = sym c.is_inside.ensures ∙ c.if-is_inside.false in
    c.half_of.ensures
    ∙ ap (half_of l)
    (c.take_token.ensures
    ∙ ap (λ (x : Lexer). take_token look c.args.edition (chars_from s (reach_of x)) x) c.settle.ensures)
    ∙ sym (half_some look c.args.edition s l inside (c.requires.0.whole inside) c.if-source-at.false)
