-- `short::name` meets its contract: the name reaches to `name_end`. Assumes nothing.
use native.Mathlib.Omega.{arith}
use mathlib.Core.Path.{refl, sym, ap, subst}
use Rattle.position.specs.declared.Reach.{Reach}
use Rattle.property.specs.Table.{properties_at}
use Rattle.text.specs.Bytes.{byte_at}
use Rattle.text.specs.FollowLaws.{byte_within}
use Rattle.text.specs.Stands.{chars_from}
use Rattle.state.specs.Lexer.{reach_of}
use Rattle.numbers.specs.Places.{GoesOn}
use Rattle.names.specs.ConsumeIdOrKeyword.{name_token}
use Rattle.names.specs.NameLaws.{ascii_len, name_goes}
use Rattle.found.specs.FoundLaws.{finds_same}
use Rattle.short.proofs.name.Goals as goal

pub name_end-requires : goal.name_end-requires
name_end-requires c =
    let p = c.requires in
    (p.0, p.1, ascii_len (byte_at c.args.source.now (reach_of c.args.lexer).byte.0) p.0.well refl p.2)

pub name_to-requires : goal.name_to-requires
name_to-requires c =
    let p = c.requires in
    let l = c.args.lexer in
    let i = (reach_of l).byte.0 in
    let s = c.args.source.now in (
      p.0,
      subst (GoesOn s (reach_of l)) (sym c.name_end.ensures)
          (name_goes (properties_at c.args.table.now) s l p.0 (byte_within s i (byte_at s i) refl (omega (arith, p.2)))),
    )

pub returns : goal.returns
returns c =
    let l = c.args.lexer in
    finds_same (ap (λ (end : Reach). name_token (chars_from c.args.source.now (reach_of l)) end l) c.name_end.ensures) c.name_to.ensures
