-- `signs::single_sign` meets its contract: `single` tells its symbol. Assumes nothing.
use mathlib.Core.Path.{refl}
use Rattle.signs.specs.SignsLaws.{finds_sign}
use Rattle.signs.proofs.single_sign.Goals as goal

pub returns : goal.returns
returns c =
    let r = c.single.ensures in
    finds_sign _ c.args.lexer c.requires.0 c.requires.1 _ _ 1 _ refl c.along.ensures (λ n. r.is n _) (r.plain.keeps _)
