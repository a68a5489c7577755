-- `fast_step::long_in_code` meets its contract: at "#" the arm is the comment's, and above 127 that of names. Assumes nothing.
use native.Mathlib.Omega.{arith}
use Prim.Native.Nat.{ℕ}
use mathlib.Core.Path.{◌≡◌, sym, ap, ◌∙◌}
use Rattle.property.specs.Table.{properties_at}
use Rattle.text.specs.Bytes.{byte_at}
use Rattle.text.specs.Stands.{chars_from}
use Rattle.state.specs.Lexer.{reach_of}
use Rattle.lexer.specs.GetNextToken.{in_code}
use Rattle.lexer.specs.NextLaws.{next_ascii}
use Rattle.lexer.specs.ArmLaws.{comment_arm}
use Rattle.found.specs.FoundLaws.{finds_same, finds_nothing, finds_of}
use Rattle.short.specs.ShortLaws.{byte_there}
use Rattle.fast_step.specs.FastStepLaws.{comment_of}
use Rattle.fast_step.proofs.long_in_code.Goals as goal
use Rattle.fast_step.proofs.long_in_code.Goals.{Then-b-eq35}

-- "#" stands there
hash : (t : Then-b-eq35) → byte_at t.args.source.now (reach_of t.args.lexer).byte.0 ≡ 35
hash t = byte_there t.args.source.now (reach_of t.args.lexer).byte.0 t.requires.stands.1 ∙ t.if-b-eq35.true

pub consume_comment-requires : goal.consume_comment-requires
consume_comment-requires c =
    let p = c.requires in
    record { stands = (p.stands.0, p.fit_table); lexer_value = hash c }

pub returns-then-b-eq35 : goal.returns-then-b-eq35
returns-then-b-eq35 c =
    let l = c.args.lexer in
    let s = c.args.source.now in
    let look = properties_at c.args.table.now in
    let cs = chars_from s (reach_of l) in
    finds_same
    (sym (ap (λ (x : ℕ). in_code look x cs l) (next_ascii s (reach_of l).byte.0 35 (hash (goal.at.returns-then-b-eq35 c).Then-b-eq35) (omega arith)) ∙ comment_arm look cs l))
    (finds_of c.of.ensures c.consume_comment.ensures (comment_of look cs l))

pub returns-then-b-lt128 : goal.returns-then-b-lt128
returns-then-b-lt128 c = finds_nothing c.nothing.ensures
