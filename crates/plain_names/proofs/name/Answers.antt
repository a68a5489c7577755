-- `plain_names::name` meets its contract: what ends before an ASCII character is the name, and it asks in the order of `name_token`. Assumes nothing.
use native.Mathlib.Omega.{arith}
use Prim.Native.Nat.{ℕ, ◌-◌, ◌<◌}
use mathlib.Core.Path.{sym, ap, ◌∙◌}
use Rattle.state.specs.Lexer.{reach_of}
use Rattle.plain.specs.PlainLaws.{plain_none}
use Rattle.plain_names.specs.PlainNamesLaws.{goes_on, finds_name}
use Rattle.plain_names.proofs.name.Goals as goal
use Rattle.plain_names.proofs.name.Goals.{After-name_end-end}

-- the name has a byte
some : (e : After-name_end-end) → (reach_of e.args.lexer).byte.0 < e.name_end-end.result
some e = goes_on e.name_end-end.ensures e.requires.stands.1 e.requires.lexer_value

pub returns-then-source-at : goal.returns-then-source-at
returns-then-source-at c table fit = plain_none c.none.ensures

pub returns-then-byte_at-gt127 : goal.returns-then-byte_at-gt127
returns-then-byte_at-gt127 c table fit = plain_none c.none-then-byte_at-gt127.ensures

pub overflow_sub-len : goal.overflow_sub-len
overflow_sub-len c = omega (arith, c.name_end-end.ensures.passed.on)

pub returns-then-is_else : goal.returns-then-is_else
returns-then-is_else c table fit = plain_none c.none-then-is_else.ensures

pub returns-then-is_r : goal.returns-then-is_r
returns-then-is_r c table fit = plain_none c.none-then-is_r.ensures

pub keyword_by-kind-requires : goal.keyword_by-kind-requires
keyword_by-kind-requires c =
    let run = c.name_end-end.ensures.passed in
    record { at_in_bounds = (omega (arith, c.if-source-at.false), omega (arith, run.within, run.on), omega (arith, some (goal.at.keyword_by-kind-requires c).After-name_end-end)); word_value = c.word8-word.ensures }

pub returns : goal.returns
returns c =
    finds_name c.args.source.now c.args.lexer c.requires.stands.0 c.name_end-end.ensures (some (goal.at.returns c).After-name_end-end)
    (omega (arith, c.byte_at.ensures, c.if-byte_at-gt127.false)) c.keyword_by-kind.ensures
    (sym c.is_else.ensures ∙ c.if-is_else.false) (sym c.is_r.ensures ∙ c.if-is_r.false)
    (ap (λ (k : ℕ). record { kind = k; len = c.name_end-end.result - (reach_of c.args.lexer).byte.0 }) c.kind_after.ensures)
