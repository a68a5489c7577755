-- `fast_turns::code_turn` meets its contract: blanks, a plain token, or a line feed; the record of each is written. Assumes nothing.
use borrow.Author.Tests.{ne_eqb}
use native.Mathlib.Omega.{arith}
use Prim.Native.Nat.{◌-◌, ◌+◌, ◌≤◌}
use mathlib.Core.Path.{◌≡◌, refl, subst}
use Rattle.position.specs.Place.{line_by}
use Rattle.token.specs.Kind.{error, whitespace, new_line}
use Rattle.text.specs.Tests.{is_whitespace}
use Rattle.text.specs.Count.{count_while}
use Rattle.text.specs.Stands.{Stands, chars_from}
use Rattle.state.specs.Lexer.{advanced_line, reach_of, settled, indented, token_to, token_along}
use Rattle.state.specs.declared.Change.TheVariants.{Keep}
use Rattle.state.specs.declared.Lexer.{Lexer}
use Rattle.state.specs.declared.Taken.{Taken}
use Rattle.plain.specs.Plain.{plain_taken}
use Rattle.plain_code.specs.PlainCode.{CodeFinds}
use Rattle.turns.specs.Turns.{Ready}
use Rattle.turns.specs.TurnsLaws.{writable_kept, written_token, room_most_lem}
use Rattle.fast_turns.specs.Steps.{Inside}
use Rattle.fast_turns.specs.StepsLaws.{at_stands, ready_blank, ready_plain, ready_feed, code_none, code_kept}
use Rattle.fast_turns.proofs.code_turn.Goals as goal
use Rattle.fast_turns.proofs.code_turn.Goals.{After-run_end, Else-b-ne10, Else-not-is_inside, Then-plain-ne-ERROR}

inside_at : (e : Else-not-is_inside)
    → Inside e.args.layout e.args.source.now e.args.list.now e.args.count e.args.lexer
inside_at e = e.is_inside.ensures.is e.if-not-is_inside.false

stands_at : (e : Else-not-is_inside) → Stands e.args.source.now (reach_of e.args.lexer)
stands_at e = at_stands e.args.edition e.requires.0 (inside_at e)

-- everything is at hand for a turn with this token
abbrev ReadyAt : Else-not-is_inside → Taken → Type 0
ReadyAt e t =
    Ready e.args.layout e.args.source.now e.args.table.now e.args.edition e.args.lexer
    e.args.codes.now e.args.count e.args.list.now t

-- a count of records that has room has one more
one_more_lem : (e : Else-not-is_inside) → e.args.count + 1 ≤ 18446744073709551615
one_more_lem e =
    omega (arith, (inside_at e).room, room_most_lem e.args.layout e.args.list.now, e.well_formed)

pub returns-then-not-is_inside : goal.returns-then-not-is_inside
returns-then-not-is_inside c = code_none c.requires.0.ok c.stays.ensures

pub bounds-source-at : goal.bounds-source-at
bounds-source-at c = (inside_at (goal.at.bounds-source-at c).Else-not-is_inside).within

-- ---- blanks
pub run_end-requires : goal.run_end-requires
run_end-requires c = (stands_at (goal.at.run_end-requires c).Else-not-is_inside).well

-- the blanks that were counted
counted : (b : After-run_end)
    → b.run_end.result - (reach_of b.args.lexer).byte.0
    ≡ count_while is_whitespace (chars_from b.args.source.now (reach_of b.args.lexer))
counted b = omega (arith, b.run_end.ensures)

blank_ready : (b : After-run_end)
    → ReadyAt (goal.at.After-run_end b).Else-not-is_inside
    (token_along whitespace (b.run_end.result - (reach_of b.args.lexer).byte.0)
    (indented (b.run_end.result - (reach_of b.args.lexer).byte.0) (settled b.args.lexer)))
blank_ready b =
    let p = b.requires in
    ready_blank b.args.edition p.0 (inside_at (goal.at.After-run_end b).Else-not-is_inside) p.2 b.if-b-eq32.true (counted b)

pub blank-requires : goal.blank-requires
blank-requires c = writable_kept (blank_ready (goal.at.blank-requires c).After-run_end) refl

pub overflow_add-result : goal.overflow_add-result
overflow_add-result c = omega (arith, one_more_lem (goal.at.overflow_add-result c).Else-not-is_inside)

pub returns-then-b-eq32 : goal.returns-then-b-eq32
returns-then-b-eq32 c =
    code_kept (blank_ready (goal.at.returns-then-b-eq32 c).After-run_end) refl refl c.blank.ensures

pub code_plain-plain-requires : goal.code_plain-plain-requires
code_plain-plain-requires c =
    let p = c.requires in
    record { stands = rw c.settle.ensures ((stands_at (goal.at.code_plain-plain-requires c).Else-not-is_inside, (inside_at (goal.at.code_plain-plain-requires c).Else-not-is_inside).within)); class_table = (p.1.by_class, p.1.by_sign) }

plain_ready : (t : Then-plain-ne-ERROR)
    → ReadyAt (goal.at.Then-plain-ne-ERROR t).Else-not-is_inside
    (plain_taken Keep t.code_plain-plain.result.kind t.code_plain-plain.result.len
    (settled t.args.lexer))
plain_ready t =
    let p = t.requires in
    let s = t.args.source.now in
    let table = t.args.table.now in
    ready_plain t.args.edition p.0 (inside_at (goal.at.Then-plain-ne-ERROR t).Else-not-is_inside) p.2
    (subst (λ (l : Lexer). CodeFinds s l t.code_plain-plain.result) t.settle.ensures t.code_plain-plain.ensures table p.0.fit)
    (ne_eqb t.code_plain-plain.result.kind error t.if-plain-ne-ERROR.true)

pub kept-requires : goal.kept-requires
kept-requires c = rw c.token_of.ensures (writable_kept (plain_ready (goal.at.kept-requires c).Then-plain-ne-ERROR) refl)

pub overflow_add-result-then-plain-ne-ERROR : goal.overflow_add-result-then-plain-ne-ERROR
overflow_add-result-then-plain-ne-ERROR c = omega (arith, one_more_lem (goal.at.overflow_add-result-then-plain-ne-ERROR c).Else-not-is_inside)

pub returns-then-plain-ne-ERROR : goal.returns-then-plain-ne-ERROR
returns-then-plain-ne-ERROR c =
    code_kept (plain_ready (goal.at.returns-then-plain-ne-ERROR c).Then-plain-ne-ERROR) refl refl
    (written_token (advanced_line c.code_plain-plain.result.len (settled c.args.lexer)) c.token_of.ensures c.kept.ensures)

pub returns-then-b-ne10 : goal.returns-then-b-ne10
returns-then-b-ne10 c =
    code_none c.requires.0.ok c.stays-then-b-ne10.ensures

feed_ready : (f : Else-b-ne10)
    → ReadyAt (goal.at.Else-b-ne10 f).Else-not-is_inside
    (token_to new_line (line_by 1 (reach_of f.args.lexer))
    (settled f.args.lexer))
feed_ready f =
    let p = f.requires in
    ready_feed f.args.edition p.0 (inside_at (goal.at.Else-b-ne10 f).Else-not-is_inside) p.2 f.if-b-ne10.false

pub line_feed-requires : goal.line_feed-requires
line_feed-requires c = writable_kept (feed_ready (goal.at.line_feed-requires c).Else-b-ne10) refl

pub overflow_add-result-2 : goal.overflow_add-result-2
overflow_add-result-2 c = omega (arith, one_more_lem (goal.at.overflow_add-result-2 c).Else-not-is_inside)

pub returns : goal.returns
returns c =
    code_kept (feed_ready (goal.at.returns c).Else-b-ne10) refl refl c.line_feed.ensures
