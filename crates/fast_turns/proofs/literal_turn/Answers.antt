-- `fast_turns::literal_turn` meets its contract: the end quote, a template's brace, contents, or nothing is found. Assumes nothing.
use borrow.Author.Tests.{ne_eqb}
use Prim.Native.Nat.{ℕ, ◌<◌}
use mathlib.Core.Path.{◌≡◌, refl, sym, subst, ◌∙◌}
use Rattle.token.specs.Kind.{error}
use Rattle.text.specs.Bytes.{byte_at}
use Rattle.text.specs.Stands.{Stands}
use Rattle.state.specs.Modes.{delimiter_of, quote_of}
use Rattle.state.specs.Lexer.{reach_of, settled}
use Rattle.state.specs.declared.Lexer.{Lexer}
use Rattle.lexer.specs.ArmLaws.{quote_small}
use Rattle.fast_strings.specs.Contents.{FindsContents}
use Rattle.literal_arms.specs.LiteralArmsLaws.{takes_quote, takes_brace, takes_contents}
use Rattle.turns.specs.TurnsLaws.{turns_none}
use Rattle.fast_turns.specs.Steps.{Inside}
use Rattle.fast_turns.specs.StepsLaws.{at_stands, ready_by}
use Rattle.fast_turns.proofs.literal_turn.Goals as goal
use Rattle.fast_turns.proofs.literal_turn.Goals.{After-quote_of-quote, Else-b-quote, Else-not-is_inside}

inside_at : (e : Else-not-is_inside)
    → Inside e.args.layout e.args.source.now e.args.list.now e.args.count e.args.lexer
inside_at e = e.is_inside.ensures.is e.if-not-is_inside.false

stands_at : (e : Else-not-is_inside) → Stands e.args.source.now (reach_of e.args.lexer)
stands_at e = at_stands e.args.edition e.requires.0 (inside_at e)

-- the quote that ends the literal
abbrev quote-at : After-quote_of-quote → ℕ
quote-at q = quote_of (delimiter_of q.args.lexer.mode)

abbrev byte-here : After-quote_of-quote → ℕ
byte-here q = byte_at q.args.source.now (reach_of q.args.lexer).byte.0

no_quote : (e : Else-b-quote) → byte-here (goal.at.Else-b-quote e).After-quote_of-quote ≡ quote-at (goal.at.Else-b-quote e).After-quote_of-quote → ⊥
no_quote e f = e.if-b-quote.false (e.byte_at-b.ensures ∙ f ∙ sym e.quote_of-quote.ensures)

pub returns-then-not-is_inside : goal.returns-then-not-is_inside
returns-then-not-is_inside c = turns_none c.requires.0.ok c.stays.ensures

pub closed-requires : goal.closed-requires
closed-requires c =
    let p = c.requires in
    rw c.token_of.ensures
    (ready_by c.args.edition p.0 (inside_at (goal.at.closed-requires c).Else-not-is_inside)
    (takes_quote c.args.source.now c.args.table.now c.args.edition (settled c.args.lexer) p.1 (inside_at (goal.at.closed-requires c).Else-not-is_inside).within
    (stands_at (goal.at.closed-requires c).Else-not-is_inside).well (sym c.byte_at-b.ensures ∙ c.if-b-quote.true ∙ c.quote_of-quote.ensures)) refl)

pub returns-then-b-quote : goal.returns-then-b-quote
returns-then-b-quote c = c.closed.ensures

pub opened-requires : goal.opened-requires
opened-requires c =
    let p = c.requires in
    rw c.token_of-then-b-eq-CURLY_OPEN.ensures
    (ready_by c.args.edition p.0 (inside_at (goal.at.opened-requires c).Else-not-is_inside)
    (takes_brace c.args.source.now c.args.table.now c.args.edition (settled c.args.lexer) p.1 (inside_at (goal.at.opened-requires c).Else-not-is_inside).within
    (stands_at (goal.at.opened-requires c).Else-not-is_inside).well (no_quote (goal.at.opened-requires c).Else-b-quote) (sym c.byte_at-b.ensures ∙ c.if-b-eq-CURLY_OPEN.true)) refl)

pub returns-then-b-eq-CURLY_OPEN : goal.returns-then-b-eq-CURLY_OPEN
returns-then-b-eq-CURLY_OPEN c = c.opened.ensures

pub contents-plain-requires : goal.contents-plain-requires
contents-plain-requires c =
    rw c.settle.ensures (stands_at (goal.at.contents-plain-requires c).Else-not-is_inside, subst (λ (n : ℕ). n < 128) (sym c.quote_of-quote.ensures) (quote_small (delimiter_of c.args.lexer.mode)))

pub passed-requires : goal.passed-requires
passed-requires c =
    let p = c.requires in
    let s = c.args.source.now in
    let n = ne_eqb c.contents-plain.result.kind error c.if-plain-ne-ERROR.true in
    rw c.token_of-then-plain-ne-ERROR.ensures
    (ready_by c.args.edition p.0 (inside_at (goal.at.passed-requires c).Else-not-is_inside)
    ((takes_contents s c.args.table.now c.args.edition (settled c.args.lexer) p.1 (inside_at (goal.at.passed-requires c).Else-not-is_inside).within (stands_at (goal.at.passed-requires c).Else-not-is_inside).well
    (no_quote (goal.at.passed-requires c).Else-b-quote) (λ g. c.if-b-eq-CURLY_OPEN.false (c.byte_at-b.ensures ∙ g)) p.0.fit
    (subst (λ (n : ℕ). FindsContents s n (settled c.args.lexer) c.contents-plain.result) c.quote_of-quote.ensures
    (subst (λ (l : Lexer). FindsContents s c.quote_of-quote.result l c.contents-plain.result) c.settle.ensures c.contents-plain.ensures))
    ).is n) n)

pub returns-then-plain-ne-ERROR : goal.returns-then-plain-ne-ERROR
returns-then-plain-ne-ERROR c = c.passed.ensures

pub returns : goal.returns
returns c =
    turns_none c.requires.0.ok c.stays-2.ensures
