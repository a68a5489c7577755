-- `comments::comment_turn` meets its contract: it takes the tests of `comment_at` in their order. Assumes nothing.
use mathlib.Core.Path.{◌≡◌, sym, ◌∙◌}
use mathlib.Core.Bool.{false}
use mathlib.Core.Logic.{⊎_elim}
use Rattle.base.specs.CasesLaws.{cases, pick_no}
use Rattle.text.specs.Tests.{hash, minus}
use Rattle.newlines.specs.TurnLaws.{is_pair, printable_at}
use Rattle.comments.specs.CommentLaws.{comment_at}
use Rattle.comments.proofs.comment_turn.Goals as goal
use Rattle.comments.proofs.comment_turn.Goals.{Joined-else-b-eq-HASH, Joined-else-b-eq-MINUS}

-- the tests that led past the two pairs
no_open : (c : Joined-else-b-eq-HASH) → is_pair c.args.source.now c.args.at hash minus ≡ false
no_open c = ⊎_elim (λ w. search cases) (λ w. search cases) c.else-b-eq-HASH.branch-raw

no_close : (c : Joined-else-b-eq-MINUS) → is_pair c.args.source.now c.args.at minus hash ≡ false
no_close c = ⊎_elim (λ w. search cases) (λ w. search cases) c.else-b-eq-MINUS.branch-raw

pub returns-then-byte_at-eq-MINUS : goal.returns-then-byte_at-eq-MINUS
returns-then-byte_at-eq-MINUS c =
    let p = c.requires in
    sym (comment_at _ _ p.well_formed.0 p.well_formed.1 _ p.fit_table ∙ search cases)

pub returns-then-byte_at-eq-HASH : goal.returns-then-byte_at-eq-HASH
returns-then-byte_at-eq-HASH c =
    let p = c.requires in
    sym (comment_at _ _ p.well_formed.0 p.well_formed.1 _ p.fit_table ∙ pick_no _ _ _ _ (no_open (goal.at.returns-then-byte_at-eq-HASH c).Joined-else-b-eq-HASH) (search cases))

pub returns-then-is_printable : goal.returns-then-is_printable
returns-then-is_printable c =
    let p = c.requires in
    sym
    (comment_at _ _ p.well_formed.0 p.well_formed.1 _ p.fit_table
    ∙ pick_no _ _ _ _ (no_open (goal.at.returns-then-is_printable c).Joined-else-b-eq-HASH)
    (pick_no _ _ _ _ (no_close (goal.at.returns-then-is_printable c).Joined-else-b-eq-MINUS)
    (printable_at _ _ p.well_formed.0 p.well_formed.1 _ p.fit_table _ (sym c.byte_at-b.ensures) (sym c.is_printable.ensures ∙ c.if-is_printable.true))))

pub returns : goal.returns
returns c =
    let p = c.requires in
    sym
    (comment_at _ _ p.well_formed.0 p.well_formed.1 _ p.fit_table
    ∙ pick_no _ _ _ _ (no_open (goal.at.returns c).Joined-else-b-eq-HASH) (pick_no _ _ _ _ (no_close (goal.at.returns c).Joined-else-b-eq-MINUS) (sym c.char_turn.ensures)))
