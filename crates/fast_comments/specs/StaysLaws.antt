-- What stays in a comment is passed by the definitions as one byte and one column.
--     comment_stays     in a comment of many lines: printable, but neither "#" nor "-"
--     line_stays        in a comment of one line: printable
-- Assumes nothing.
use Rattle.std.specs.Prelude.{ℕ, ◌<◌, ◌≡◌, true, false, List, eqb, length, get_or, drop}
use Rattle.std.proofs.Common.{◌∙◌, lt-ltb}
use Rattle.base.specs.CasesLaws.{pick_no, and_no}
use Rattle.utf8.specs.Encode.{WellFormed}
use Rattle.utf8.specs.Chars.{chars}
use Rattle.property.specs.Table.{properties_at}
use Rattle.fitness.specs.Fit.{FitTable}
use Rattle.fitness.specs.Ascii.{is_printable}
use Rattle.text.specs.Bytes.{byte_at}
use Rattle.text.specs.Tests.{hash, minus}
use Rattle.text.specs.Follow.{turn_at}
use Rattle.text.specs.declared.Turn.TheVariants.{Pass}
use Rattle.newlines.specs.TurnLaws.{printable_at}
use Rattle.comments.specs.ConsumeComment.{comment_turn}
use Rattle.comments.specs.CommentLaws.{comment_at}
use Rattle.skip.specs.Skip.{stays_but}
use Rattle.skip.specs.SkipLaws.{stays_is}

pub comment_stays : (s table : List ℕ) → FitTable table → (i : ℕ) → i < length s → WellFormed (drop i s)
    → stays_but hash minus minus (get_or s i 0) ≡ true → turn_at (comment_turn (properties_at table)) (chars (drop i s)) ≡ Pass 1 1
comment_stays s table fit i h w t =
    let b = get_or s i 0 in
    let e : byte_at s i ≡ b = rw (lt-ltb i (length s) h) in
    let k = stays_is hash minus minus b t in
    let no-hash : eqb (byte_at s i) hash ≡ false = rw e k.no_a in
    let no_minus : eqb (byte_at s i) minus ≡ false = rw e k.no_b in
    comment_at s i w h table fit
    ∙ pick_no _ _ _ _ (and_no _ _ no-hash) (pick_no _ _ _ _ (and_no _ _ no_minus) (printable_at s i w h table fit b e k.printable))

pub line_stays : (x : ℕ) → stays_but 0 0 0 x ≡ true → is_printable x ≡ true
line_stays x t = (stays_is 0 0 0 x t).printable
