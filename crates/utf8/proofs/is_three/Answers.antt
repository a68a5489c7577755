-- `utf8::is_three` meets its contract: a character of three bytes is what `opens` tests, and a third byte. Assumes nothing.
use mathlib.Core.Path.{◌≡◌, sym, ap, ◌∙◌}
use mathlib.Core.Bool.{Bool, true, false, ◌&&◌}
use lib.ListN.{get_or}
use lib.Dec.{eqb}
use Rattle.utf8.specs.Read.{is_tail, decode_head}
use Rattle.utf8.specs.Lengths.{len_of}
use Rattle.utf8.specs.LengthsLaws.{opens_room, three_len}
use Rattle.utf8.proofs.is_three.Goals as goal
use Rattle.utf8.proofs.is_three.Goals.{After-opens}

by_first : (c : After-opens) (t : Bool) → c.opens.result ≡ t
    → (t && is_tail (get_or c.args.s.now 2 0)) ≡ eqb (len_of (decode_head c.args.s.now)) 3
by_first c t e =
    ap (λ (u : Bool). u && is_tail (get_or c.args.s.now 2 0)) (sym e ∙ c.opens.ensures) ∙ three_len c.args.s.now c.requires

pub returns-then-not-opens : goal.returns-then-not-opens
returns-then-not-opens c = by_first (goal.at.returns-then-not-opens c).After-opens false c.if-not-opens.true

pub bounds-s-2 : goal.bounds-s-2
bounds-s-2 c =
    opens_room c.args.s.now 3 (sym c.opens.ensures ∙ c.if-not-opens.false)

pub returns : goal.returns
returns c =
    c.between.ensures ∙ by_first (goal.at.returns c).After-opens true c.if-not-opens.false
