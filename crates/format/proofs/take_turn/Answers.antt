-- `format::take_turn` meets its contract: the arm decides, and `Turns` has a law for each. Assumes nothing.
use native.Mathlib.Omega.{arith}
use Prim.Native.Nat.{ℕ, ◌+◌, ◌≤◌}
use mathlib.Core.Path.{◌≡◌, sym, ap, ◌∙◌}
use mathlib.Core.List.{List}
use lib.ListN.{drop}
use Rattle.base.specs.Refusal.{format_most}
use Rattle.utf8.specs.Chars.{chars}
use Rattle.property.specs.Table.{properties_at}
use Rattle.format_number.specs.Number.{peeked}
use Rattle.format_arms.specs.Arms.{arm_of}
use Rattle.format_arms.specs.declared.Arm.{Arm}
use Rattle.format_arms.specs.declared.Arm.TheVariants as arm
use Rattle.format.specs.Read.{Here}
use Rattle.format.proofs.Turns.{next_within, dot_within, turn_fill_sign, turn_align, turn_zero_fill, turn_width, turn_precision, turn_represent, turn_cluster, turn_unexpected}
use Rattle.format.proofs.take_turn.Goals as goal
use Rattle.format.proofs.take_turn.Goals.{After-arm_of, Start}

within : (b : Start) → b.args.p.at + b.args.len ≤ format_most
within b = next_within (properties_at b.args.table.now) b.args.edition _ b.args.p _ _ b.requires.0

abbrev src : After-arm_of → List ℕ
src a = a.args.format.now

abbrev look : After-arm_of → ℕ → ℕ
look a = properties_at a.args.table.now

abbrev here : (a : After-arm_of) → Here (src a) a.args.p.at a.args.c a.args.len
here a = a.requires.0

abbrev cs : After-arm_of → List ℕ
cs a = chars (drop (a.args.p.at + a.args.len) (src a))

seen : (a : After-arm_of) → a.peek-peeked.result ≡ peeked (cs a)
seen a = a.peek-peeked.ensures

chosen : (a : After-arm_of) (x : Arm) → a.arm_of.result ≡ x → arm_of a.args.c (peeked (cs a)) a.args.p.position ≡ x
chosen a x e = ap (λ (d : ℕ). arm_of a.args.c d a.args.p.position) (sym (seen a)) ∙ sym a.arm_of.ensures ∙ e

pub overflow_add-next : goal.overflow_add-next
overflow_add-next c = omega (arith, within (goal.at.overflow_add-next c).Start)

pub fill_sign-requires : goal.fill_sign-requires
fill_sign-requires c = (omega arith, within (goal.at.fill_sign-requires c).Start)

pub take_width-requires : goal.take_width-requires
take_width-requires c = ((here (goal.at.take_width-requires c).After-arm_of).small, within (goal.at.take_width-requires c).Start)

pub overflow_add-next-in-Precision : goal.overflow_add-next-in-Precision
overflow_add-next-in-Precision c = omega (arith, within (goal.at.overflow_add-next-in-Precision c).Start)

pub take_precision-requires : goal.take_precision-requires
take_precision-requires c =
    ((here (goal.at.take_precision-requires c).After-arm_of).small, dot_within (look (goal.at.take_precision-requires c).After-arm_of) c.args.edition (src (goal.at.take_precision-requires c).After-arm_of) c.args.p _ _ (here (goal.at.take_precision-requires c).After-arm_of) (chosen (goal.at.take_precision-requires c).After-arm_of arm.Precision c.in-Precision.is))

pub returns-in-FillSign : goal.returns-in-FillSign
returns-in-FillSign c =
    rw (c.fill_sign.ensures, seen (goal.at.returns-in-FillSign c).After-arm_of) (turn_fill_sign (look (goal.at.returns-in-FillSign c).After-arm_of) c.args.edition (src (goal.at.returns-in-FillSign c).After-arm_of) c.args.p c.args.c c.args.len (here (goal.at.returns-in-FillSign c).After-arm_of) (chosen (goal.at.returns-in-FillSign c).After-arm_of arm.FillSign c.in-FillSign.is))

pub returns-in-Align : goal.returns-in-Align
returns-in-Align c =
    rw c.align.ensures (turn_align (look (goal.at.returns-in-Align c).After-arm_of) c.args.edition (src (goal.at.returns-in-Align c).After-arm_of) c.args.p c.args.c c.args.len (here (goal.at.returns-in-Align c).After-arm_of) (chosen (goal.at.returns-in-Align c).After-arm_of arm.Align c.in-Align.is))

pub returns-in-ZeroFill : goal.returns-in-ZeroFill
returns-in-ZeroFill c =
    rw c.go_filled.ensures (turn_zero_fill (look (goal.at.returns-in-ZeroFill c).After-arm_of) c.args.edition (src (goal.at.returns-in-ZeroFill c).After-arm_of) c.args.p c.args.c c.args.len (here (goal.at.returns-in-ZeroFill c).After-arm_of) (chosen (goal.at.returns-in-ZeroFill c).After-arm_of arm.ZeroFill c.in-ZeroFill.is))

pub returns-in-MinWidth : goal.returns-in-MinWidth
returns-in-MinWidth c =
    c.take_width.ensures ∙ turn_width (look (goal.at.returns-in-MinWidth c).After-arm_of) c.args.edition (src (goal.at.returns-in-MinWidth c).After-arm_of) c.args.p c.args.c c.args.len (here (goal.at.returns-in-MinWidth c).After-arm_of) (chosen (goal.at.returns-in-MinWidth c).After-arm_of arm.MinWidth c.in-MinWidth.is)

pub returns-in-Precision : goal.returns-in-Precision
returns-in-Precision c =
    rw (c.take_precision.ensures, seen (goal.at.returns-in-Precision c).After-arm_of) (turn_precision (look (goal.at.returns-in-Precision c).After-arm_of) c.args.edition (src (goal.at.returns-in-Precision c).After-arm_of) c.args.p c.args.c c.args.len (here (goal.at.returns-in-Precision c).After-arm_of) (chosen (goal.at.returns-in-Precision c).After-arm_of arm.Precision c.in-Precision.is))

pub returns-in-Represent : goal.returns-in-Represent
returns-in-Represent c =
    rw c.represent.ensures (turn_represent (look (goal.at.returns-in-Represent c).After-arm_of) c.args.edition (src (goal.at.returns-in-Represent c).After-arm_of) c.args.p c.args.c c.args.len (here (goal.at.returns-in-Represent c).After-arm_of) _ (chosen (goal.at.returns-in-Represent c).After-arm_of (arm.Represent _) c.in-Represent.is))

pub returns-in-FillCluster : goal.returns-in-FillCluster
returns-in-FillCluster c =
    rw c.take_cluster.ensures (turn_cluster (look (goal.at.returns-in-FillCluster c).After-arm_of) c.args.edition (src (goal.at.returns-in-FillCluster c).After-arm_of) c.args.p c.args.c c.args.len (here (goal.at.returns-in-FillCluster c).After-arm_of) (chosen (goal.at.returns-in-FillCluster c).After-arm_of arm.FillCluster c.in-FillCluster.is))

pub returns-in-Unexpected : goal.returns-in-Unexpected
returns-in-Unexpected c =
    c.fail.ensures ∙ turn_unexpected (look (goal.at.returns-in-Unexpected c).After-arm_of) c.args.edition (src (goal.at.returns-in-Unexpected c).After-arm_of) c.args.p c.args.c c.args.len (here (goal.at.returns-in-Unexpected c).After-arm_of) (chosen (goal.at.returns-in-Unexpected c).After-arm_of arm.Unexpected c.in-Unexpected.is)
