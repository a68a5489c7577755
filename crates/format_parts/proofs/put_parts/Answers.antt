-- `format_parts::put_parts` meets its contract: five parts, one behind the other. Assumes nothing.
use Prim.Native.Nat.{ℕ, ◌+◌, ◌≤◌}
use mathlib.Core.Path.{◌≡◌, sym, ap, subst, ◌∙◌}
use mathlib.Core.List.{List, ◌++◌}
use lib.ListN.{length}
use Rattle.asked.specs.declared.Fields.{Fields}
use Rattle.pool.specs.Pool.{written}
use Rattle.wanted.specs.Candidate.{width_part}
use Rattle.format_parts.specs.Parts.{parts_of, byte_part}
use Rattle.format_parts.specs.PartsLaws.{parts_by}
use Rattle.format_parts.proofs.Behind.{first_room, second_room, third_room, fourth_room, fifth_room, all_put}
use Rattle.format_parts.proofs.put_parts.Goals as goal
use Rattle.format_parts.proofs.put_parts.Goals.{After-letter_of-letter}

abbrev row₀ : After-letter_of-letter → List ℕ
row₀ l = l.args.row.now

abbrev at₀ : After-letter_of-letter → ℕ
at₀ l = l.args.at

abbrev fields : After-letter_of-letter → Fields
fields l = l.args.fields

-- they are the parts, which have room
whole : (l : After-letter_of-letter)
    → byte_part l.sign_of-sign.result ++ width_part (fields l).width ++ byte_part l.dot_of-dot.result ++ width_part (fields l).precision ++ byte_part l.letter_of-letter.result ≡ parts_of (fields l)
whole l = parts_by (fields l) l.sign_of-sign.result l.dot_of-dot.result l.letter_of-letter.result l.sign_of-sign.ensures l.dot_of-dot.ensures l.letter_of-letter.ensures

room : (l : After-letter_of-letter)
    → at₀ l + length (byte_part l.sign_of-sign.result ++ width_part (fields l).width ++ byte_part l.dot_of-dot.result ++ width_part (fields l).precision ++ byte_part l.letter_of-letter.result) ≤ length (row₀ l)
room l = subst (λ (s : List ℕ). at₀ l + length s ≤ length (row₀ l)) (sym (whole l)) l.requires

pub put_byte-behind_sign-requires : goal.put_byte-behind_sign-requires
put_byte-behind_sign-requires c =
    first_room (row₀ (goal.at.put_byte-behind_sign-requires c).After-letter_of-letter) (at₀ (goal.at.put_byte-behind_sign-requires c).After-letter_of-letter) (byte_part c.sign_of-sign.result) (width_part (fields (goal.at.put_byte-behind_sign-requires c).After-letter_of-letter).width) (byte_part c.dot_of-dot.result) (width_part (fields (goal.at.put_byte-behind_sign-requires c).After-letter_of-letter).precision) (byte_part c.letter_of-letter.result) (room (goal.at.put_byte-behind_sign-requires c).After-letter_of-letter)

pub put_number-behind_width-requires : goal.put_number-behind_width-requires
put_number-behind_width-requires c =
    second_room (row₀ (goal.at.put_number-behind_width-requires c).After-letter_of-letter) (at₀ (goal.at.put_number-behind_width-requires c).After-letter_of-letter) (byte_part c.sign_of-sign.result) (width_part (fields (goal.at.put_number-behind_width-requires c).After-letter_of-letter).width) (byte_part c.dot_of-dot.result) (width_part (fields (goal.at.put_number-behind_width-requires c).After-letter_of-letter).precision) (byte_part c.letter_of-letter.result) (room (goal.at.put_number-behind_width-requires c).After-letter_of-letter) _ _ c.put_byte-behind_sign.ensures

pub put_byte-behind_dot-requires : goal.put_byte-behind_dot-requires
put_byte-behind_dot-requires c =
    third_room (row₀ (goal.at.put_byte-behind_dot-requires c).After-letter_of-letter) (at₀ (goal.at.put_byte-behind_dot-requires c).After-letter_of-letter) (byte_part c.sign_of-sign.result) (width_part (fields (goal.at.put_byte-behind_dot-requires c).After-letter_of-letter).width) (byte_part c.dot_of-dot.result) (width_part (fields (goal.at.put_byte-behind_dot-requires c).After-letter_of-letter).precision) (byte_part c.letter_of-letter.result) (room (goal.at.put_byte-behind_dot-requires c).After-letter_of-letter) _ _ c.put_byte-behind_sign.ensures _ _ c.put_number-behind_width.ensures

pub put_number-behind_precision-requires : goal.put_number-behind_precision-requires
put_number-behind_precision-requires c =
    fourth_room (row₀ (goal.at.put_number-behind_precision-requires c).After-letter_of-letter) (at₀ (goal.at.put_number-behind_precision-requires c).After-letter_of-letter) (byte_part c.sign_of-sign.result) (width_part (fields (goal.at.put_number-behind_precision-requires c).After-letter_of-letter).width) (byte_part c.dot_of-dot.result) (width_part (fields (goal.at.put_number-behind_precision-requires c).After-letter_of-letter).precision) (byte_part c.letter_of-letter.result) (room (goal.at.put_number-behind_precision-requires c).After-letter_of-letter) _ _ c.put_byte-behind_sign.ensures _ _ c.put_number-behind_width.ensures _ _ c.put_byte-behind_dot.ensures

pub put_byte-requires : goal.put_byte-requires
put_byte-requires c =
    fifth_room (row₀ (goal.at.put_byte-requires c).After-letter_of-letter) (at₀ (goal.at.put_byte-requires c).After-letter_of-letter) (byte_part c.sign_of-sign.result) (width_part (fields (goal.at.put_byte-requires c).After-letter_of-letter).width) (byte_part c.dot_of-dot.result) (width_part (fields (goal.at.put_byte-requires c).After-letter_of-letter).precision) (byte_part c.letter_of-letter.result) (room (goal.at.put_byte-requires c).After-letter_of-letter) _ _ c.put_byte-behind_sign.ensures _ _ c.put_number-behind_width.ensures _ _ c.put_byte-behind_dot.ensures _ _ c.put_number-behind_precision.ensures

pub returns : goal.returns
returns c =
    let v = all_put (row₀ (goal.at.returns c).After-letter_of-letter) (at₀ (goal.at.returns c).After-letter_of-letter) (byte_part c.sign_of-sign.result) (width_part (fields (goal.at.returns c).After-letter_of-letter).width) (byte_part c.dot_of-dot.result) (width_part (fields (goal.at.returns c).After-letter_of-letter).precision) (byte_part c.letter_of-letter.result) (room (goal.at.returns c).After-letter_of-letter) _ _ c.put_byte-behind_sign.ensures _ _ c.put_number-behind_width.ensures _ _ c.put_byte-behind_dot.ensures _ _ c.put_number-behind_precision.ensures _ _ c.put_byte.ensures in
    (v.0 ∙ ap (λ (s : List ℕ). at₀ (goal.at.returns c).After-letter_of-letter + length s) (whole (goal.at.returns c).After-letter_of-letter), v.1 ∙ ap (λ (s : List ℕ). written (row₀ (goal.at.returns c).After-letter_of-letter) (at₀ (goal.at.returns c).After-letter_of-letter) s) (whole (goal.at.returns c).After-letter_of-letter))
