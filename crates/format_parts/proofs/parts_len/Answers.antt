-- `format_parts::parts_len` meets its contract: the parts are as long as each of them. Assumes nothing.
use Rattle.std.specs.Prelude.{Option}
use Prim.Native.Nat.{ℕ}
use native.Mathlib.Omega.{arith}
use mathlib.Core.Path.{ap, ◌∙◌}
use lib.ListN.{length}
use Rattle.format_parts.specs.Parts.{byte_part}
use Rattle.format_parts.specs.PartsLaws.{length_parts}
use Rattle.format_parts.proofs.parts_len.Goals as goal

pub returns : goal.returns
returns c =
    let lens : Option ℕ → ℕ = λ x. length (byte_part x) in (
      omega (
        arith,
        c.byte_len-sign.ensures.0 ∙ ap lens c.sign_of.ensures,
        c.byte_len-dot.ensures.0 ∙ ap lens c.dot_of.ensures,
        c.byte_len-letter.ensures.0 ∙ ap lens c.letter_of.ensures,
        c.number_len.ensures.0,
        c.number_len-2.ensures.0,
        length_parts c.args.fields,
      ),
      omega (arith, c.byte_len-sign.ensures.1, c.byte_len-dot.ensures.1, c.byte_len-letter.ensures.1, c.number_len.ensures.1, c.number_len-2.ensures.1),
    )
