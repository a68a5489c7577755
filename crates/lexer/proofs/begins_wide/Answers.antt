-- `lexer::begins_wide` meets its contract: the character is above ASCII, so it begins a name or a symbol. Assumes nothing.
use mathlib.Core.Path.{refl, sym, ap, ◌∙◌}
use Rattle.property.specs.Parts.{xid_start}
use Rattle.lexer.specs.ArmLaws.{wide, wide_name, wide_symbol}
use Rattle.lexer.proofs.begins_wide.Goals as goal

pub returns-then-is_id_start : goal.returns-then-is_id_start
returns-then-is_id_start c =
    let a = c.char_at-c.ensures in
    record {
      arm = wide_name _ _ _ _ _ a.at (wide _ _ _ _ c.requires.stands.0.well c.requires.stands.1 c.requires.fit_table.1 a.at)
          (ap xid_start (sym a.properties) ∙ sym c.is_id_start.ensures ∙ c.if-is_id_start.true) refl;
      digit = tt;
    }

pub returns : goal.returns
returns c =
    let a = c.char_at-c.ensures in
    record {
      arm = wide_symbol _ _ _ _ _ a.at (wide _ _ _ _ c.requires.stands.0.well c.requires.stands.1 c.requires.fit_table.1 a.at)
          (ap xid_start (sym a.properties) ∙ sym c.is_id_start.ensures ∙ c.if-is_id_start.false) refl;
      digit = tt;
    }
