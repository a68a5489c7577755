-- What is found of the token at the lexer's place.
--     code_short      a plain token that is found outside a string is no longer than a source
--     found_plain     by its parts it is found too
--     found_blank     at a space it is whitespace
-- Assumes nothing.
use Rattle.std.specs.Prelude.{ℕ, ◌≤◌, ◌<◌, ◌≡◌, false, List, eqb, length, get_or}
use Rattle.std.proofs.Common.{arith, sym, ap, subst, ◌∙◌}
use Rattle.base.specs.Range.{inside}
use Rattle.base.specs.Refusal.{source_most}
use Rattle.property.specs.Table.{properties_at}
use Rattle.fitness.specs.Small.{small_table}
use Rattle.fitness.specs.SmallLaws.{small_is_fit}
use Rattle.token.specs.Kind.{error}
use Rattle.text.specs.Tests.{is_whitespace, is_line_end}
use Rattle.text.specs.Stands.{Stands, chars_from}
use Rattle.state.specs.Lexer.{reach_of}
use Rattle.state.specs.declared.Change.TheVariants.{Keep}
use Rattle.state.specs.declared.Lexer.{Lexer}
use Rattle.state.specs.declared.Taken.{Taken}
use Rattle.numbers.specs.ConsumeWhitespace.{consume_whitespace}
use Rattle.lexer.specs.Fine.{Fine}
use Rattle.lexer.specs.GetNextToken.{in_code}
use Rattle.lexer.specs.NextLaws.{next_ascii}
use Rattle.lexer.specs.ArmLaws.{take_code}
use Rattle.stepping.specs.FineLaws.{take_goes}
use Rattle.actions.specs.Actions.{action_of}
use Rattle.actions.specs.ActionsLaws.{in_code_by}
use Rattle.found.specs.Found.{Finds, found_along}
use Rattle.found.specs.FoundLaws.{finds_same, finds_along}
use Rattle.found.specs.declared.Found.{Found}
use Rattle.plain.specs.declared.Plain.{Plain}
use Rattle.plain_code.specs.PlainCode.{CodeFinds}
use Rattle.short.specs.ShortLaws.{byte_there}
use Rattle.plain_step.specs.PlainStep.{CodeMode, FoundInCode}

module _ (s : List ℕ) (l : Lexer) (o : Stands s (reach_of l)) (h : (reach_of l).byte.0 < length s) where
  pub code_short : CodeMode l.mode → {p : Plain} → CodeFinds s l p → eqb p.kind error ≡ false → p.len ≤ source_most
  code_short m f n =
      let e = take_code (properties_at small_table) 1 (chars_from s (reach_of l)) l m.no_literal m.no_format m.no_start m.no_end in
      let g = (take_goes s l o h small_table 1 small_is_fit (λ q. absurd (m.no_end q))).fine in
      let q = subst (λ (t : Taken). Fine s t.lexer) (e ∙ (f small_table small_is_fit).is n) g in
      omega (arith, q.inside, q.small)

  pub found_plain : {p : Plain} {f : Found} → CodeFinds s l p → eqb p.kind error ≡ false → f ≡ found_along p.kind 0 p.len Keep l → FoundInCode s l f
  found_plain {p} g n e table fit = finds_along p.kind 0 p.len Keep e ((g table fit).is n)

  pub found_blank : get_or s (reach_of l).byte.0 0 ≡ 32 → {f : Found} → Finds (consume_whitespace (chars_from s (reach_of l)) l) l f → FoundInCode s l f
  unfolding action_of is_whitespace is_line_end inside
  found_blank e g table fit =
      let i = (reach_of l).byte.0 in
      let cs = chars_from s (reach_of l) in
      finds_same
      (sym
      (ap (λ (c : ℕ). in_code (properties_at table) c cs l) (next_ascii s i 32 (byte_there s i h ∙ e) (omega arith)) ∙ in_code_by table fit 32 (omega arith) cs l))
      g
