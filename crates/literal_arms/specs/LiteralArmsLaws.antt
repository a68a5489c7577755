-- lexer.rs `get_next_token`, where the mode on top is that of a literal or of format options: the token that it takes from the lexer l, by its first byte
-- and by what the leaves of the second engine find.
--     takes_quote, takes_brace     a literal's end, and the start of a template
--     takes_contents               a literal's contents
--     takes_options                format options
-- Assumes nothing.
use Rattle.std.specs.Prelude.{ℕ, ◌<◌, ◌≡◌, List, eqb, length, drop}
use Rattle.std.proofs.Common.{arith, sym, ◌∙◌, eq-eqb, ne_eqb}
use Rattle.utf8.specs.Encode.{WellFormed}
use Rattle.property.specs.Table.{properties_at}
use Rattle.fitness.specs.Fit.{FitTable}
use Rattle.token.specs.Kind.{string_end, curly_open}
use Rattle.text.specs.Bytes.{byte_at}
use Rattle.text.specs.Tests as char
use Rattle.text.specs.Stands.{chars_from}
use Rattle.state.specs.Modes.{literal, template_expr, template_expr_format, mode_code, tag_of, delimiter_of, quote_of}
use Rattle.state.specs.Lexer.{reach_of}
use Rattle.state.specs.declared.Change.TheVariants.{Keep, Push, Pop}
use Rattle.state.specs.declared.Lexer.{Lexer}
use Rattle.state.specs.declared.Taken.{Taken}
use Rattle.lexer.specs.GetNextToken.{next_char, take_token}
use Rattle.lexer.specs.NextLaws.{next_test}
use Rattle.lexer.specs.ArmLaws.{literal_end, literal_brace, literal_rest, take_literal, take_format, quote_small}
use Rattle.plain.specs.Plain.{plain_taken, FindsPlain}
use Rattle.plain.specs.PlainLaws.{plain_same}
use Rattle.plain.specs.declared.Plain.{Plain}
use Rattle.fast_strings.specs.Contents.{FindsContents}
use Rattle.fast_options.specs.FormatOptions.{FindsOptions}

module _ (s table : List ℕ) (edition : ℕ) (l : Lexer) where
  abbrev pub taken : Taken
  taken = take_token (properties_at table) edition (chars_from s (reach_of l)) l

  module _ (m : tag_of l.mode ≡ literal) (h : (reach_of l).byte.0 < length s) (w : WellFormed (drop (reach_of l).byte.0 s)) where
    abbrev at : ℕ
    at = (reach_of l).byte.0

    abbrev pub quote : ℕ
    quote = quote_of (delimiter_of l.mode)

    is_quote : eqb (next_char (chars_from s (reach_of l))) quote ≡ eqb (byte_at s at) quote
    is_quote = next_test s at w h quote (quote_small (delimiter_of l.mode))

    is_brace : eqb (next_char (chars_from s (reach_of l))) char.curly_open ≡ eqb (byte_at s at) char.curly_open
    is_brace = next_test s at w h char.curly_open (omega arith)

    pub takes_quote : byte_at s at ≡ quote → taken ≡ plain_taken Pop string_end 1 l
    takes_quote e =
        take_literal _ edition _ l m
        ∙ literal_end _ quote _ _ l (is_quote ∙ eq-eqb (byte_at s at) quote e)

    module _ (n : byte_at s at ≡ quote → ⊥) where
      pub takes_brace : byte_at s at ≡ char.curly_open → taken ≡ plain_taken (Push (mode_code template_expr 0)) curly_open 1 l
      takes_brace e =
          take_literal _ edition _ l m
          ∙ literal_brace _ quote _ _ l (is_quote ∙ ne_eqb (byte_at s at) quote n)
          (is_brace ∙ eq-eqb (byte_at s at) char.curly_open e)

      pub takes_contents : (byte_at s at ≡ char.curly_open → ⊥) → FitTable table → {p : Plain} → FindsContents s quote l p → FindsPlain Keep taken l p
      takes_contents o fit f =
          plain_same
          (sym
          (take_literal _ edition _ l m
          ∙ literal_rest _ quote _ _ l (is_quote ∙ ne_eqb (byte_at s at) quote n)
          (is_brace ∙ ne_eqb (byte_at s at) char.curly_open o)))
          (f table fit)

  pub takes_options : tag_of l.mode ≡ template_expr_format → FitTable table → {p : Plain} → FindsOptions s l p → FindsPlain Pop taken l p
  takes_options m fit f = plain_same (sym (take_format _ edition _ l m)) (f table fit edition)
