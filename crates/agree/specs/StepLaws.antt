-- C-14, of the read step: look-ups that agree on the code points that are left take the same step.
--     take_agrees     one token
--     step_agrees     the step of both halves
-- Assumes nothing.
use Rattle.std.specs.Prelude.{ℕ, ◌≡◌, refl, List, [], ◌∷◌, eqb}
use Rattle.base.specs.Pick.{pick}
use Rattle.property.specs.Parts.{xid_start}
use Rattle.cluster.specs.FirstLaws.{Agree}
use Rattle.token.specs.Kind.{string_end, curly_open}
use Rattle.text.specs.Tests.{is_whitespace, is_digit, is_line_end}
use Rattle.text.specs.Tests as char
use Rattle.state.specs.Modes.{literal, template_expr, template_expr_format, raw_start, raw_end, mode_code, tag_of, delimiter_of, quote_of}
use Rattle.token.specs.Token.{token_of}
use Rattle.state.specs.Lexer.{settled}
use Rattle.state.specs.declared.Change.TheVariants.{Push, Pop}
use Rattle.state.specs.declared.Lexer.{Lexer}
use Rattle.state.specs.declared.State.{State}
use Rattle.newlines.specs.ConsumeNewline.{consume_newline}
use Rattle.strings.specs.ConsumeRawString.{consume_raw_string_end}
use Rattle.numbers.specs.ConsumeNumber.{consume_number}
use Rattle.numbers.specs.ConsumeWhitespace.{consume_whitespace}
use Rattle.symbol_tokens.specs.ConsumeSymbol.{consume_symbol}
use Rattle.lexer.specs.GetNextToken.{one_byte, start_string, in_literal, in_code, take_token, remaining_at}
use Rattle.lexer.specs.Step.{half_of, half_at, half, joined, step}
use Rattle.agree.specs.TokenLaws.{comment_agrees, literal_agrees, raw_agrees, options_agrees, id_or_keyword_agrees, ignored_agrees}

module _ (f g : ℕ → ℕ) where
  in_literal_agrees : (quote c : ℕ) (cs : List ℕ) (l : Lexer) → Agree f g cs → in_literal f quote c cs l ≡ in_literal g quote c cs l
  unfolding in_literal
  in_literal_agrees quote c cs l a =
      λ i. pick (eqb c quote) (one_byte (token_of string_end) Pop l)
      (pick (eqb c char.curly_open) (one_byte (token_of curly_open) (Push (mode_code template_expr 0)) l)
      (literal_agrees f g quote cs l a i))

  in_code_agrees : (c : ℕ) (cs : List ℕ) (l : Lexer) → Agree f g (c ∷ cs) → in_code f c (c ∷ cs) l ≡ in_code g c (c ∷ cs) l
  unfolding in_code
  in_code_agrees c cs l a =
      λ i. pick (is_whitespace c) (consume_whitespace (c ∷ cs) l)
      (pick (is_line_end c) (consume_newline (c ∷ cs) l)
      (pick (eqb c char.hash) (comment_agrees f g c cs l a.1 i)
      (pick (eqb c char.double_quote) (start_string 0 l)
      (pick (eqb c char.single_quote) (start_string 1 l)
      (pick (is_digit c) (consume_number (c ∷ cs) l)
      (pick (xid_start (a.0 i)) (id_or_keyword_agrees f g c cs l a.1 i)
      (pick (eqb c char.underscore) (ignored_agrees f g c cs l a.1 i)
      (consume_symbol (c ∷ cs) l))))))))

  module _ (edition : ℕ) where
    pub take_agrees : (c : ℕ) (cs : List ℕ) (l : Lexer) → Agree f g (c ∷ cs) → take_token f edition (c ∷ cs) l ≡ take_token g edition (c ∷ cs) l
    unfolding take_token
    take_agrees c cs l a =
        λ i. pick (eqb (tag_of l.mode) literal) (in_literal_agrees (quote_of (delimiter_of l.mode)) c (c ∷ cs) l a i)
        (pick (eqb (tag_of l.mode) raw_start) (raw_agrees f g (delimiter_of l.mode) (c ∷ cs) l a i)
        (pick (eqb (tag_of l.mode) raw_end) (consume_raw_string_end (delimiter_of l.mode) l)
        (pick (eqb (tag_of l.mode) template_expr_format) (options_agrees f g edition (c ∷ cs) l a i)
        (in_code_agrees c cs l a i))))

    half_agrees : (cs : List ℕ) (l : Lexer) → Agree f g cs → half_at f edition cs l ≡ half_at g edition cs l
    half_agrees [] l a = refl
    half_agrees (c ∷ cs) l a = λ i. half_of l (take_agrees c cs (settled l) a i)

    pub step_agrees : (s : List ℕ) (st : State) → Agree f g (remaining_at s st.lexer.place.current_byte.0)
        → step f edition s st ≡ step g edition s st
    unfolding step half
    step_agrees s st a =
        λ i. joined st (half_agrees (remaining_at s st.lexer.place.current_byte.0) st.lexer a i)
