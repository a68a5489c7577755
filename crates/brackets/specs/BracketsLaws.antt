-- The tokens of one byte that change the modes, by the byte at the lexer's place.
--     arm_of_lem                         the arm of `get_next_token` that an ASCII byte decides
--     opens_none, closes_none        nothing is told
--     opens_string                   a quote
--     opens_in_template, closes_in   a symbol of a template
-- Assumes nothing.
use Rattle.std.specs.Prelude.{ℕ, ◌+◌, ◌<◌, ◌≡◌, refl, Bool, true, false, List, ◌∷◌, eqb, length, get_or, drop, Some}
use Rattle.std.proofs.Common.{arith, sym, ap, subst, ◌∙◌, lt-ltb}
use Rattle.property.specs.Table.{properties_at}
use Rattle.fitness.specs.Fit.{FitTable}
use Rattle.token.specs.Kind.{error, string_start, curly_close}
use Rattle.token.specs.Token.{token_of}
use Rattle.symbols.specs.Symbols.{symbol_of, symbol}
use Rattle.text.specs.Bytes.{byte_at}
use Rattle.text.specs.Stands.{Stands, chars_from}
use Rattle.state.specs.Lexer.{reach_of}
use Rattle.state.specs.declared.Change.{Change}
use Rattle.state.specs.declared.Change.TheVariants.{Push, Pop}
use Rattle.state.specs.declared.Lexer.{Lexer}
use Rattle.symbol_tokens.specs.ConsumeSymbol.{symbol_change}
use Rattle.lexer.specs.GetNextToken.{one_byte, in_code}
use Rattle.lexer.specs.NextLaws.{next_ascii}
use Rattle.actions.specs.Actions.{action_of, arm}
use Rattle.actions.specs.ActionsLaws.{in_code_by}
use Rattle.found.specs.Found.{found_along}
use Rattle.signs.specs.SignsLaws.{finds_sign_at}
use Rattle.brackets.specs.Brackets.{code_taken, OpensIs, ClosesIs}
use Rattle.brackets.specs.declared.Opening.{Opening}

no_two : {A : Type 0} → true ≡ false → A
no_two e = let z : ◌≡◌ {A = ℕ} 0 1 = cc in absurd (omega arith)

pub opens_none : {s table : List ℕ} {l : Lexer} {o : Opening} → o.token.kind ≡ error → OpensIs s table l o
opens_none e = record { is = λ n. no_two (ap (λ (k : ℕ). eqb k error) (sym e) ∙ n) }

pub closes_none : {s table : List ℕ} {l : Lexer} → ClosesIs s table l false
closes_none = record { is = λ n. no_two (sym n) }

module _ (s table : List ℕ) (fit : FitTable table) (l : Lexer) (o : Stands s (reach_of l)) (h : (reach_of l).byte.0 < length s) where
  -- the arm of an ASCII byte, by the number of its action
  pub arm_of_lem : (b n : ℕ) → b < 128 → action_of b ≡ n → get_or s (reach_of l).byte.0 0 ≡ b
      → code_taken s table l ≡ arm (properties_at table) (chars_from s (reach_of l)) l n
  arm_of_lem b n k a e =
      let g : byte_at s (reach_of l).byte.0 ≡ b = rw (lt-ltb (reach_of l).byte.0 (length s) h) e in
      ap (λ (c : ℕ). in_code (properties_at table) c (chars_from s (reach_of l)) l) (next_ascii s (reach_of l).byte.0 b g k)
      ∙ in_code_by table fit b k (chars_from s (reach_of l)) l
      ∙ ap (arm (properties_at table) (chars_from s (reach_of l)) l) a

  -- a symbol of one byte
  sign_of : (b kind : ℕ) (change : Change) → b < 128 → action_of b ≡ 8 → get_or s (reach_of l).byte.0 0 ≡ b → eqb kind error ≡ false
      → symbol_of (b ∷ drop ((reach_of l).byte.0 + 1) s) ≡ Some (symbol kind 1) → symbol_change l.mode kind ≡ change
      → code_taken s table l ≡ one_byte (token_of kind) change l
  sign_of b kind change k a e n is c =
      let g : byte_at s (reach_of l).byte.0 ≡ b = rw (lt-ltb (reach_of l).byte.0 (length s) h) e in
      arm_of_lem b 8 k a e ∙ (finds_sign_at s l o {f = found_along kind 0 1 change l} b kind 1 change g k refl is c).is n

  pub opens_string : {r : Opening} (b n delimiter code : ℕ) → b < 128 → action_of b ≡ n
      → arm (properties_at table) (chars_from s (reach_of l)) l n ≡ one_byte (record { kind = string_start; detail = delimiter }) (Push code) l
      → get_or s (reach_of l).byte.0 0 ≡ b → r ≡ record { token = record { kind = string_start; detail = delimiter }; code = code } → OpensIs s table l r
  opens_string b n delimiter code k a d e q = subst (OpensIs s table l) (sym q) (record { is = λ _. arm_of_lem b n k a e ∙ d })

  pub opens_in_template : {r : Opening} (b kind code : ℕ) → b < 128 → action_of b ≡ 8 → get_or s (reach_of l).byte.0 0 ≡ b
      → symbol_of (b ∷ drop ((reach_of l).byte.0 + 1) s) ≡ Some (symbol kind 1) → symbol_change l.mode kind ≡ Push code
      → r ≡ record { token = token_of kind; code = code } → OpensIs s table l r
  opens_in_template b kind code k a e is c q =
      subst (OpensIs s table l) (sym q) (record { is = λ n. sign_of b kind (Push code) k a e n is c })

  pub closes_in : (b : ℕ) → b < 128 → action_of b ≡ 8 → get_or s (reach_of l).byte.0 0 ≡ b
      → symbol_of (b ∷ drop ((reach_of l).byte.0 + 1) s) ≡ Some (symbol curly_close 1) → symbol_change l.mode curly_close ≡ Pop → {yes : Bool} → ClosesIs s table l yes
  closes_in b k a e is c = record { is = λ _. sign_of b curly_close Pop k a e refl is c }
