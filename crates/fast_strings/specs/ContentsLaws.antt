-- The contents of a literal that are passed at once.
--     ends_there       the turn where a literal ends, at its quote or a brace
--     contents_to      the token up to there
-- Assumes nothing.
use Rattle.std.specs.Prelude.{ℕ, ◌-◌, ◌<◌, ◌≡◌, Bool, true, false, ◌||◌, List, eqb, length, drop}
use Rattle.std.proofs.Common.{arith, ◌∙◌, ne_eqb, le-ltb}
use Rattle.std.proofs.Math.Path.{refl, sym, ap, subst}
use Rattle.base.specs.Pick.{pick}
use Rattle.base.specs.PickLaws.{split_lt}
use Rattle.position.specs.Place.{along_by}
use Rattle.utf8.specs.Encode.{WellFormed}
use Rattle.utf8.specs.Chars.{chars}
use Rattle.property.specs.Table.{properties_at}
use Rattle.fitness.specs.Fit.{FitTable}
use Rattle.token.specs.Kind.{string_literal}
use Rattle.text.specs.Bytes.{byte_at}
use Rattle.text.specs.Tests.{backslash, curly_open}
use Rattle.text.specs.Follow.{turn_at}
use Rattle.text.specs.FollowLaws.{begins, closes}
use Rattle.text.specs.Stands.{Stands, Going, chars_from}
use Rattle.text.specs.declared.Turn.TheVariants.{Close}
use Rattle.state.specs.Lexer.{reach_of}
use Rattle.state.specs.declared.Change.TheVariants.{Keep}
use Rattle.state.specs.declared.Lexer.{Lexer}
use Rattle.strings.specs.ConsumeStringLiteral.{literal_turn, literal_token, consume_string_literal}
use Rattle.strings.specs.SafeLaws.{literal_safe}
use Rattle.strings.specs.TurnLaws.{literal_at}
use Rattle.skip.specs.Skip.{stays_but, Passed}
use Rattle.skip.specs.PastLaws.{along_none, past_end, past_from, past_going}
use Rattle.plain.specs.Plain.{plain_taken}
use Rattle.fast_strings.specs.StaysLaws.{literal_stays}

-- one of two tests decides alike
either : {A : Type 0} (s t : Bool) (a b : A) → (s || t) ≡ true → pick s a (pick t a b) ≡ a
either true t a b e = refl
either false true a b e = refl
either false false a b e = absurd (let z : ◌≡◌ {A = ℕ} 0 1 = cc in omega arith)

-- the literal ends at i
abbrev pub ends_at : List ℕ → ℕ → ℕ → Bool
ends_at s quote i = eqb (byte_at s i) quote || eqb (byte_at s i) curly_open

module _ (s : List ℕ) (quote : ℕ) (q : quote < 128) (i : ℕ) (e : ends_at s quote i ≡ true) where
  within : i < length s
  within =
      split_lt i (length s) (λ h. h)
      (λ h. let b : byte_at s i ≡ 256 = rw (le-ltb i (length s) h) in
      let f : false ≡ true = rw (b, ne_eqb 256 quote (λ x. omega arith)) at e in
      let z : ◌≡◌ {A = ℕ} 0 1 = cc in absurd (omega arith))

  pub ends_there : (look : ℕ → ℕ) → WellFormed (drop i s) → Close 0 0 ≡ turn_at (literal_turn look quote) (chars (drop i s))
  ends_there look w = sym (literal_at s i w within look quote q ∙ either (eqb (byte_at s i) quote) (eqb (byte_at s i) curly_open) _ _ e)

module _ (s : List ℕ) (l : Lexer) (quote end : ℕ) (o : Stands s (reach_of l)) (q : quote < 128)
    (p : Passed (stays_but quote curly_open backslash) s (reach_of l).byte.0 end) (e : ends_at s quote end ≡ true) where
  -- its bytes, which are its columns
  abbrev pub size : ℕ
  size = end - (reach_of l).byte.0

  pub contents_to : (table : List ℕ) → FitTable table
      → consume_string_literal (properties_at table) quote (chars_from s (reach_of l)) l ≡ plain_taken Keep string_literal size l
  unfolding consume_string_literal
  contents_to table fit =
      let turn = literal_turn (properties_at table) quote in
      let to = along_by size size (reach_of l) in
      let safe = literal_safe (properties_at table) quote s q in
      let j : to.byte.0 ≡ end = sym (past_end (reach_of l) p refl) in
      let g : Going turn s (reach_of l) to end =
      subst (Going turn s (reach_of l) to) j (past_going safe _ (literal_stays s table fit quote q) (begins o) (past_from p refl)) in
      let w = subst (λ (k : ℕ). WellFormed (drop k s)) j g.stands.well in
      ap (literal_token l) (closes safe g (within s quote q end e) (ends_there s quote q end e (properties_at table) w) {q = to} refl (along_none to)).0
