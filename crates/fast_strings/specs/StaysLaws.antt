-- What stays in the contents of a string is passed by the definitions as one byte and one column.
--     literal_stays     in a literal: printable, but neither its quote nor "{" nor a backslash
--     raw_stays         in a raw string: printable, but not its quote
--     quote_ends, brace_ends     the turn at a literal's quote, and at a brace
-- Assumes nothing.
use Rattle.std.specs.Prelude.{ℕ, ◌<◌, ◌≡◌, refl, true, false, List, eqb, length, get_or, drop}
use Rattle.std.proofs.Common.{sym, ◌∙◌, lt-ltb, eq-eqb, ne_eqb}
use Rattle.base.specs.CasesLaws.{pick_yes, pick_no}
use Rattle.utf8.specs.Encode.{WellFormed}
use Rattle.utf8.specs.Chars.{chars}
use Rattle.property.specs.Table.{properties_at}
use Rattle.fitness.specs.Fit.{FitTable}
use Rattle.text.specs.Bytes.{byte_at}
use Rattle.text.specs.Tests.{backslash, curly_open}
use Rattle.text.specs.Follow.{turn_at}
use Rattle.text.specs.declared.Turn.TheVariants.{Pass, Close}
use Rattle.state.specs.Modes.{quote_of}
use Rattle.newlines.specs.TurnLaws.{printable_at}
use Rattle.strings.specs.ConsumeStringLiteral.{literal_turn}
use Rattle.strings.specs.ConsumeRawString.{raw_turn}
use Rattle.strings.specs.TurnLaws.{literal_at, raw_at}
use Rattle.skip.specs.Skip.{stays_but}
use Rattle.skip.specs.SkipLaws.{stays_is}

-- where a literal ends
module _ (look : ℕ → ℕ) (s : List ℕ) (quote : ℕ) (q : quote < 128) (i : ℕ) (h : i < length s) (w : WellFormed (drop i s)) {b : ℕ} (e : b ≡ byte_at s i) where
  pub quote_ends : b ≡ quote → Close 0 0 ≡ turn_at (literal_turn look quote) (chars (drop i s))
  quote_ends f = sym (literal_at s i w h look quote q ∙ pick_yes _ _ _ _ (eq-eqb (byte_at s i) quote (sym e ∙ f)) refl)

  pub brace_ends : (b ≡ quote → ⊥) → b ≡ curly_open → Close 0 0 ≡ turn_at (literal_turn look quote) (chars (drop i s))
  brace_ends n f =
      sym
      (literal_at s i w h look quote q
      ∙ pick_no _ _ _ _ (ne_eqb (byte_at s i) quote (λ g. n (e ∙ g))) (pick_yes _ _ _ _ (eq-eqb (byte_at s i) curly_open (sym e ∙ f)) refl))

-- what stays
module _ (s table : List ℕ) (fit : FitTable table) where
  pub literal_stays : (quote : ℕ) → quote < 128 → (i : ℕ) → i < length s → WellFormed (drop i s)
      → stays_but quote curly_open backslash (get_or s i 0) ≡ true
      → turn_at (literal_turn (properties_at table) quote) (chars (drop i s)) ≡ Pass 1 1
  literal_stays quote q i h w t =
      let b = get_or s i 0 in
      let e : byte_at s i ≡ b = rw (lt-ltb i (length s) h) in
      let k = stays_is quote curly_open backslash b t in
      let no_quote : eqb (byte_at s i) quote ≡ false = rw e k.no_a in
      let no-brace : eqb (byte_at s i) curly_open ≡ false = rw e k.no_b in
      let no-backslash : eqb (byte_at s i) backslash ≡ false = rw e k.no_c in
      literal_at s i w h (properties_at table) quote q
      ∙ pick_no _ _ _ _ no_quote
      (pick_no _ _ _ _ no-brace (pick_no _ _ _ _ no-backslash (printable_at s i w h table fit b e k.printable)))

  pub raw_stays : (delimiter quote : ℕ) → quote ≡ quote_of delimiter → (i : ℕ) → i < length s → WellFormed (drop i s)
      → stays_but quote quote quote (get_or s i 0) ≡ true → turn_at (raw_turn (properties_at table) delimiter) (chars (drop i s)) ≡ Pass 1 1
  raw_stays delimiter quote q i h w t =
      let b = get_or s i 0 in
      let e : byte_at s i ≡ b = rw (lt-ltb i (length s) h) in
      let k = stays_is quote quote quote b t in
      let no_quote : eqb (byte_at s i) (quote_of delimiter) ≡ false = rw (e, ← q) k.no_a in
      raw_at s i w h (properties_at table) delimiter ∙ pick_no _ _ _ _ no_quote (printable_at s i w h table fit b e k.printable)
