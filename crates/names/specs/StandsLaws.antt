-- Where the definitions of names lead, whatever code there is: the reach after the token stands in the source again, and at least one byte
-- further on.
--     id_or_keyword_goes, ignored_goes
-- Assumes nothing.
use Rattle.std.specs.Prelude.{ℕ, ◌+◌, ◌-◌, ◌<◌, ◌≡◌, refl, true, List, [], ◌∷◌, ltb, eqb, length, take, drop, Option, Some, None}
use Rattle.std.proofs.Common.{arith, sym, subst, ltb-true}
use Rattle.std.proofs.Math.Bool.{and-eq-true_iff}
use Rattle.base.specs.PickLaws.{by_test, by_eq}
use Rattle.position.specs.declared.Reach.{Reach}
use Rattle.utf8.specs.Chars.{chars}
use Rattle.words.specs.Words.{is_word, starts_with, else_word, else_if_word, r_word}
use Rattle.keywords.specs.Keywords.{keyword_of}
use Rattle.token.specs.Kind.{id, dot}
use Rattle.words.specs.WordsLaws.{ascii}
use Rattle.text.specs.Bytes.{byte_at}
use Rattle.text.specs.Tests.{double_quote, single_quote, is_hash}
use Rattle.text.specs.CountLaws.{hash_ascii}
use Rattle.text.specs.Stands.{Stands, chars_from}
use Rattle.state.specs.Modes.{hash_count_of}
use Rattle.state.specs.Lexer.{reach_of}
use Rattle.state.specs.declared.Lexer.{Lexer}
use Rattle.state.specs.declared.Taken.{Taken}
use Rattle.numbers.specs.Places.{PlaceIn, GoesOn}
use Rattle.numbers.specs.PlaceLaws.{place_of_lem, next_place, run_place, run_end}
use Rattle.numbers.specs.StandsLaws.{along_goes}
use Rattle.names.specs.ConsumeIdOrKeyword.{name_end, remaining, name_bytes, parse_raw_string_start, keyword_or_id, raw_or_name, name_token, consume_id_or_keyword, consume_ignored}
use Rattle.names.specs.NameLaws.{raw_start_at, end_goes, name_token_at, raw_opens, raw_not, r_stands, word_starts, starts_next}

-- an ASCII word that stands at a place ends at one
word_place : (w : List ℕ) {s : List ℕ} {i : ℕ} → PlaceIn s i → ascii w ≡ true → starts_with w (drop i s) ≡ true → PlaceIn s (i + length w)
word_place [] {s} {i} p a e = subst (PlaceIn s) (omega arith) p
word_place (c ∷ w) {s} {i} p a e =
    let both = (and-eq-true_iff (ltb c 128) (ascii w)).0 a in
    let next = starts_next c w s i e in
    let q = word_place w (next_place p (omega (arith, next.0, ltb-true c 128 both.0))) both.1 next.1 in
    subst (PlaceIn s) (omega arith) q

-- the quote that opens a raw string ends at a place
abbrev Opened : List ℕ → ℕ → Option ℕ → Type 0
Opened s i (Some delimiter) = PlaceIn s (i + (1 + hash_count_of delimiter))
Opened s i None = Unit {0}

opened : {s : List ℕ} {i : ℕ} → PlaceIn s i → Opened s i (parse_raw_string_start (chars (drop i s)))
opened {s} {i} p =
    let j = run_end is_hash s i in
    let quote : byte_at s j < 128 → PlaceIn s (j + 1) = next_place (run_place p hash_ascii) in
    subst (Opened s i) (sym (raw_start_at p refl))
    (by_test (Opened s i) (ltb 255 (j - i)) (λ _. tt)
    (λ _. by_eq (Opened s i) (byte_at s j) double_quote (λ e. subst (PlaceIn s) (omega arith) (quote (omega arith)))
    (λ _. by_eq (Opened s i) (byte_at s j) single_quote (λ e. subst (PlaceIn s) (omega arith) (quote (omega arith))) (λ _. tt))))

module _ (s : List ℕ) (l : Lexer) (end : Reach) (o : Stands s (reach_of l)) (g : GoesOn s (reach_of l) end) where
  -- the token leads on
  abbrev Leads : Taken → Type 0
  Leads t = GoesOn s (reach_of l) (reach_of t.lexer)

  keyword_leads : Leads (keyword_or_id (chars_from s (reach_of l)) end l)
  unfolding keyword_or_id
  keyword_leads =
      let kind = keyword_of (take (name_bytes l end) (remaining (chars_from s (reach_of l)))) in
      by_test Leads (eqb l.previous_token dot) (λ _. g)
      (λ _. by_test Leads (eqb kind id) (λ _. g)
      (λ _. along_goes (name_bytes l end) o (subst (PlaceIn s) (omega (arith, g.on)) (place_of_lem g.stands)) (omega (arith, g.on))))

  raw_leads : byte_at s (reach_of l).byte.0 ≡ 114 → Leads (raw_or_name (chars_from s (reach_of l)) end l)
  raw_leads h = go (parse_raw_string_start (chars (drop ((reach_of l).byte.0 + 1) s))) refl (opened (next_place (place_of_lem o) (omega arith)))
    where
      go : (raw : Option ℕ) → raw ≡ parse_raw_string_start (chars (drop ((reach_of l).byte.0 + 1) s)) → Opened s ((reach_of l).byte.0 + 1) raw
          → Leads (raw_or_name (chars_from s (reach_of l)) end l)
      go (Some delimiter) k p =
          subst Leads (sym (raw_opens s l end o (reach_of l) refl h k refl))
          (along_goes (2 + hash_count_of delimiter) o (subst (PlaceIn s) (omega arith) p) (omega arith))
      go None k p = subst Leads (sym (raw_not s l end o (reach_of l) refl h k refl)) keyword_leads

  name_leads : Leads (name_token (chars_from s (reach_of l)) end l)
  name_leads =
      let left = drop (reach_of l).byte.0 s in
      let name = take (name_bytes l end) left in
      subst Leads (sym (name_token_at s l end o (reach_of l) refl))
      (by_test Leads (is_word else_word name)
      (λ e. by_test Leads (starts_with else_if_word left) (λ f. along_goes 7 o (word_place else_if_word (place_of_lem o) refl f) (omega arith))
      (λ _. along_goes 4 o (word_place else_word (place_of_lem o) refl (word_starts else_word left (name_bytes l end) e)) (omega arith)))
      (λ _. by_test Leads (is_word r_word name) (λ e. raw_leads (r_stands g refl e)) (λ _. keyword_leads)))

module _ (look : ℕ → ℕ) (s : List ℕ) (l : Lexer) (o : Stands s (reach_of l)) (h : (reach_of l).byte.0 < length s) where
  pub id_or_keyword_goes : GoesOn s (reach_of l) (reach_of (consume_id_or_keyword look (chars_from s (reach_of l)) l).lexer)
  unfolding name_end
  id_or_keyword_goes = name_leads s l (name_end look (chars_from s (reach_of l)) l) o (end_goes look s l (λ cs. name_end look cs l) (λ c cs. search refl) o h)

  pub ignored_goes : GoesOn s (reach_of l) (reach_of (consume_ignored look (chars_from s (reach_of l)) l).lexer)
  unfolding name_end
  ignored_goes = end_goes look s l (λ cs. name_end look cs l) (λ c cs. search refl) o h
