-- Format options that begin with three ASCII characters which stand apart.
--     Apart, apart_by     they stand at a place of the source, and the test of it
--     skip_at             what is passed of them before the brace is searched for; lands: a character begins there
--     options_to          the token, by the brace that is found from there on; brace_on: it stands behind where they begin
--     options_short       a plain token that is found ends in the source
-- Assumes nothing.
use Rattle.std.specs.Prelude.{ℕ, ◌+◌, ◌≤◌, ◌<◌, ◌≡◌, Bool, true, false, not, ◌&&◌, List, ◌∷◌, eqb, ltb, get_or, take, drop, Option, Some}
use Rattle.std.proofs.Common.{arith, sym, subst, ◌∙◌, ltb-true}
use Rattle.std.proofs.Math.Path.{ap}
use Rattle.std.proofs.Math.ListN.{length}
use Rattle.std.proofs.lemmas.Bool.{eqb-false, not-true}
use Rattle.base.specs.Pick.{pick}
use Rattle.base.specs.AllLaws.{and_left, and_right}
use Rattle.base.specs.Refusal.{source_most}
use Rattle.utf8.specs.Encode.{encode_all, WellFormed}
use Rattle.utf8.specs.EncodeLaws.{encode1}
use Rattle.utf8.specs.Chars.{chars}
use Rattle.utf8.specs.CharsLaws.{chars_at, ascii_at}
use Rattle.property.specs.Table.{properties_at}
use Rattle.fitness.specs.Fit.{FitTable}
use Rattle.fitness.specs.Small.{small_table}
use Rattle.fitness.specs.SmallLaws.{small_is_fit}
use Rattle.cluster.specs.First.{first_size, first_end}
use Rattle.token.specs.Kind.{error}
use Rattle.text.specs.Tests.{cr, less, caret, greater}
use Rattle.text.specs.Stands.{Stands, chars_from}
use Rattle.state.specs.Lexer.{reach_of}
use Rattle.state.specs.declared.Lexer.{Lexer}
use Rattle.state.specs.declared.Taken.{Taken}
use Rattle.options.specs.ConsumeFormatOptions.{is_aligned, skip_bytes, find_brace, options_token, consume_format_options}
use Rattle.options.specs.StandsLaws.{skip_lands, brace_behind, options_by, options_stands}
use Rattle.plain.specs.declared.Plain.{Plain}
use Rattle.fast_options.specs.FormatOptions.{is_alignment, skip_ascii, FindsOptions}
use Rattle.fast_options.specs.ApartLaws.{first_one, second_is_lem}

-- three ASCII characters at i, of which the first is no carriage return
pub record Apart (s : List ℕ) (i : ℕ) : Type 0 where
  pub within : i + 3 ≤ length s
  pub first : get_or s i 0 < 128
  pub second : get_or s (i + 1) 0 < 128
  pub third : get_or s (i + 2) 0 < 128
  pub no_cr : get_or s i 0 ≡ cr → ⊥

pub apart_by : (s : List ℕ) (i : ℕ) → i + 3 ≤ length s
    → (ltb (get_or s i 0) 128 && ltb (get_or s (i + 1) 0) 128 && ltb (get_or s (i + 2) 0) 128 && not (eqb (get_or s i 0) cr)) ≡ true → Apart s i
apart_by s i h e =
    let three = and_left _ (not (eqb (get_or s i 0) cr)) e in
    let two = and_left _ (ltb (get_or s (i + 2) 0) 128) three in
    record {
      within = h;
      first = ltb-true _ 128 (and_left _ (ltb (get_or s (i + 1) 0) 128) two);
      second = ltb-true _ 128 (and_right (ltb (get_or s i 0) 128) _ two);
      third = ltb-true _ 128 (and_right (ltb (get_or s i 0) 128 && ltb (get_or s (i + 1) 0) 128) _ three);
      no_cr = eqb-false _ cr
          (not-true _ (and_right (ltb (get_or s i 0) 128 && ltb (get_or s (i + 1) 0) 128 && ltb (get_or s (i + 2) 0) 128) _ e));
    }

module _ (table : List ℕ) (fit : FitTable table) (edition : ℕ) where
  abbrev look : ℕ → ℕ
  look = properties_at table

  module _ (a b c : ℕ) (rest : List ℕ) (h : a < 128) (k : b < 128) (m : c < 128) (n : a ≡ cr → ⊥) where
    aligned_is : is_aligned look edition (a ∷ b ∷ c ∷ rest) ≡ is_alignment b
    unfolding is_aligned
    aligned_is =
        let is : (d : ℕ) → (d ≡ cr → ⊥) → _ = second_is_lem table fit edition a b c rest h k m n in
        rw (is less (λ x. omega arith), is caret (λ x. omega arith), is greater (λ x. omega arith))

    abbrev cs : List ℕ
    cs = a ∷ b ∷ c ∷ rest

    one_byte_lem : length (encode_all (take (first_size look edition cs) cs)) ≡ 1
    unfolding encode_all
    one_byte_lem = ap (λ (n : ℕ). length (encode_all (take n cs))) (first_one table fit edition a b h k n (c ∷ rest)) ∙ rw (encode1 a h)

    skip_is : skip_bytes look edition cs ≡ skip_ascii b
    unfolding skip_bytes
    skip_is =
        ap (λ (t : Bool). pick t (first_end look edition 0 cs + 1) 0) aligned_is ∙ ap (λ (n : ℕ). pick (is_alignment b) (0 + n + 1) 0) one_byte_lem

  module _ (s : List ℕ) (i : ℕ) (p : Apart s i) where
    three : chars (drop i s) ≡ get_or s i 0 ∷ get_or s (i + 1) 0 ∷ get_or s (i + 2) 0 ∷ chars (drop (i + 3) s)
    three =
        let one : (j : ℕ) → j < length s → get_or s j 0 < 128 → chars (drop j s) ≡ get_or s j 0 ∷ chars (drop (j + 1) s) =
        λ j h l. chars_at s j (get_or s j 0) 1 (ascii_at s j h l) in
        let e : i + 1 + 1 ≡ i + 2 = omega arith in
        let f : i + 2 + 1 ≡ i + 3 = omega arith in
        one i (omega (arith, p.within)) p.first
        ∙ ap (λ (cs : List ℕ). get_or s i 0 ∷ cs)
        (one (i + 1) (omega (arith, p.within)) p.second
        ∙ ap (λ (cs : List ℕ). get_or s (i + 1) 0 ∷ cs)
        (ap (λ (j : ℕ). chars (drop j s)) e ∙ one (i + 2) (omega (arith, p.within)) p.third ∙ ap (λ (j : ℕ). get_or s (i + 2) 0 ∷ chars (drop j s)) f))

    pub skip_at : skip_bytes look edition (chars (drop i s)) ≡ skip_ascii (get_or s (i + 1) 0)
    skip_at = rw three (skip_is (get_or s i 0) (get_or s (i + 1) 0) (get_or s (i + 2) 0) _ p.first p.second p.third p.no_cr)

  pub options_to : (s : List ℕ) (l : Lexer) → Stands s (reach_of l) → Apart s (reach_of l).byte.0 → (k : ℕ)
      → k ≡ (reach_of l).byte.0 + skip_ascii (get_or s ((reach_of l).byte.0 + 1) 0) → (b : Option ℕ) → b ≡ find_brace k (chars (drop k s))
      → options_token l b ≡ consume_format_options look edition (chars_from s (reach_of l)) l
  options_to s l o p k e b f =
      let i = (reach_of l).byte.0 in
      let g : k ≡ i + skip_bytes look edition (chars (drop i s)) = e ∙ ap (λ (n : ℕ). i + n) (sym (skip_at s i p)) in
      options_by look edition s l b o (f ∙ ap (λ (j : ℕ). find_brace j (chars (drop j s))) g)

-- ---- where the code stands, by the small table, which is fit

module _ (s : List ℕ) (i : ℕ) (p : Apart s i) (w : WellFormed (drop i s)) where
  abbrev small : ℕ → ℕ
  small = properties_at small_table

  is_small : skip_bytes small 1 (chars (drop i s)) ≡ skip_ascii (get_or s (i + 1) 0)
  is_small = skip_at small_table small_is_fit 1 s i p

  inside : i ≤ length s
  inside = omega (arith, p.within)

  pub lands : WellFormed (drop (i + skip_ascii (get_or s (i + 1) 0)) s)
  lands = subst (λ (n : ℕ). WellFormed (drop (i + n) s)) is_small (skip_lands small 1 s i inside w).well

  pub brace_on : (k e : ℕ) → k ≡ i + skip_ascii (get_or s (i + 1) 0) → Some e ≡ find_brace k (chars (drop k s)) → i ≤ e
  brace_on k e g f =
      let h : i + skip_bytes small 1 (chars (drop i s)) ≡ k = ap (λ (n : ℕ). i + n) is_small ∙ sym g in
      (brace_behind small 1 s i e inside w (ap (λ (j : ℕ). find_brace j (chars (drop j s))) h ∙ sym f)).on

-- ---- what is found

pub options_short : (s : List ℕ) (l : Lexer) → Stands s (reach_of l) → {p : Plain} → FindsOptions s l p → eqb p.kind error ≡ false → p.len ≤ source_most
options_short s l o {p} f n =
    let t = (options_stands (properties_at small_table) 1 s l o).stands in
    let q = subst (λ (t : Taken). Stands s (reach_of t.lexer)) ((f small_table small_is_fit 1).is n) t in
    omega (arith, q.inside, q.small)
