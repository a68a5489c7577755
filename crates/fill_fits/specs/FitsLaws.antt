-- Which fills fit, test by test as the code asks.
--     Plains, plains_of                 a fit table says of every sign that it is a plain character
--     is_taken_lem, is_dot, is_before_sign  a fill of several that an arm before that of a cluster takes
--     too_many, alone, before_sign      one that the arm of a cluster gets
--     end_short, end_whole              whether it is one cluster, in bytes
--     no_chars, one_char, begins        by how many characters a fill has
--     Many, many                        all of these of a fill's bytes
-- Assumes nothing.
use Rattle.std.specs.Prelude.{ℕ, ◌+◌, ◌<◌, ◌≤◌, ◌≡◌, refl, Bool, true, false, not, ◌&&◌, List, [], ◌∷◌, ◌++◌, eqb, length, take, drop, Ok}
use Rattle.std.proofs.Common.{arith, zero-add, sym, ap, subst, ◌∙◌, append-nil, length-append, length-drop, take-append-drop, eq-eqb, ne_eqb}
use Rattle.std.proofs.Math.Seq.{take-length}
use Rattle.base.specs.Pick.{pick}
use Rattle.base.specs.PickLaws.{split_eq}
use Rattle.utf8.specs.Encode.{Scalars, encode_all, WellFormed}
use Rattle.utf8.specs.EncodeLaws.{all_append}
use Rattle.utf8.specs.Read.{read_at}
use Rattle.utf8.specs.Chars.{chars}
use Rattle.utf8.specs.CharsLaws.{Stops, at_char, chars_well}
use Rattle.property.specs.Table.{last_from, properties_at}
use Rattle.fitness.specs.Fit.{FitTable}
use Rattle.fitness.specs.Small.{small_table}
use Rattle.cluster.specs.First.{first_size, first_end}
use Rattle.cluster.specs.FirstLaws.{plain, first_within}
use Rattle.format_options.specs.Letters.{no_char, less, caret, greater, is_sign}
use Rattle.format_number.specs.Number.{peeked}
use Rattle.format_number.specs.PeekLaws.{none_left}
use Rattle.format_arms.specs.Arms.{dot}
use Rattle.format_options.specs.declared.Alignment.{Alignment}
use Rattle.format_options.specs.declared.Alignment.TheVariants as alignment
use Rattle.asked.specs.declared.Fields.{Fields}
use Rattle.wanted.specs.Wanted.{Unfilled}
use Rattle.wanted.specs.Candidate.{wanted_by, sign_part, is_default, is_bare, is_taken, one_fits, chars_fit}
use Rattle.wanted.specs.TailLaws.{and_yes}
use Rattle.wanted.proofs.StartLaws.{many_bytes}
use Rattle.fill_fits.specs.Apart.{joins_sign, Begins}
use Rattle.fill_fits.specs.ApartLaws.{apart_by}

-- every sign is a plain character
pub record Plains (look : ℕ → ℕ) : Type 0 where
  pub for_less : look less ≡ plain
  pub for_caret : look caret ≡ plain
  pub for_greater : look greater ≡ plain

pub plains_of : (table : List ℕ) → FitTable table → Plains (properties_at table)
unfolding last_from small_table
plains_of table fit =
    record { for_less = fit.ascii less (omega arith); for_caret = fit.ascii caret (omega arith); for_greater = fit.ascii greater (omega arith) }

module _ (look : ℕ → ℕ) (edition : ℕ) where
  -- whether some characters are one cluster, in bytes
  module _ (cs : List ℕ) where
    split_bytes : (n : ℕ) → length (encode_all (take n cs)) + length (encode_all (drop n cs)) ≡ length (encode_all cs)
    split_bytes n =
        omega (
          arith,
          ap length (sym (all_append (take n cs) (drop n cs)) ∙ ap encode_all (take-append-drop n cs)),
          length-append (encode_all (take n cs)) (encode_all (drop n cs)),
        )

    pub end_short : first_end look edition 0 cs < length (encode_all cs) → first_size look edition cs < length cs
    end_short h =
        split_eq (first_size look edition cs) (length cs)
        (λ e. let k : length (encode_all (take (first_size look edition cs) cs)) ≡ length (encode_all cs) =
        ap (λ (n : ℕ). length (encode_all (take n cs))) e ∙ ap (λ (l : List ℕ). length (encode_all l)) (take-length cs) in
        absurd (omega arith))
        (λ n. omega (arith, first_within look edition cs, n))

    pub end_whole : length (encode_all cs) ≤ first_end look edition 0 cs → first_size look edition cs ≡ length cs
    end_whole h =
        let n = first_size look edition cs in
        omega (arith, split_bytes n, many_bytes (drop n cs), length-drop n cs, first_within look edition cs)

  module _ (fields : Fields) where
    abbrev fits : List ℕ → Bool
    fits = chars_fit look edition (wanted_by fields Unfilled)

    module _ (c d : ℕ) (rest : List ℕ) where
      abbrev cs : List ℕ
      cs = c ∷ d ∷ rest

      pub is_taken_lem : is_taken c ≡ true → fits cs ≡ false
      is_taken_lem t = rw t

      pub is_dot : is_taken c ≡ false → c ≡ dot → fits cs ≡ false
      is_dot t e = rw (t, eq-eqb c dot e)

      pub is_before_sign : is_taken c ≡ false → (c ≡ dot → ⊥) → is_sign d ≡ true → fits cs ≡ false
      is_before_sign t n s = rw (t, ne_eqb c dot n, s)

      module _ (plains : Plains look) where
        -- the sign, by the fill alone
        sized : (a : Alignment) → eqb (first_size look edition (cs ++ sign_part a)) (length cs)
            ≡ (eqb (first_size look edition cs) (length cs) && pick (is_default a) true (not (joins_sign look edition cs)))
        sized alignment.Default =
            ap (λ (l : List ℕ). eqb (first_size look edition l) (length cs)) (append-nil cs) ∙ sym (and_yes (eqb (first_size look edition cs) (length cs)))
        sized alignment.Left = apart_by edition look less plains.for_less plains.for_less c (d ∷ rest)
        sized alignment.Center = apart_by edition look caret plains.for_caret plains.for_less c (d ∷ rest)
        sized alignment.Right = apart_by edition look greater plains.for_greater plains.for_less c (d ∷ rest)

        module _ (t : is_taken c ≡ false) (n : c ≡ dot → ⊥) (s : is_sign d ≡ false) where
          abbrev bare : Bool
          bare = pick (is_default fields.alignment) (is_bare (wanted_by fields Unfilled)) true

          opened : fits cs ≡ ((eqb (first_size look edition cs) (length cs) && pick (is_default fields.alignment) true (not (joins_sign look edition cs))) && bare)
          opened = rw (t, ne_eqb c dot n, s) (ap (λ (b : Bool). b && bare) (sized fields.alignment))

          pub too_many : first_size look edition cs < length cs → fits cs ≡ false
          too_many h = opened ∙ rw (ne_eqb (first_size look edition cs) (length cs) (λ e. omega arith))

          module _ (e : first_size look edition cs ≡ length cs) where
            one : eqb (first_size look edition cs) (length cs) ≡ true
            one = eq-eqb (first_size look edition cs) (length cs) e

            pub alone : is_default fields.alignment ≡ true → fits cs ≡ is_bare (wanted_by fields Unfilled)
            alone q = opened ∙ rw (one, q)

            pub before_sign : is_default fields.alignment ≡ false → fits cs ≡ not (joins_sign look edition cs)
            before_sign q = opened ∙ rw (one, q) (and_yes (not (joins_sign look edition cs)))

-- ---- by how many characters there are

pub no_chars : (look : ℕ → ℕ) (edition : ℕ) (fields : Fields) (fill : List ℕ) → Stops (read_at fill 0)
    → chars_fit look edition (wanted_by fields Unfilled) (chars fill) ≡ false
no_chars look edition fields fill s = ap (chars_fit look edition (wanted_by fields Unfilled)) (none_left fill 0 s)

peek_nil : (l : List ℕ) → Scalars l → peeked l ≡ no_char → l ≡ []
unfolding peeked
peek_nil [] s e = refl
peek_nil (d ∷ ds) s e = absurd (omega (arith, s.0.small))

peek_more : (c : ℕ) (l : List ℕ) (d : ℕ) → d ≡ peeked l → (d ≡ no_char → ⊥) → Begins (c ∷ l) c d
unfolding peeked
peek_more c [] d e n = absurd (n e)
peek_more c (x ∷ l) d e n = record { rest = l; is = ap {B = List ℕ} (λ (y : ℕ). c ∷ y ∷ l) (sym e) }

-- what follows the first character of a fill
module _ (fill : List ℕ) (c n : ℕ) (well : WellFormed fill) (e : read_at fill 0 ≡ Ok (c, n)) where
  front : chars fill ≡ c ∷ chars (drop n fill)
  front = (at_char fill 0 c n e).step ∙ ap {B = List ℕ} (λ (k : ℕ). c ∷ chars (drop k fill)) (zero-add n)

  pub one_char : (look : ℕ → ℕ) (edition : ℕ) (fields : Fields) → peeked (chars (drop n fill)) ≡ no_char
      → chars_fit look edition (wanted_by fields Unfilled) (chars fill) ≡ one_fits (wanted_by fields Unfilled) c
  one_char look edition fields p =
      let s : Scalars (c ∷ chars (drop n fill)) = subst Scalars front (chars_well fill well).1 in
      ap (chars_fit look edition (wanted_by fields Unfilled)) (front ∙ ap {B = List ℕ} (λ (l : List ℕ). c ∷ l) (peek_nil (chars (drop n fill)) s.1 p))

  pub begins : (d : ℕ) → d ≡ peeked (chars (drop n fill)) → (d ≡ no_char → ⊥) → Begins (chars fill) c d
  begins d p m = subst (λ (l : List ℕ). Begins l c d) (sym front) (peek_more c (chars (drop n fill)) d p m)

-- ---- a fill of several characters, by its bytes

pub record Many (look : ℕ → ℕ) (edition : ℕ) (fields : Fields) (fill : List ℕ) (c d : ℕ) : Type 0 where
  pub by_taken : is_taken c ≡ true → chars_fit look edition (wanted_by fields Unfilled) (chars fill) ≡ false
  pub by_dot : is_taken c ≡ false → c ≡ dot → chars_fit look edition (wanted_by fields Unfilled) (chars fill) ≡ false
  pub by_sign : is_taken c ≡ false → (c ≡ dot → ⊥) → is_sign d ≡ true → chars_fit look edition (wanted_by fields Unfilled) (chars fill) ≡ false
  pub by_more : is_taken c ≡ false → (c ≡ dot → ⊥) → is_sign d ≡ false → (end : ℕ) → end ≡ first_end look edition 0 (chars fill) → end < length fill
      → chars_fit look edition (wanted_by fields Unfilled) (chars fill) ≡ false
  pub by_alone : is_taken c ≡ false → (c ≡ dot → ⊥) → is_sign d ≡ false → (end : ℕ) → end ≡ first_end look edition 0 (chars fill) → length fill ≤ end
      → is_default fields.alignment ≡ true → chars_fit look edition (wanted_by fields Unfilled) (chars fill) ≡ is_bare (wanted_by fields Unfilled)
  pub by_joined : is_taken c ≡ false → (c ≡ dot → ⊥) → is_sign d ≡ false → (end : ℕ) → end ≡ first_end look edition 0 (chars fill) → length fill ≤ end
      → is_default fields.alignment ≡ false → chars_fit look edition (wanted_by fields Unfilled) (chars fill) ≡ not (joins_sign look edition (chars fill))

pub many : (look : ℕ → ℕ) (edition : ℕ) (fields : Fields) (fill : List ℕ) (c d : ℕ) → Plains look → WellFormed fill → Begins (chars fill) c d
    → Many look edition fields fill c d
many look edition fields fill c d plains well b =
    record {
      by_taken = λ t. whole ∙ is_taken_lem look edition fields c d rest t;
      by_dot = λ t e. whole ∙ is_dot look edition fields c d rest t e;
      by_sign = λ t n s. whole ∙ is_before_sign look edition fields c d rest t n s;
      by_more = λ t n s end e h. whole ∙ too_many look edition fields c d rest plains t n s (end_short look edition cs (omega (arith, e ∙ same_end, bytes)));
      by_alone = λ t n s end e h q. whole ∙ alone look edition fields c d rest plains t n s (end_whole look edition cs (omega (arith, e ∙ same_end, bytes))) q;
      by_joined = λ t n s end e h q.
          whole ∙ before_sign look edition fields c d rest plains t n s (end_whole look edition cs (omega (arith, e ∙ same_end, bytes))) q
          ∙ ap (λ (l : List ℕ). not (joins_sign look edition l)) (sym b.is);
    }
  where
    rest : List ℕ
    rest = b.rest

    cs : List ℕ
    cs = c ∷ d ∷ rest

    whole : chars_fit look edition (wanted_by fields Unfilled) (chars fill) ≡ chars_fit look edition (wanted_by fields Unfilled) cs
    whole = ap (chars_fit look edition (wanted_by fields Unfilled)) b.is

    bytes : length fill ≡ length (encode_all cs)
    bytes = ap length (chars_well fill well).0 ∙ ap (λ (l : List ℕ). length (encode_all l)) b.is

    same_end : first_end look edition 0 (chars fill) ≡ first_end look edition 0 cs
    same_end = ap (λ (l : List ℕ). first_end look edition 0 l) b.is
