-- UAX #29 on ASCII, by what every fit table says of it: no rule joins two ASCII characters of which the first is no carriage return. It does not matter
-- what stands left of them, nor what the edition is: GB9c, which the editions differ in, asks for a consonant, and there is none.
--     apart           the two are not joined
--     first_one       so a first cluster that begins with two such characters is one byte
--     second_is_lem       and the second is the second character, where that is no carriage return either and a third follows
-- Assumes nothing.
use Rattle.std.specs.Prelude.{ℕ, ◌<◌, ◌≡◌, Bool, true, not, ◌&&◌, ◌||◌, List, [], ◌∷◌, ltb}
use Rattle.std.proofs.Math.Path.{refl}
use Rattle.std.proofs.Common.{sym, ◌∙◌}
use Rattle.std.proofs.Math.Bool.{false}
use Rattle.std.proofs.Math.Dec.{eqb}
use borrow.Author.Tests.{ltb-true, not-true, ne_eqb, eq-eqb}
use Rattle.base.specs.All.{all_good}
use Rattle.base.specs.AllLaws.{good_at, and_left, and_right}
use Rattle.base.specs.PickLaws.{split_eq}
use Rattle.property.specs.Parts.{class_of, regional_indicator}
use Rattle.property.specs.Parts as class
use Rattle.property.specs.Table.{last_from, properties_at}
use Rattle.fitness.specs.Small.{small_table}
use Rattle.fitness.specs.First.{first_bad}
use Rattle.fitness.specs.Fit.{FitTable}
use Rattle.fitness.specs.FitLaws.{ascii_rule}
use Rattle.fitness.specs.SmallLaws.{ascii_not_pict, ascii_no_incb}
use Rattle.uax29.specs.Uax29.{is_control, gb3, gb6, gb7, gb8, gb9, pair_rule, gb9c, gb11, gb12, on_open, joined}
use Rattle.cluster.specs.First.{go_on, first_size, second_is}
use Rattle.text.specs.Tests.{cr}

-- ---- the classes of ASCII characters

-- one of the four classes, and CR of the carriage return alone
abbrev ascii_of : ℕ → ℕ → Bool
ascii_of c p = ltb (class_of p) 4 && (eqb c cr || not (eqb (class_of p) class.cr))

-- the rules on a character of the class b and one of the class a break, or leave it open; and the second is no Regional_Indicator
abbrev breaks : ℕ → ℕ → Bool
breaks b a = not (on_open (pair_rule b a) false) && not (eqb a regional_indicator)

-- the four classes, each before each, but CR before any
all_break : all_good (λ b. eqb b class.cr || all_good (breaks b) 4) 4 ≡ true
unfolding all_good is_control gb3 gb6 gb7 gb8 gb9 pair_rule
all_break = refl

-- ---- two characters

and_none : (t : Bool) → (t && false) ≡ false
and_none true = refl
and_none false = refl

module _ (table : List ℕ) (fit : FitTable table) (edition : ℕ) where
  abbrev look : ℕ → ℕ
  look = properties_at table

  told : (c : ℕ) → c < 128 → ascii_of c (look c) ≡ true
  unfolding first_bad last_from small_table
  told c h = ascii_rule table fit c ascii_of refl h

  low : (c : ℕ) → c < 128 → class_of (look c) < 4
  low c h = ltb-true (class_of (look c)) 4 (and_left (ltb (class_of (look c)) 4) _ (told c h))

  no_cr : (c : ℕ) → c < 128 → (c ≡ cr → ⊥) → eqb (class_of (look c)) class.cr ≡ false
  no_cr c h n = not-true _ (rw (ne_eqb c cr n) at (and_right (ltb (class_of (look c)) 4) (eqb c cr || not (eqb (class_of (look c)) class.cr)) (told c h)))

  module _ (a b : ℕ) (h : a < 128) (k : b < 128) (n : a ≡ cr → ⊥) where
    broken : breaks (class_of (look a)) (class_of (look b)) ≡ true
    broken =
        good_at (breaks (class_of (look a))) 4 (class_of (look b)) (low b k)
        (rw (no_cr a h n) at (good_at (λ x. eqb x class.cr || all_good (breaks x) 4) 4 (class_of (look a)) (low a h) all_break))

    pub apart : (left : List ℕ) → joined edition (look a ∷ left) (look b) ≡ false
    unfolding gb9c gb11 gb12
    apart left =
        let no_flag : eqb (class_of (look b)) regional_indicator ≡ false = not-true _ (and_right (not (on_open (pair_rule (class_of (look a)) (class_of (look b))) false)) _ broken) in
        rw (ascii_no_incb table fit b k, ascii_not_pict table fit b k, no_flag, and_none)
        (not-true _ (and_left _ (not (eqb (class_of (look b)) regional_indicator)) broken))

    -- a first cluster that begins with the two
    pub first_one : (rest : List ℕ) → first_size look edition (a ∷ b ∷ rest) ≡ 1
    unfolding go_on
    first_one rest = rw (apart [])

  -- three characters, of which the second is the ASCII character d: it is the second cluster
  pub second_is_lem : (a b c : ℕ) (rest : List ℕ) → a < 128 → b < 128 → c < 128 → (a ≡ cr → ⊥) → (d : ℕ) → (d ≡ cr → ⊥)
      → second_is look edition (a ∷ b ∷ c ∷ rest) d ≡ eqb b d
  unfolding go_on
  second_is_lem a b c rest h k m n d x =
      rw (first_one a b h k n (c ∷ rest))
      (split_eq b d (λ e. rw (apart b c k m (λ f. x (sym e ∙ f)) (look a ∷ []), eq-eqb b d e)) (λ e. rw (ne_eqb b d e)))
