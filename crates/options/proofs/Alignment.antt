-- The cluster after the fill is an alignment exactly where an alignment's byte stands there, and the first cluster of what stands from it on
-- is that byte. So `skip_fill` may read it as a first cluster.
--     Filled, behind           where the fill ends, and what stands there
--     no_alignment, longer     another byte there, or a cluster of more than that byte: nothing is passed
--     aligned                  fill and alignment are passed
-- Assumes nothing.
use Prim.Native.Nat.{ℕ, ◌+◌, ◌≤◌, ◌<◌}
use native.Mathlib.Omega.{arith}
use mathlib.Core.Path.{◌≡◌, refl, sym, ap, subst, ◌∙◌}
use mathlib.Core.Bool.{Bool, true, false, ◌&&◌, ◌||◌}
use mathlib.Core.List.{List, [], ◌∷◌}
use lib.Dec.{eqb}
use lib.ListN.{length, get_or, drop}
use borrow.Author.Tests.{eq-eqb, ne_eqb}
use Rattle.base.specs.CasesLaws.{and_yes, and_no}
use Rattle.utf8.specs.Encode.{WellFormed}
use Rattle.utf8.specs.Chars.{chars}
use Rattle.utf8.specs.CharsLaws.{After}
use Rattle.property.specs.Table.{last_from, properties_at}
use Rattle.fitness.specs.Small.{small_table}
use Rattle.fitness.specs.Fit.{FitTable}
use Rattle.cluster.specs.First.{first_end, first_rest, second_is}
use Rattle.cluster.specs.FirstLaws.{first_at_lem, plain, second_by_first}
use Rattle.text.specs.Bytes.{byte_at}
use Rattle.text.specs.Tests.{less, caret, greater}
use Rattle.text.specs.Follow.{next_is}
use Rattle.text.specs.FollowLaws.{next_is_lem}
use Rattle.options.specs.ConsumeFormatOptions.{is_aligned, skip_bytes}

-- a test that both have is made once
share : (x y t : Bool) → ((x && t) || (y && t)) ≡ ((x || y) && t)
share true y true = refl
share true true false = refl
share true false false = refl
share false y t = refl

-- the first of some characters, or a 0 where there is none
front_is : (c : ℕ) (cs : List ℕ) → 0 < c → eqb (get_or cs 0 0) c ≡ next_is c cs
unfolding next_is
front_is c [] h = ne_eqb 0 c (λ x. omega arith)
front_is c (d ∷ cs) h = refl

-- the fill that begins at `at` ends at `fill`
pub record Filled (edition : ℕ) (table s : List ℕ) (at fill : ℕ) : Type 0 where
  pub fit : FitTable table
  pub within : at ≤ length s
  pub well : WellFormed (drop at s)
  pub end : fill ≡ first_end (properties_at table) edition at (chars (drop at s))

module _ {edition : ℕ} {table s : List ℕ} {at fill : ℕ} (f : Filled edition table s at fill) where
  abbrev look : ℕ → ℕ
  look = properties_at table

  abbrev cs : List ℕ
  cs = chars (drop at s)

  pub behind : After s fill (first_rest look edition cs)
  behind = subst (λ (j : ℕ). After s j (first_rest look edition cs)) (sym f.end) (first_at_lem look edition s at f.within f.well)

  -- the first cluster from there on is one byte
  abbrev one_byte : Bool
  one_byte = eqb (first_end look edition fill (chars (drop fill s))) (fill + 1)

  second_is_lem : (c : ℕ) → 0 < c → c < 128 → properties_at small_table c ≡ plain → second_is look edition cs c ≡ (eqb (byte_at s fill) c && one_byte)
  second_is_lem c h k p =
      second_by_first look edition cs fill c k (f.fit.ascii c k ∙ p)
      ∙ rw (← behind.left)
      (ap (λ (t : Bool). t && one_byte) (front_is c (chars (drop fill s)) h ∙ next_is_lem s fill c behind.well k))

  -- the byte there is an alignment's
  abbrev pub alignment : Bool
  alignment = eqb (byte_at s fill) less || (eqb (byte_at s fill) caret || eqb (byte_at s fill) greater)

  is_aligned_lem : is_aligned look edition cs ≡ (alignment && one_byte)
  unfolding is_aligned last_from small_table
  is_aligned_lem =
      rw
      (second_is_lem less (omega arith) (omega arith) refl, second_is_lem caret (omega arith) (omega arith) refl, second_is_lem greater (omega arith) (omega arith) refl, share, share)

  skip_none : is_aligned look edition cs ≡ false → at ≡ at + skip_bytes look edition cs
  unfolding skip_bytes
  skip_none e = rw e (omega arith)

  pub no_alignment : alignment ≡ false → at ≡ at + skip_bytes look edition cs
  no_alignment e = skip_none (is_aligned_lem ∙ and_no alignment one_byte e)

  module _ (a : alignment ≡ true) where
    told : (t : Bool) → one_byte ≡ t → is_aligned look edition cs ≡ t
    told t e = is_aligned_lem ∙ and_yes alignment one_byte t a e

    pub longer : (first_end look edition fill (chars (drop fill s)) ≡ fill + 1 → ⊥) → at ≡ at + skip_bytes look edition cs
    longer e = skip_none (told false (ne_eqb _ _ e))

    pub aligned : first_end look edition fill (chars (drop fill s)) ≡ fill + 1 → fill + 1 ≡ at + skip_bytes look edition cs
    unfolding skip_bytes
    aligned e = rw (told true (eq-eqb _ _ e)) (omega (arith, f.end))
