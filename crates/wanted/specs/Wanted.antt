-- The format string for options (document 02, C-10): what is asked for, when a format string is read back as that, and which of those strings
-- is written. What is asked for are numbers, those that the parse of a format string tells of its options.
-- Options are equal when their fills have equal bytes, so a fill is its bytes here. Reading back is meant with an empty pool that has room:
-- there no addition fails, which is `parse` of the crate `format`, whose pool is a list. That this is what the public call then answers is
-- `WriteLaws` of the crate `promises`.
-- Assumes nothing.
use Rattle.std.specs.Prelude.{ℕ, ◌<◌, ◌≤◌, ◌≡◌, List, ◌∷◌, ◌++◌, length, Option, Some, None, Ok}
use Rattle.base.specs.Refusal.{format_most}
use Rattle.utf8.specs.Encode.{WellFormed}
use Rattle.utf8.specs.Chars.{chars}
use Rattle.format_options.specs.Options.{alignment_number}
use Rattle.format.specs.Parse.{parse, string_of}
use Rattle.parse.specs.Numbers.{given_number, shown_number}
use Rattle.format_options.specs.declared.Options.{Options}
use Rattle.format_options.specs.declared.Part.{Part}

-- ---- what is asked for

-- a fill by its bytes, or none
pub data Filled : Type 0 where
  Bytes : List ℕ → Filled
  Unfilled : Filled

-- four numbers and a fill
pub record Asked : Type 0 where
  pub alignment : ℕ
  pub width : ℕ
  pub precision : ℕ
  pub representation : ℕ
  pub fill : Filled

-- ---- reading back

-- the bytes of a fill that was read from s
abbrev pub filled_of : List ℕ → Option Part → Filled
filled_of s (Some part) = Bytes (string_of s part)
filled_of s None = Unfilled

-- what is told of options that were read from s
abbrev pub asked_of : List ℕ → Options → Asked
asked_of s o =
    record {
      alignment = alignment_number o.alignment;
      width = given_number o.width;
      precision = given_number o.precision;
      representation = shown_number o.representation;
      fill = filled_of s o.fill;
    }

-- s is a format string that is read back as a
pub record ReadsBack (look : ℕ → ℕ) (edition : ℕ) (a : Asked) (s : List ℕ) : Type 0 where
  pub small : length s ≤ format_most
  pub well : WellFormed s
  pub fine : (parse look edition (chars s)).outcome ≡ Ok tt
  pub same : asked_of s (parse look edition (chars s)).options ≡ a

-- ---- the order

-- s does not come after t in byte order, for strings of one length: they are equal, or s has the smaller byte where they first differ
pub data NotAfter (s t : List ℕ) : Type 0 where
  equal : s ≡ t → NotAfter s t
  smaller : (common : List ℕ) (a b : ℕ) (more others : List ℕ) → s ≡ common ++ a ∷ more → t ≡ common ++ b ∷ others → a < b → NotAfter s t

-- s is shorter than t, or as long and not after it
pub data Before (s t : List ℕ) : Type 0 where
  shorter : length s < length t → Before s t
  level : length s ≡ length t → NotAfter s t → Before s t

-- ---- what is written

-- s is the string for a: the shortest that is read back as a, and the first in byte order of those
pub record First (look : ℕ → ℕ) (edition : ℕ) (a : Asked) (s : List ℕ) : Type 0 where
  pub reads_back : ReadsBack look edition a s
  pub least : (t : List ℕ) → ReadsBack look edition a t → Before s t

-- there is none: refusal 18
abbrev pub NoSuch : (ℕ → ℕ) → ℕ → Asked → Type 0
NoSuch look edition a = (t : List ℕ) → ReadsBack look edition a t → ⊥
