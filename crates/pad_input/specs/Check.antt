-- Whether a text may be padded (document 02, C-11): the refusals before any work, in their order: 1 of the text or of the fill, 17, 2, 3 or 15
-- of the text and then of the fill, 18. A fill that is not given is not looked at; one that is given is, whether or not it will be needed.
-- Assumes nothing.
use Rattle.std.specs.Prelude.{ℕ, ◌≤◌, ◌≡◌, List, Bool, true, ◌&&◌, ltb, leb, eqb, length, Ok, Result, Err}
use Rattle.base.specs.Pick.{pick}
use Rattle.utf8.specs.Chars.{chars, check_from}
use Rattle.property.specs.Table.{properties_at}
use Rattle.fitness.specs.Fit.{table_check}
use Rattle.input.specs.Input.{on_utf8, input_check, on_input}
use Rattle.input.specs.declared.Refusal.{Refusal}
use Rattle.input.specs.declared.Refusal.TheVariants.{TooLong}
use Rattle.cluster_count.specs.Count.{cluster_count}
use Rattle.fills.specs.Pad.{right, is_width}
use Rattle.pad_input.specs.declared.PadRefusal.{PadRefusal}
use Rattle.pad_input.specs.declared.PadRefusal.TheVariants.{Refused, FillRefused, NoSuchFormat}

-- the most bytes of a text, and of a fill
abbrev pub text_most : ℕ
text_most = 65535

-- ---- the checks

-- a fill is given, and is too long
unfoldable pub long_fill : Bool → List ℕ → Bool
long_fill given fill = given && ltb text_most (length fill)

-- an alignment and a width
unfoldable pub is_format : ℕ → ℕ → Bool
is_format alignment width = leb alignment right && is_width width

unfoldable pub format_check : ℕ → ℕ → Result (Unit {0}) PadRefusal
format_check alignment width = pick (is_format alignment width) (Ok tt) (Err NoSuchFormat)

-- a refusal of the text, and one of the fill
abbrev pub of_text : Refusal → Result (Unit {0}) PadRefusal
of_text x = Err (Refused x)

abbrev pub of_fill : Refusal → Result (Unit {0}) PadRefusal
of_fill x = Err (FillRefused x)

-- where a fill is given: it is exactly one cluster, by itself
unfoldable pub fill_check : (ℕ → ℕ) → ℕ → ℕ → ℕ → List ℕ → Result (Unit {0}) PadRefusal
fill_check look edition alignment width fill =
    on_input of_fill (on_utf8 (check_from 0 fill))
    (pick (eqb (cluster_count look edition (chars fill)) 1) (format_check alignment width) (Err NoSuchFormat))

-- 1 of the text is the first that `input_check` asks, and told as 1 of the fill
unfoldable pub pad_check : List ℕ → ℕ → ℕ → Bool → List ℕ → List ℕ → ℕ → Result (Unit {0}) PadRefusal
pad_check text alignment width given fill table edition =
    pick (long_fill given fill) (of_text TooLong)
    (on_input of_text (input_check text_most text table edition)
    (pick given (fill_check (properties_at table) edition alignment width fill) (format_check alignment width)))

-- ---- what is refused nothing

-- refusal 1 is not given
pub record Short (text : List ℕ) (given : Bool) (fill : List ℕ) : Type 0 where
  pub text_short : length text ≤ text_most
  pub fill_short : given ≡ true → length fill ≤ text_most

-- nor 17
pub record Begun (text : List ℕ) (given : Bool) (fill : List ℕ) (edition : ℕ) : Type 0 where
  pub short : Short text given fill
  pub edition_some : 1 ≤ edition
  pub edition_most : edition ≤ 2

-- nor any other
pub record Paddable (text : List ℕ) (alignment width : ℕ) (given : Bool) (fill table : List ℕ) (edition : ℕ) : Type 0 where
  pub begun : Begun text given fill edition
  pub fit : table_check table ≡ Ok tt
  pub well : check_from 0 text ≡ Ok tt
  pub fill_well : given ≡ true → check_from 0 fill ≡ Ok tt
  pub fill_one : given ≡ true → cluster_count (properties_at table) edition (chars fill) ≡ 1
  pub format : is_format alignment width ≡ true
