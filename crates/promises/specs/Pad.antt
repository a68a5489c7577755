-- The promise of `pad::pad`, case by case in document 02's order: 1, 17, 2, 3 or 15 of the text, 3 or 15 of the fill, 18, 19, and then the
-- padded text. What `check_from` and `table_check` answer is promised of `check_utf8` and `check_table`.
-- Assumes nothing.
use Rattle.std.specs.Prelude.{ℕ, ◌+◌, ◌<◌, ◌≤◌, ◌≡◌, Bool, true, List, [], length, get_or, Ok, Err, Result}
use Rattle.base.specs.Refusal.{none, too_long, bad_table, bad_utf8, cut_utf8, bad_edition, no_such_format, no_room}
use Rattle.utf8.specs.Chars.{chars, check_from}
use Rattle.utf8.specs.declared.Utf8Error.TheVariants as utf8
use Rattle.property.specs.Table.{properties_at}
use Rattle.fitness.specs.Fit.{table_check}
use Rattle.fitness.specs.declared.TableError.TheVariants.{BadTable}
use Rattle.cluster.specs.First.{break_after}
use Rattle.cluster_count.specs.Count.{breaks, cluster_count, clusters_of, together}
use Rattle.pool.specs.Pool.{written}
use Rattle.fills.specs.Pad.{default, left, center, right, no_width, width_most, leading, trailing, filled}
use Rattle.pad_input.specs.Check.{text_most, Short, Begun, Paddable}
use Rattle.pad.specs.Call.{fill_of, number_of, place_of, len_of}
use Rattle.pad.specs.declared.PadError.{PadError}
use Rattle.promises.specs.Said.{Said, says}

abbrev pub pad_says : Result ℕ PadError → Said
pad_says r = says (number_of r) (place_of r)

-- ---- what is counted, and where fills stand

-- a text of code points cs has n clusters: cut at its breaks it falls into n parts, none of them empty, which together are the text; and it is
-- cut at every place after which there is a break, and nowhere else
pub record CountPromise (look : ℕ → ℕ) (edition : ℕ) (cs : List ℕ) (n : ℕ) : Type 0 where
  pub as_many : length (clusters_of look edition cs) ≡ n
  pub whole : together (clusters_of look edition cs) ≡ cs
  pub some : (i : ℕ) → i < n → 0 < length (get_or (clusters_of look edition cs) i [])
  pub each_break :
      (k : ℕ) → 0 < k → k ≤ length cs → break_after look edition cs k ≡ true
      → (i : ℕ) × ((i < n) × (get_or (breaks look edition cs) i 0 ≡ k))
  pub no_other : (i : ℕ) → i < n → break_after look edition cs (get_or (breaks look edition cs) i 0) ≡ true

-- n fills, before the text and behind it
pub record SidesPromise (n : ℕ) : Type 0 where
  pub all : (alignment : ℕ) → leading alignment n + trailing alignment n ≡ n
  pub default_is_left : leading default n ≡ leading left n
  pub left_behind : (leading left n ≡ 0) × (trailing left n ≡ n)
  pub right_before : (leading right n ≡ n) × (trailing right n ≡ 0)
  pub odd_behind : (leading center n ≤ trailing center n) × (trailing center n ≤ leading center n + 1)

-- a text of so many clusters lacks n fills: with them it reaches the width, and at or above it, and without one, it lacks none
pub record Lacks (width clusters n : ℕ) : Type 0 where
  pub without : width ≡ no_width → n ≡ 0
  pub reached : width ≤ clusters → n ≡ 0
  pub below : (width ≡ no_width → ⊥) → clusters ≤ width → clusters + n ≡ width

module _ (text : List ℕ) (alignment width : ℕ) (given : Bool) (fill table : List ℕ) (edition : ℕ) where
  -- how many clusters some bytes have
  abbrev pub clusters_in : List ℕ → ℕ
  clusters_in bytes = cluster_count (properties_at table) edition (chars bytes)

  -- no refusal before 18 is given
  pub record Asked : Type 0 where
    pub begun : Begun text given fill edition
    pub fit : table_check table ≡ Ok tt
    pub well : check_from 0 text ≡ Ok tt
    pub fill_well : given ≡ true → check_from 0 fill ≡ Ok tt

  -- nor before 19
  abbrev pub Taken : Type 0
  Taken = Paddable text alignment width given fill table edition

  -- the text between n fills, which the alignment distributes
  abbrev pub between : ℕ → List ℕ
  between n = filled alignment n (fill_of given fill) text

  -- what it ensures is `Pads`. The cases shut each other out, and leave nothing out
  pub record PadPromise (old new : List ℕ) (r : Result ℕ PadError) : Type 0 where
    pub long_text : text_most < length text → pad_says r ≡ says too_long 0
    pub long_fill_lem : length text ≤ text_most → given ≡ true → text_most < length fill → pad_says r ≡ says too_long 0
    pub bad_edition_lem : Short text given fill → (edition ≡ 1 → ⊥) → (edition ≡ 2 → ⊥) → pad_says r ≡ says bad_edition 0
    pub bad_table_lem : Begun text given fill edition → (i : ℕ) → table_check table ≡ Err (BadTable i) → pad_says r ≡ says bad_table i
    pub bad_text :
        Begun text given fill edition → table_check table ≡ Ok tt → (i : ℕ) → check_from 0 text ≡ Err (utf8.BadAt i) → pad_says r ≡ says bad_utf8 i
    pub cut_text :
        Begun text given fill edition → table_check table ≡ Ok tt → (i : ℕ) → check_from 0 text ≡ Err (utf8.CutAt i) → pad_says r ≡ says cut_utf8 i
    pub bad_fill :
        Begun text given fill edition → table_check table ≡ Ok tt → check_from 0 text ≡ Ok tt → given ≡ true → (i : ℕ)
        → check_from 0 fill ≡ Err (utf8.BadAt i) → pad_says r ≡ says bad_utf8 i
    pub cut_fill :
        Begun text given fill edition → table_check table ≡ Ok tt → check_from 0 text ≡ Ok tt → given ≡ true → (i : ℕ)
        → check_from 0 fill ≡ Err (utf8.CutAt i) → pad_says r ≡ says cut_utf8 i
    -- whether or not the fill is needed
    pub not_one_cluster : Asked → given ≡ true → (clusters_in fill ≡ 1 → ⊥) → pad_says r ≡ says no_such_format 0
    pub no_alignment : Asked → right < alignment → pad_says r ≡ says no_such_format 0
    pub no_width_lem : Asked → width_most < width → (width ≡ no_width → ⊥) → pad_says r ≡ says no_such_format 0
    pub no_room_lem : Taken → (n : ℕ) → Lacks width (clusters_in text) n → length old < length (between n) → pad_says r ≡ says no_room 0
    -- every byte past the padded text stays
    pub padded :
        Taken → (n : ℕ) → Lacks width (clusters_in text) n → length (between n) ≤ length old
        → (pad_says r ≡ says none 0) × (len_of r ≡ length (between n)) × (new ≡ written old 0 (between n))
    pub copied :
        Taken → Lacks width (clusters_in text) 0 → length text ≤ length old
        → (pad_says r ≡ says none 0) × (len_of r ≡ length text) × (new ≡ written old 0 text)
    -- a refusal writes nothing
    pub kept : (number_of r ≡ none → ⊥) → new ≡ old
