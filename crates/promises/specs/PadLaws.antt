-- The promise of `Pad`, proved, and that no second answer and no second buffer fit.
--     pad_promise, pad_has_one_answer
--     count_promise        what is counted are the clusters
--     sides_promise        where the fills stand
--     one_lack             no second number of fills fits
--     length_fits          how many bytes are needed is a number of 64 bits
--     alignment_numbers    an alignment's number is the one that a parse tells of it
-- Assumes nothing.
use Rattle.std.specs.Prelude.{ℕ, ◌<◌, ◌≤◌, ◌≡◌, refl, Bool, true, false, ◌&&◌, List, leb, length, Result, Ok, Err}
use Rattle.std.proofs.Common.{arith, sym, ap, ◌∙◌, ne_eqb}
use Rattle.std.proofs.lemmas.Bool.{lt-leb}
use Rattle.base.specs.Refusal.{none}
use Rattle.base.specs.PickLaws.{by_eq, split_lt}
use Rattle.format_options.specs.Options.{alignment_number}
use Rattle.format_options.specs.declared.Alignment.TheVariants as alignment
use Rattle.pool.specs.Pool.{written}
use Rattle.cluster_count.specs.Count.{cluster_count}
use Rattle.cluster_count.specs.CountLaws.{each_break, no_other}
use Rattle.cluster_count.specs.CutLaws.{cut_count, cut_all, cut_some}
use Rattle.fills.specs.Pad.{default, left, center, right, no_width, width_most, is_width, fills}
use Rattle.fills.specs.PadLaws.{all_fills, default_left, left_behind, right_before, odd_right, no_fills, length_padded}
use Rattle.pad_input.specs.Check.{text_most, is_format, pad_check}
use Rattle.pad_input.specs.CheckLaws.{long_text, fill_long, no_edition, unfit, bad_text, cut_text, bad_fill, cut_fill, not_one, no_format, is_fine_lem, width_of_lem}
use Rattle.pad_input.specs.declared.PadRefusal.{PadRefusal}
use Rattle.pad_input.specs.declared.PadRefusal.TheVariants as check
use Rattle.pad.specs.Call.{fill_of, Pads, padded_text, len_of}
use Rattle.pad.specs.CallLaws.{fits, by_check, is_checked, is_short, is_padded, one_answer, kept}
use Rattle.pad.specs.declared.PadError.{PadError}
use Rattle.pad.specs.declared.PadError.TheVariants.{NoRoom}
use Rattle.promises.specs.Said.{says}
use Rattle.promises.specs.Pad.{pad_says, CountPromise, SidesPromise, Lacks, clusters_in, Asked, Taken, between, PadPromise}

-- ---- what is counted, and where fills stand

pub count_promise : (look : ℕ → ℕ) (edition : ℕ) (cs : List ℕ) → CountPromise look edition cs (cluster_count look edition cs)
count_promise look edition cs =
    record {
      as_many = cut_count look edition cs;
      whole = cut_all look edition cs;
      some = cut_some look edition cs;
      each_break = each_break look edition cs;
      no_other = λ i h. (no_other look edition cs i h).1.1;
    }

pub sides_promise : (n : ℕ) → SidesPromise n
sides_promise n =
    record {
      all = λ alignment. all_fills alignment n;
      default_is_left = default_left n;
      left_behind = left_behind n;
      right_before = right_before n;
      odd_behind = odd_right n;
    }

-- ---- how many fills a text lacks

lacks_is : (width clusters n : ℕ) → Lacks width clusters n → fills width clusters ≡ n
lacks_is width clusters n l =
    by_eq (λ (k : ℕ). k ≡ n) width no_width (λ e. sym (l.without e))
    (λ e. split_lt clusters width (λ h. omega (arith, l.below e (omega arith))) (λ h. omega (arith, l.reached h)))

pub one_lack : (width clusters m n : ℕ) → Lacks width clusters m → Lacks width clusters n → m ≡ n
one_lack width clusters m n k l = sym (lacks_is width clusters m k) ∙ lacks_is width clusters n l

-- ---- the numbers of an alignment

pub alignment_numbers :
    (alignment_number alignment.Default ≡ default)
    × (alignment_number alignment.Left ≡ left)
    × (alignment_number alignment.Center ≡ center)
    × (alignment_number alignment.Right ≡ right)
alignment_numbers = (refl, refl, refl, refl)

-- ---- numbers that are none

no_alignment_is : (alignment width : ℕ) → right < alignment → is_format alignment width ≡ false
unfolding is_format
no_alignment_is alignment width h = rw (lt-leb alignment right h)

no_width_is : (alignment width : ℕ) → width_most < width → (width ≡ no_width → ⊥) → is_format alignment width ≡ false
unfolding is_format is_width
no_width_is alignment width h n = rw (ne_eqb width no_width n, lt-leb width width_most h) (go (leb alignment right))
  where
    go : (t : Bool) → (t && false) ≡ false
    go true = refl
    go false = refl

module _ (text : List ℕ) (alignment width : ℕ) (given : Bool) (fill table : List ℕ) (edition : ℕ) where
  -- the padded text, where n fills are lacking
  text_is : (n : ℕ) → Lacks width (clusters_in text alignment width given fill table edition text) n
      → padded_text text alignment width given fill table edition ≡ between text alignment width given fill table edition n
  text_is n l = ap (between text alignment width given fill table edition) (lacks_is width _ n l)

  pub length_fits : Taken text alignment width given fill table edition
      → length (padded_text text alignment width given fill table edition) < 18446744073709551616
  length_fits t = rw (length_padded alignment width (fill_of given fill) text _) (fits width _ (fill_of given fill) text (width_of_lem alignment width t.format) (go given t.begun.short.fill_short) t.begun.short.text_short)
    where
      go : (b : Bool) → (b ≡ true → length fill ≤ text_most) → length (fill_of b fill) ≤ text_most
      go true f = f refl
      go false f = omega arith

  module _ (old new : List ℕ) (r : Result ℕ PadError) (p : Pads text alignment width given fill table edition old new r) where
    says_checked : {c : Result (Unit {0}) PadRefusal} → pad_check text alignment width given fill table edition ≡ c
        → pad_says r ≡ pad_says (by_check text alignment width given fill table edition old c)
    says_checked e = ap pad_says (p.answer ∙ is_checked text alignment width given fill table edition old e)

    fine : Taken text alignment width given fill table edition → pad_check text alignment width given fill table edition ≡ Ok tt
    fine t = is_fine_lem text alignment width given fill table edition t

    pub pad_promise : PadPromise text alignment width given fill table edition old new r
    pad_promise =
        record {
          long_text = λ h. says_checked (long_text text alignment width given fill table edition h);
          long_fill_lem = λ s g h. says_checked (fill_long text alignment width given fill table edition g h);
          bad_edition_lem = λ s one two. says_checked (no_edition text alignment width given fill table edition s one two);
          bad_table_lem = λ b i e. says_checked (unfit text alignment width given fill table edition b i e);
          bad_text = λ b f i e. says_checked (bad_text text alignment width given fill table edition b f i e);
          cut_text = λ b f i e. says_checked (cut_text text alignment width given fill table edition b f i e);
          bad_fill = λ b f w g i e. says_checked (bad_fill text alignment width given fill table edition b f w g i e);
          cut_fill = λ b f w g i e. says_checked (cut_fill text alignment width given fill table edition b f w g i e);
          not_one_cluster =
              λ a g n.
              says_checked (not_one text alignment width given fill table edition a.begun a.fit a.well g (a.fill_well g) n);
          no_alignment = λ a h. says_checked (none_such a (no_alignment_is alignment width h));
          no_width_lem = λ a h n. says_checked (none_such a (no_width_is alignment width h n));
          no_room_lem = λ t n l h. ap pad_says (short t n l h);
          padded = λ t n l h. enough t (between text alignment width given fill table edition n) (text_is n l) h;
          copied = λ t l h. enough t text (text_is 0 l ∙ no_fills alignment _ text) h;
          kept = kept text alignment width given fill table edition old p;
        }
      where
        none_such : Asked text alignment width given fill table edition → is_format alignment width ≡ false
            → pad_check text alignment width given fill table edition ≡ Err check.NoSuchFormat
        none_such a e = no_format text alignment width given fill table edition a.begun a.fit a.well a.fill_well e

        short : Taken text alignment width given fill table edition → (n : ℕ)
            → Lacks width (clusters_in text alignment width given fill table edition text) n
            → length old < length (between text alignment width given fill table edition n) → r ≡ Err NoRoom
        short t n l h =
            let e = ap length (text_is n l) in
            p.answer ∙ is_short text alignment width given fill table edition old (fine t) (omega arith)

        enough : Taken text alignment width given fill table edition → (result : List ℕ)
            → padded_text text alignment width given fill table edition ≡ result → length result ≤ length old
            → (pad_says r ≡ says none 0) × (len_of r ≡ length result) × (new ≡ written old 0 result)
        enough t result q h =
            let e = ap length q in
            let w = is_padded text alignment width given fill table edition old p (fine t) (omega arith) in
            (ap pad_says w.0, ap len_of w.0 ∙ e, w.1 ∙ ap (written old 0) q)

  pub pad_has_one_answer :
      (old new new' : List ℕ) (r q : Result ℕ PadError) → Pads text alignment width given fill table edition old new r
      → Pads text alignment width given fill table edition old new' q → (r ≡ q) × (new ≡ new')
  pad_has_one_answer old new new' r q v w = one_answer text alignment width given fill table edition old v w
