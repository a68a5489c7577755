-- Laws of the checks.
--     long_text, fill_long, no_edition       refusals 1 and 17
--     unfit, bad_text, cut_text              2, 3 and 15 of the text, where nothing was refused before
--     bad_fill, cut_fill, not_one, no_format the fill's, and 18
--     is_fine_lem, fine_parts                    no refusal, exactly of what is `Paddable`
--     width_of_lem                               what `is_format` says of a width
-- Assumes nothing.
use Rattle.std.specs.Prelude.{ℕ, ◌<◌, ◌≤◌, List, ◌&&◌, leb, Result, Ok, Err}
use Rattle.std.proofs.Common.{arith, ◌∙◌}
use Rattle.std.proofs.Math.Path.{◌≡◌, refl}
use Rattle.std.proofs.Math.Bool.{Bool, true, false}
use Rattle.std.proofs.Math.Dec.{ltb, eqb}
use Rattle.std.proofs.Math.ListN.{length}
use borrow.Author.Tests.{ltb-false, eqb-true, lt-ltb, le-ltb, eq-eqb, ne_eqb}
use Rattle.base.specs.Pick.{pick}
use Rattle.base.specs.PickLaws.{is_second, split_lt, split_eq}
use Rattle.base.specs.RangeLaws.{inside_is, is_inside, under, over}
use Rattle.utf8.specs.Chars.{chars, check_from}
use Rattle.utf8.specs.CharsLaws.{fine_of_well}
use Rattle.utf8.specs.declared.Utf8Error.{Utf8Error}
use Rattle.utf8.specs.declared.Utf8Error.TheVariants as utf8
use Rattle.property.specs.Table.{properties_at}
use Rattle.fitness.specs.Fit.{table_check}
use Rattle.fitness.specs.declared.TableError.TheVariants as fitness
use Rattle.input.specs.Input.{is_edition, on_table, on_utf8, input_check, on_input}
use Rattle.input.specs.InputLaws.{is_long, is_none, is_rest, fine_of}
use Rattle.input.specs.declared.Refusal.{Refusal}
use Rattle.input.specs.declared.Refusal.TheVariants.{TooLong, BadEdition, BadTable, BadUtf8, CutUtf8}
use Rattle.cluster_count.specs.Count.{cluster_count}
use Rattle.fills.specs.Pad.{right, is_width}
use Rattle.pad_input.specs.Check.{of_text, of_fill, text_most, long_fill, is_format, format_check, fill_check, pad_check, Short, Begun, Paddable}
use Rattle.pad_input.specs.declared.PadRefusal.{PadRefusal}
use Rattle.pad_input.specs.declared.PadRefusal.TheVariants.{NoSuchFormat}

never : {A : Type 0} (x : Refusal) → of_text x ≡ Ok tt → A
never x e = absurd (let z : ◌≡◌ {A = ℕ} 0 1 = cc in omega arith)

input_fine : (c : Result (Unit {0}) Refusal) (r : Result (Unit {0}) PadRefusal) → on_input of_text c r ≡ Ok tt → (c ≡ Ok tt) × (r ≡ Ok tt)
input_fine (Ok _) r e = (refl, e)
input_fine (Err x) r e = never x e

fill_fine : (x : Result (Unit {0}) Utf8Error) (r : Result (Unit {0}) PadRefusal) → on_input of_fill (on_utf8 x) r ≡ Ok tt → (x ≡ Ok tt) × (r ≡ Ok tt)
fill_fine (Ok _) r e = (refl, e)
fill_fine (Err (utf8.BadAt i)) r e = absurd (let z : ◌≡◌ {A = ℕ} 0 1 = cc in omega arith)
fill_fine (Err (utf8.CutAt i)) r e = absurd (let z : ◌≡◌ {A = ℕ} 0 1 = cc in omega arith)

short_fill : (given : Bool) (fill : List ℕ) → long_fill given fill ≡ false → given ≡ true → length fill ≤ text_most
unfolding long_fill
short_fill true fill e t = ltb-false text_most (length fill) e
short_fill false fill e t = absurd (let z : ◌≡◌ {A = ℕ} 0 1 = cc in omega arith)

pub width_of_lem : (alignment width : ℕ) → is_format alignment width ≡ true → is_width width ≡ true
unfolding is_format
width_of_lem alignment width e = go (leb alignment right) e
  where
    go : (t : Bool) → (t && is_width width) ≡ true → is_width width ≡ true
    go true e = e
    go false e = absurd (let z : ◌≡◌ {A = ℕ} 0 1 = cc in omega arith)

-- a pick whose second case is 18
first_case : (t : Bool) (a : Result (Unit {0}) PadRefusal) → pick t a (Err NoSuchFormat) ≡ Ok tt → (t ≡ true) × (a ≡ Ok tt)
first_case true a e = (refl, e)
first_case false a e = absurd (let z : ◌≡◌ {A = ℕ} 0 1 = cc in omega arith)

format_fine : (alignment width : ℕ) → format_check alignment width ≡ Ok tt → is_format alignment width ≡ true
unfolding format_check
format_fine alignment width e = (first_case (is_format alignment width) (Ok tt) e).0

-- the rest of the checks, behind those of the text
module _ (look : ℕ → ℕ) (edition alignment width : ℕ) (fill : List ℕ) where
  rest_parts : (given : Bool) → pick given (fill_check look edition alignment width fill) (format_check alignment width) ≡ Ok tt
      → (is_format alignment width ≡ true)
      × ((given ≡ true → check_from 0 fill ≡ Ok tt) × (given ≡ true → cluster_count look edition (chars fill) ≡ 1))
  unfolding fill_check
  rest_parts true e =
      let u = fill_fine (check_from 0 fill) _ e in
      let o = first_case (eqb (cluster_count look edition (chars fill)) 1) _ u.1 in
      (format_fine alignment width o.1, (λ t. u.0, λ t. eqb-true _ 1 o.0))
  rest_parts false e =
      let no : false ≡ true → ⊥ = λ t. (let z : ◌≡◌ {A = ℕ} 0 1 = cc in omega arith) in
      (format_fine alignment width e, (λ t. absurd (no t), λ t. absurd (no t)))

module _ (text : List ℕ) (alignment width : ℕ) (given : Bool) (fill table : List ℕ) (edition : ℕ) where
  abbrev look : ℕ → ℕ
  look = properties_at table

  abbrev rest : Result (Unit {0}) PadRefusal
  rest = pick given (fill_check look edition alignment width fill) (format_check alignment width)

  abbrev check : Result (Unit {0}) PadRefusal
  check = pad_check text alignment width given fill table edition

  -- what the checks of the text, the edition and the table answer
  abbrev checked : Result (Unit {0}) Refusal
  checked = input_check text_most text table edition

  -- ---- 1 and 17

  pub long_text : text_most < length text → check ≡ of_text TooLong
  unfolding pad_check
  long_text h = rw (is_long text_most text table edition h) (go (long_fill given fill))
    where
      go : (t : Bool) → pick t (of_text TooLong) (of_text TooLong) ≡ of_text TooLong
      go true = refl
      go false = refl

  pub fill_long : given ≡ true → text_most < length fill → check ≡ of_text TooLong
  unfolding pad_check long_fill
  fill_long g h = rw (g, lt-ltb text_most (length fill) h)

  fill_short_enough : (given ≡ true → length fill ≤ text_most) → long_fill given fill ≡ false
  unfolding long_fill
  fill_short_enough f = go given f
    where
      go : (t : Bool) → (t ≡ true → length fill ≤ text_most) → (t && ltb text_most (length fill)) ≡ false
      go true f = le-ltb text_most (length fill) (f refl)
      go false f = refl

  -- once the fill is not too long
  by_text : (given ≡ true → length fill ≤ text_most) → check ≡ on_input of_text checked rest
  unfolding pad_check
  by_text f = rw (fill_short_enough f)

  pub no_edition : Short text given fill → (edition ≡ 1 → ⊥) → (edition ≡ 2 → ⊥) → check ≡ of_text BadEdition
  no_edition s one two = by_text s.fill_short ∙ rw (is_none text_most text table edition s.text_short none)
    where
      none : is_edition edition ≡ false
      none =
          split_lt edition 1 (under edition 1 2)
          (λ h. split_lt 2 edition (over edition 1 2)
          (λ k. absurd (split_eq edition 1 one (λ n. split_eq edition 2 two (λ m. between n m h k)))))
        where
          between : (edition ≡ 1 → ⊥) → (edition ≡ 2 → ⊥) → 1 ≤ edition → edition ≤ 2 → ⊥
          between n m h k = split_lt edition 2 (λ l. n (omega arith)) (λ l. m (omega arith))

  -- ---- behind them

  module _ (b : Begun text given fill edition) where
    opened : check ≡ on_input of_text (on_table (table_check table) (on_utf8 (check_from 0 text))) rest
    opened =
        by_text b.short.fill_short
        ∙ rw (is_rest text_most text table edition b.short.text_short (is_inside edition 1 2 b.edition_some b.edition_most))

    pub unfit : (i : ℕ) → table_check table ≡ Err (fitness.BadTable i) → check ≡ of_text (BadTable i)
    unfit i e = opened ∙ rw e

    module _ (f : table_check table ≡ Ok tt) where
      pub bad_text : (i : ℕ) → check_from 0 text ≡ Err (utf8.BadAt i) → check ≡ of_text (BadUtf8 i)
      bad_text i e = opened ∙ rw (f, e)

      pub cut_text : (i : ℕ) → check_from 0 text ≡ Err (utf8.CutAt i) → check ≡ of_text (CutUtf8 i)
      cut_text i e = opened ∙ rw (f, e)

      module _ (w : check_from 0 text ≡ Ok tt) where
        asked : check ≡ rest
        asked = opened ∙ rw (f, w)

        pub bad_fill : given ≡ true → (i : ℕ) → check_from 0 fill ≡ Err (utf8.BadAt i) → check ≡ of_fill (BadUtf8 i)
        unfolding fill_check
        bad_fill g i e = asked ∙ rw (g, e)

        pub cut_fill : given ≡ true → (i : ℕ) → check_from 0 fill ≡ Err (utf8.CutAt i) → check ≡ of_fill (CutUtf8 i)
        unfolding fill_check
        cut_fill g i e = asked ∙ rw (g, e)

        pub not_one : given ≡ true → check_from 0 fill ≡ Ok tt → (cluster_count look edition (chars fill) ≡ 1 → ⊥)
            → check ≡ Err NoSuchFormat
        unfolding fill_check
        not_one g e n = asked ∙ rw (g, e, ne_eqb (cluster_count look edition (chars fill)) 1 n)

        pub no_format : (given ≡ true → check_from 0 fill ≡ Ok tt) → is_format alignment width ≡ false → check ≡ Err NoSuchFormat
        unfolding fill_check format_check
        no_format e n = asked ∙ go given e
          where
            one : Bool
            one = eqb (cluster_count look edition (chars fill)) 1

            both : (t : Bool) → pick t (pick (is_format alignment width) (Ok (tt {0})) (Err NoSuchFormat)) (Err NoSuchFormat) ≡ Err NoSuchFormat
            both true = rw n
            both false = refl

            go : (t : Bool) → (t ≡ true → check_from 0 fill ≡ Ok tt)
                → pick t (fill_check look edition alignment width fill) (format_check alignment width) ≡ Err NoSuchFormat
            go true e = rw (e refl) (both one)
            go false e = rw n

  -- ---- no refusal

  pub fine_parts : check ≡ Ok tt → Paddable text alignment width given fill table edition
  unfolding pad_check
  fine_parts e =
      let a = is_second (long_fill given fill) (of_text TooLong) _ (Ok tt) (never TooLong) e in
      let b = input_fine checked rest a.1 in
      let g = fine_of text_most text table edition b.0 in
      let known = inside_is edition 1 2 g.known in
      let r = rest_parts look edition alignment width fill given b.1 in
      record {
        begun =
            record {
              short = record { text_short = g.short; fill_short = short_fill given fill a.0 };
              edition_some = known.0;
              edition_most = known.1;
            };
        fit = g.fit;
        well = fine_of_well 0 text g.well;
        fill_well = r.1.0;
        fill_one = r.1.1;
        format = r.0;
      }

  pub is_fine_lem : Paddable text alignment width given fill table edition → check ≡ Ok tt
  unfolding fill_check format_check
  is_fine_lem p = asked p.begun p.fit p.well ∙ go given p.fill_well p.fill_one
    where
      go : (t : Bool) → (t ≡ true → check_from 0 fill ≡ Ok tt) → (t ≡ true → cluster_count look edition (chars fill) ≡ 1)
          → pick t (fill_check look edition alignment width fill) (format_check alignment width) ≡ Ok tt
      go true w o = rw (w refl, eq-eqb (cluster_count look edition (chars fill)) 1 (o refl), p.format)
      go false w o = rw p.format
