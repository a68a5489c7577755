-- C-14, of `pad`: fit tables that agree on the code points of the text, and on those of a fill that is given, pad alike.
--     count_agrees                  how many clusters a text has
--     check_agrees, pads_agree      the refusals before any work, and the call with its answer and the buffer after it
-- Assumes nothing.
use Prim.Native.Nat.{ℕ, suc, ◌+◌}
use Rattle.std.specs.Prelude.{◌≡◌, Bool, true, false, eqb, length, Ok, Result, Err}
use Rattle.std.proofs.Math.Path.{refl, sym}
use Rattle.std.proofs.Common.{◌∙◌}
use mathlib.Core.List.{List, [], ◌∷◌}
use Rattle.base.specs.Pick.{pick}
use Rattle.utf8.specs.Chars.{chars, check_from}
use Rattle.property.specs.Table.{properties_at}
use Rattle.fitness.specs.Fit.{table_check}
use Rattle.input.specs.Input.{on_utf8, on_input}
use Rattle.input.specs.declared.Refusal.TheVariants.{TooLong}
use Rattle.uax29.specs.Uax29.{joined}
use Rattle.cluster.specs.FirstLaws.{Agree}
use Rattle.cluster_count.specs.Count.{breaks_from, cluster_count, begun_in}
use Rattle.cluster_count.specs.CountLaws.{count_begun}
use Rattle.fills.specs.Pad.{padded}
use Rattle.pad_input.specs.Check.{of_text, of_fill, text_most, long_fill, format_check, fill_check, pad_check}
use Rattle.pad_input.specs.declared.PadRefusal.TheVariants.{NoSuchFormat}
use Rattle.agree.specs.ScanLaws.{inputs_agree}
use Rattle.pad.specs.Call.{in_room, buffer_after, fill_of, on_check, padded_text, pad_answer, Pads}
use Rattle.pad.specs.declared.PadError.{PadError}

-- ---- counting

module _ (f g : ℕ → ℕ) (edition : ℕ) where
  begun_agrees : (left cs : List ℕ) → Agree f g cs → begun_in f edition left cs ≡ begun_in g edition left cs
  unfolding begun_in
  begun_agrees left [] a = refl
  begun_agrees left (c ∷ cs) a = λ i. pick (joined edition left (a.0 i)) 0 1 + begun_agrees (a.0 i ∷ left) cs a.1 i

  pub count_agrees : (cs : List ℕ) → Agree f g cs → cluster_count f edition cs ≡ cluster_count g edition cs
  unfolding breaks_from
  count_agrees [] a = refl
  count_agrees (c ∷ cs) a =
      count_begun f edition c cs ∙ (λ i. suc (begun_agrees (a.0 i ∷ []) cs a.1 i)) ∙ sym (count_begun g edition c cs)

-- ---- padding

module _ (f g : ℕ → ℕ) (alignment width : ℕ) (fill : List ℕ) (edition : ℕ) where
  fill_agrees : Agree f g (chars fill) → fill_check f edition alignment width fill ≡ fill_check g edition alignment width fill
  unfolding fill_check
  fill_agrees a =
      λ i. on_input of_fill (on_utf8 (check_from 0 fill))
      (pick (eqb (count_agrees f g edition (chars fill) a i) 1) (format_check alignment width) (Err NoSuchFormat))

  given_agrees : (b : Bool) → (b ≡ true → Agree f g (chars fill)) → pick b (fill_check f edition alignment width fill) (format_check alignment width)
      ≡ pick b (fill_check g edition alignment width fill) (format_check alignment width)
  given_agrees true a = fill_agrees (a refl)
  given_agrees false a = refl

-- the checks, of a fill that the tables agree on if it is given
checks_agree : (text : List ℕ) (alignment width : ℕ) (given : Bool) (fill t u : List ℕ) (edition : ℕ) → table_check t ≡ Ok tt → table_check u ≡ Ok tt
    → (given ≡ true → Agree (properties_at t) (properties_at u) (chars fill))
    → pad_check text alignment width given fill t edition ≡ pad_check text alignment width given fill u edition
unfolding pad_check
checks_agree text alignment width given fill t u edition fit also a =
    λ i. pick (long_fill given fill) (of_text TooLong)
    (on_input of_text (inputs_agree text_most text t u edition fit also i)
    (given_agrees (properties_at t) (properties_at u) alignment width fill edition given a i))

module _ (text : List ℕ) (alignment width : ℕ) (given : Bool) (fill t u : List ℕ) (edition : ℕ) (fit : table_check t ≡ Ok tt)
    (also : table_check u ≡ Ok tt) (agree : Agree (properties_at t) (properties_at u) (chars text))
    (of-fill : given ≡ true → Agree (properties_at t) (properties_at u) (chars fill)) where
  pub check_agrees : pad_check text alignment width given fill t edition ≡ pad_check text alignment width given fill u edition
  check_agrees = checks_agree text alignment width given fill t u edition fit also of-fill

  text_agrees : padded_text text alignment width given fill t edition ≡ padded_text text alignment width given fill u edition
  text_agrees =
      λ i. padded alignment width (fill_of given fill) text (count_agrees (properties_at t) (properties_at u) edition (chars text) agree i)

  pub pads_agree : {old new : List ℕ} {r : Result ℕ PadError} → Pads text alignment width given fill t edition old new r
      → Pads text alignment width given fill u edition old new r
  pads_agree {old} {new} p =
      let same : pad_answer text alignment width given fill t edition (length old) ≡ pad_answer text alignment width given fill u edition (length old) =
      λ i. on_check (checks_agree text alignment width given fill t u edition fit also of-fill i) (in_room (length old) (length (text_agrees i))) in
      record { answer = p.answer ∙ same; contents = p.contents ∙ (λ i. buffer_after (same i) (text_agrees i) old) }
