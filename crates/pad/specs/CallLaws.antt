-- Laws of the call's answer.
--     refused, told    what `pad` ensures, by what the checks answered
--     is_checked, is_short, is_padded    the answer by what the checks answer, and, where they refuse nothing, where there is no room, and else
--     given_if         a fill that is not given is not looked at
--     one_answer       no second answer and no second buffer fit
--     kept             a refusal leaves the buffer
--     few_bytes, fits  how many bytes are needed stays below 2^64
-- Assumes nothing.
use Rattle.std.specs.Prelude.{ℕ, ◌*◌, ◌<◌, ◌≤◌, ◌≡◌, refl, List, [], Bool, true, false, length, is_some, unwrap_or, Result, Ok, Err}
use Rattle.std.specs.Bool.{then_some}
use Rattle.std.specs.Option.{option_copied}
use Rattle.std.specs.Borrow.{Bor}
use Rattle.std.proofs.Common.{arith, mul-le-mul, sym, ap, ◌∙◌, lt-ltb, le-ltb}
use Rattle.base.specs.Refusal.{none}
use Rattle.pool.specs.Pool.{written}
use Rattle.fills.specs.Pad.{width_most, is_width, fills, padded_length}
use Rattle.fills.specs.PadLaws.{fills_within}
use Rattle.property.specs.Table.{properties_at}
use Rattle.pad_input.specs.Check.{text_most, long_fill, pad_check}
use Rattle.pad.specs.Call.{padded_by, in_room, buffer_after, PadsText, fill_of, on_check, padded_text, pad_answer, Pads, number_of}
use Rattle.pad_input.specs.declared.PadRefusal.{PadRefusal}
use Rattle.pad.specs.declared.PadError.{PadError}
use Rattle.pad.specs.declared.PadError.TheVariants.{NoRoom}

module _ (text : List ℕ) (alignment width : ℕ) (given : Bool) (fill table : List ℕ) (edition : ℕ) (old : List ℕ) where
  abbrev checked : Result (Unit {0}) PadRefusal
  checked = pad_check text alignment width given fill table edition

  abbrev answer : Result ℕ PadError
  answer = pad_answer text alignment width given fill table edition (length old)

  -- the answer, by what the checks answer
  abbrev pub by_check : Result (Unit {0}) PadRefusal → Result ℕ PadError
  by_check c = on_check c (in_room (length old) (length (padded_text text alignment width given fill table edition)))

  pub is_checked : {c : Result (Unit {0}) PadRefusal} → checked ≡ c → answer ≡ by_check c
  is_checked e = ap by_check e

  -- an answer of the checks that is a refusal: whatever the padded text is, the buffer stays
  pub refused : {c : Result (Unit {0}) PadRefusal} → checked ≡ c → {r : Result ℕ PadError} → by_check c ≡ r → ((text buffer : List ℕ) → buffer_after r text buffer ≡ buffer)
      → Pads text alignment width given fill table edition old old r
  refused e {r} f k =
      let p = padded_text text alignment width given fill table edition in
      let a : answer ≡ r = is_checked e ∙ f in
      record { answer = sym a; contents = sym (k p old) ∙ ap (λ (q : Result ℕ PadError). buffer_after q p old) (sym a) }

  -- the padded text with the fill that is used
  by_fill : (used : List ℕ) → used ≡ fill_of given fill
      → padded_by (properties_at table) edition text alignment width used ≡ padded_text text alignment width given fill table edition
  by_fill used u = ap (padded_by (properties_at table) edition text alignment width) u

  pub told : checked ≡ Ok tt → (used : List ℕ) → used ≡ fill_of given fill → {new : List ℕ} {r : Result ℕ PadError}
      → PadsText (properties_at table) edition text alignment width used old new r → Pads text alignment width given fill table edition old new r
  told e used u {new} {r} w =
      let p = padded_text text alignment width given fill table edition in
      let q = by_fill used u in
      let a : r ≡ answer = w.answer ∙ ap (λ (l : List ℕ). in_room (length old) (length l)) q ∙ sym (ap (λ (c : Result (Unit {0}) PadRefusal). on_check c (in_room (length old) (length p))) e) in
      record {
        answer = a;
        contents = w.contents ∙ ap (λ (l : List ℕ). buffer_after r l old) q ∙ ap (λ (s : Result ℕ PadError). buffer_after s p old) a;
      }

  abbrev needed : ℕ
  needed = length (padded_text text alignment width given fill table edition)

  pub is_short : checked ≡ Ok tt → length old < needed → answer ≡ Err NoRoom
  is_short e h = rw (e, lt-ltb (length old) needed h)

  pub is_padded : {new : List ℕ} {r : Result ℕ PadError} → Pads text alignment width given fill table edition old new r → checked ≡ Ok tt
      → needed ≤ length old → (r ≡ Ok needed) × (new ≡ written old 0 (padded_text text alignment width given fill table edition))
  is_padded v e h =
      let p = padded_text text alignment width given fill table edition in
      let a : answer ≡ Ok needed = rw (e, le-ltb (length old) needed h) in
      (v.answer ∙ a, v.contents ∙ ap (λ (s : Result ℕ PadError). buffer_after s p old) a)

  pub one_answer : {new new' : List ℕ} {r r' : Result ℕ PadError} → Pads text alignment width given fill table edition old new r
      → Pads text alignment width given fill table edition old new' r' → (r ≡ r') × (new ≡ new')
  one_answer v w = (v.answer ∙ sym w.answer, v.contents ∙ sym w.contents)

  pub kept : {new : List ℕ} {r : Result ℕ PadError} → Pads text alignment width given fill table edition old new r → (number_of r ≡ none → ⊥) → new ≡ old
  kept {new} {r} v n = v.contents ∙ go answer (λ e. n (ap number_of v.answer ∙ e))
    where
      go : (a : Result ℕ PadError) → (number_of a ≡ none → ⊥) → buffer_after a (padded_text text alignment width given fill table edition) old ≡ old
      go (Ok k) n = absurd (n refl)
      go (Err e) n = refl

module _ (text : List ℕ) (alignment width : ℕ) (fill : Bor (List ℕ)) (table : List ℕ) (edition : ℕ) (old new : List ℕ) (r : Result ℕ PadError) where
  abbrev pub PadsWith : Bool → List ℕ → Type 0
  PadsWith given bytes = Pads text alignment width given bytes table edition old new r

  pub given_if : (given : Bool) → PadsWith (is_some (then_some given fill)) (unwrap_or (option_copied (then_some given fill)) []) → PadsWith given fill.now
  unfolding pad_check long_fill
  given_if true v = v
  given_if false v = record { answer = v.answer; contents = v.contents }

-- ---- how many bytes are needed

pub few_bytes : (n f : ℕ) → n ≤ width_most → f ≤ text_most → n * f ≤ 281470681677825
few_bytes n f h k = let m : n * f ≤ width_most * text_most = mul-le-mul h k in omega arith

pub fits : (width clusters : ℕ) (fill text : List ℕ) → is_width width ≡ true → length fill ≤ text_most → length text ≤ text_most
    → padded_length width fill text clusters < 18446744073709551616
fits width clusters fill text w f t =
    omega (arith, few_bytes (fills width clusters) (length fill) (fills_within width clusters w) f)
