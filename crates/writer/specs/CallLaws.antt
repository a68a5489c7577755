-- Laws of the call's answer.
--     put_long, put_few, put_all    what `put_format` ensures, by its tests
--     fill_fits_lem, fill_unfit, no_fill    whether a string is written, by the fill
--     same_test, not_one    a string under a test
--     refused, no_options_lem, told    what `write_format` ensures, by what it asks
--     given_if         a fill that is not given is not looked at
--     one_answer       no second answer and no second buffer fit
--     kept             a refusal leaves the buffer
-- Assumes nothing.
use Rattle.std.specs.Prelude.{ℕ, ◌+◌, ◌<◌, ◌≤◌, ◌≡◌, List, [], ◌++◌, Bool, true, false, leb, length, is_some, unwrap_or, Result, Ok, Err}
use Rattle.std.specs.Bool.{then_some}
use Rattle.std.specs.Option.{option_copied}
use Rattle.std.specs.Borrow.{Bor}
use Rattle.std.proofs.Common.{arith, ap, ◌∙◌, length-append, lt-ltb, le-ltb, le-leb}
use Rattle.std.proofs.Math.Path.{refl, sym, subst}
use Rattle.std.proofs.lemmas.Bool.{lt-leb}
use Rattle.base.specs.Refusal.{none, format_most}
use Rattle.property.specs.Table.{properties_at}
use Rattle.input.specs.Input.{input_check}
use Rattle.input.specs.declared.Refusal.{Refusal}
use Rattle.pool.specs.Pool.{written}
use Rattle.pool.specs.WrittenLaws.{length_written, write_behind}
use Rattle.asked.specs.Fields.{are_fields, fields_of}
use Rattle.asked.specs.declared.Fields.{Fields}
use Rattle.wanted.specs.Wanted.{Filled, Bytes, Unfilled}
use Rattle.wanted.specs.Candidate.{wanted_by, candidate, fill_fits, writable, can_write}
use Rattle.wanted.specs.TailLaws.{and_yes, and_no}
use Rattle.format_parts.specs.Parts.{parts_of}
use Rattle.writer.specs.Call.{buffer_after, WritesIf, filled_by, format_for, write_answer, Writes, number_of}
use Rattle.writer.specs.declared.WriteError.{WriteError}
use Rattle.writer.specs.declared.WriteError.TheVariants.{Refused, NoSuchFormat, NoRoom}

-- ---- a string, by the tests

module _ (s old : List ℕ) where
  pub not_one : (can : Bool) → can ≡ false → WritesIf can s old old (Err NoSuchFormat)
  not_one can e = rw e (record { answer = refl; contents = refl })

  pub no_room_lem : (can : Bool) → can ≡ true → length old < length s → WritesIf can s old old (Err NoRoom)
  no_room_lem can e h = let t = lt-ltb (length old) (length s) h in record { answer = rw (e, t) refl; contents = rw (e, t) refl }

  pub enough : (can : Bool) → can ≡ true → length s ≤ length old → (n : ℕ) (new : List ℕ) → n ≡ length s → new ≡ written old 0 s
      → WritesIf can s old new (Ok n)
  enough can e h n new a b =
      let t = le-ltb (length old) (length s) h in
      record { answer = rw (e, t) (ap Ok a); contents = rw (e, t) b }

-- a fill and k bytes behind it
module _ (fill parts old : List ℕ) (k : ℕ) (e : k ≡ length parts) where
  abbrev short : Bool
  short = leb (length (fill ++ parts)) format_most

  long : length (fill ++ parts) ≡ length fill + k
  long = omega (arith, e, length-append fill parts)

  pub put_long : format_most < length fill + k → WritesIf short (fill ++ parts) old old (Err NoSuchFormat)
  put_long h = not_one (fill ++ parts) old short (lt-leb (length (fill ++ parts)) format_most (omega (arith, long)))

  module _ (h : length fill + k ≤ format_most) where
    is_short : short ≡ true
    is_short = le-leb (length (fill ++ parts)) format_most (omega (arith, long))

    pub put_few : length old < length fill + k → WritesIf short (fill ++ parts) old old (Err NoRoom)
    put_few m = no_room_lem (fill ++ parts) old short is_short (omega (arith, long))

    module _ (m : length fill + k ≤ length old) (row : List ℕ) (w : row ≡ written old 0 fill) where
      pub put_room : length fill + length parts ≤ length row
      put_room = omega (arith, e, ap length w, length_written old 0 fill (omega arith))

      pub put_all : (n : ℕ) (new : List ℕ) → (n ≡ length fill + length parts) × (new ≡ written row (length fill) parts)
          → WritesIf short (fill ++ parts) old new (Ok n)
      put_all n new v =
          enough (fill ++ parts) old short is_short (omega (arith, long)) n new (v.0 ∙ sym (length-append fill parts))
          (v.1 ∙ ap (λ (l : List ℕ). written l (length fill) parts) w ∙ write_behind old 0 (length fill) fill parts (omega arith) (omega (arith, e)))

-- the same string under a test with the same answer
pub same_test : {can can' : Bool} {s old new : List ℕ} {r : Result ℕ WriteError} → can ≡ can' → WritesIf can s old new r → WritesIf can' s old new r
same_test {can} {can'} {s} {old} {new} {r} e w = subst (λ (t : Bool). WritesIf t s old new r) e w

-- ---- whether a string is written, by the fill

module _ (look : ℕ → ℕ) (edition : ℕ) (fields : Fields) where
  pub fill_fits_lem : (fill : List ℕ) → fill_fits look edition (wanted_by fields (Bytes fill)) (Bytes fill) ≡ true
      → leb (length (fill ++ parts_of fields)) format_most ≡ writable look edition (wanted_by fields (Bytes fill))
  unfolding writable
  fill_fits_lem fill e = rw e (sym (and_yes (leb (length (fill ++ parts_of fields)) format_most)))

  pub fill_unfit : (fill : List ℕ) → fill_fits look edition (wanted_by fields (Bytes fill)) (Bytes fill) ≡ false
      → writable look edition (wanted_by fields (Bytes fill)) ≡ false
  unfolding writable
  fill_unfit fill e = rw e (and_no (leb (length (fill ++ parts_of fields)) format_most))

  pub no_fill : leb (length ([] ++ parts_of fields)) format_most ≡ writable look edition (wanted_by fields Unfilled)
  unfolding writable
  no_fill = sym (and_yes (leb (length (parts_of fields)) format_most))

-- ---- the call

module _ (alignment width precision representation : ℕ) (given : Bool) (fill table : List ℕ) (edition : ℕ) (old : List ℕ) where
  abbrev checked : Result (Unit {0}) Refusal
  checked = input_check 0 [] table edition

  abbrev answer : Result ℕ WriteError
  answer = write_answer alignment width precision representation given fill table edition (length old)

  abbrev format : List ℕ
  format = format_for alignment width precision representation given fill table edition

  pub refused : (x : Refusal) → checked ≡ Err x
      → Writes alignment width precision representation given fill table edition old old (Err (Refused x))
  refused x e = record { answer = rw e refl; contents = rw e refl }

  module _ (e : checked ≡ Ok tt) where
    pub no_options_lem : are_fields alignment width precision representation ≡ false
        → Writes alignment width precision representation given fill table edition old old (Err NoSuchFormat)
    unfolding can_write
    no_options_lem n = record { answer = rw (e, n) refl; contents = rw (e, n) refl }

    module _ (n : are_fields alignment width precision representation ≡ true) where
      -- the options and the fill that are asked for
      pub told : {new : List ℕ} {r : Result ℕ WriteError} (g : Fields) → g ≡ fields_of alignment width precision representation
          → (f : Filled) → f ≡ filled_by given fill
          → WritesIf (writable (properties_at table) edition (wanted_by g f)) (candidate (wanted_by g f)) old new r
          → Writes alignment width precision representation given fill table edition old new r
      unfolding can_write
      told {new} {r} g p f q w =
          let F : Fields → Filled → Type 0 =
          λ x y. WritesIf (writable (properties_at table) edition (wanted_by x y)) (candidate (wanted_by x y)) old new r in
          let v = subst (λ (y : Filled). F (fields_of alignment width precision representation) y) q (subst (λ (x : Fields). F x f) p w) in
          record { answer = rw (e, n) v.answer; contents = rw (e, n) v.contents }

  pub one_answer : {new new' : List ℕ} {r r' : Result ℕ WriteError} → Writes alignment width precision representation given fill table edition old new r
      → Writes alignment width precision representation given fill table edition old new' r' → (r ≡ r') × (new ≡ new')
  one_answer v w = (v.answer ∙ sym w.answer, v.contents ∙ sym w.contents)

  pub kept : {new : List ℕ} {r : Result ℕ WriteError} → Writes alignment width precision representation given fill table edition old new r
      → (number_of r ≡ none → ⊥) → new ≡ old
  kept {new} {r} v n = v.contents ∙ go answer (λ e. n (ap number_of v.answer ∙ e))
    where
      go : (a : Result ℕ WriteError) → (number_of a ≡ none → ⊥) → buffer_after a format old ≡ old
      go (Ok k) n = absurd (n refl)
      go (Err e) n = refl

module _ (alignment width precision representation : ℕ) (fill : Bor (List ℕ)) (table : List ℕ) (edition : ℕ) (old new : List ℕ) (r : Result ℕ WriteError) where
  abbrev pub WritesWith : Bool → List ℕ → Type 0
  WritesWith given bytes = Writes alignment width precision representation given bytes table edition old new r

  pub given_if : (given : Bool) → WritesWith (is_some (then_some given fill)) (unwrap_or (option_copied (then_some given fill)) []) → WritesWith given fill.now
  given_if true v = v
  given_if false v = record { answer = v.answer; contents = v.contents }
