-- Laws of `input_check`, for the calls that ask it and for their promises.
--     is_long, is_none, is_table, is_bad, is_cut    each refusal, where it is given
--     is_rest                                       what is left to ask where the bytes are few and the edition is one
--     bad_of, cut_of                                3 and 15 are given nowhere else
--     is_fine_lem, fine_of                              no refusal, exactly of what is readable
--     by_check_lem                                      all of these at once
--     only_bad, only_cut                            3 and 15 of an answer that carries a refusal
--     by_input_lem                                      what holds of every answer that carries a refusal, and of r, holds of what the checks make of r
-- Assumes nothing.
use Rattle.std.specs.Prelude.{ℕ, ◌<◌, ◌≤◌, ◌≡◌, Bool, List, length, Result, Ok, Err}
use Rattle.std.proofs.Common.{arith, sym, ap, subst}
use Rattle.std.proofs.Math.Path.{refl}
use Rattle.std.proofs.Math.Bool.{true, false}
use Rattle.std.proofs.Math.Dec.{ltb}
use borrow.Author.Tests.{lt-ltb, le-ltb, ltb-true, ltb-false}
use Rattle.base.specs.Pick.{pick}
use Rattle.base.specs.Refusal.{none, bad_utf8, cut_utf8}
use Rattle.utf8.specs.Chars.{check_from}
use Rattle.utf8.specs.CharsLaws.{fine_of_well, well_of_fine}
use Rattle.utf8.specs.Meaning.{Arriving, Damaged}
use Rattle.utf8.specs.MeaningLaws.{check_is, is_check}
use Rattle.utf8.specs.declared.Utf8Error.{Utf8Error}
use Rattle.utf8.specs.declared.Utf8Error.TheVariants as utf8
use Rattle.fitness.specs.Fit.{table_check}
use Rattle.fitness.specs.declared.TableError.{TableError}
use Rattle.fitness.specs.declared.TableError.TheVariants as fitness
use Rattle.input.specs.Input.{is_edition, on_table, on_utf8, input_check, Readable, on_input, number_of, place_of}
use Rattle.input.specs.declared.Refusal.{Refusal}
use Rattle.input.specs.declared.Refusal.TheVariants.{TooLong, BadEdition, BadTable, BadUtf8, CutUtf8}

module _ (most : ℕ) (bytes table : List ℕ) (edition : ℕ) where
  pub is_long : most < length bytes → input_check most bytes table edition ≡ Err TooLong
  unfolding input_check
  is_long h = rw (lt-ltb most (length bytes) h) refl

  pub is_none : length bytes ≤ most → is_edition edition ≡ false → input_check most bytes table edition ≡ Err BadEdition
  unfolding input_check
  is_none h k = rw (le-ltb most (length bytes) h, k)

  module _ (h : length bytes ≤ most) (k : is_edition edition ≡ true) where
    pub is_rest : input_check most bytes table edition ≡ on_table (table_check table) (on_utf8 (check_from 0 bytes))
    unfolding input_check
    is_rest = rw (le-ltb most (length bytes) h, k)

    pub is_table : (i : ℕ) → table_check table ≡ Err (fitness.BadTable i) → input_check most bytes table edition ≡ Err (BadTable i)
    unfolding input_check
    is_table i e = rw (le-ltb most (length bytes) h, k, e)

    pub is_bad : table_check table ≡ Ok tt → (n : ℕ) → Damaged bytes n → input_check most bytes table edition ≡ Err (BadUtf8 n)
    unfolding input_check
    is_bad e n w = rw (le-ltb most (length bytes) h, k, e, is_check bytes (Err (utf8.BadAt n)) w)

    pub is_cut : table_check table ≡ Ok tt → (n : ℕ) → Arriving bytes n → input_check most bytes table edition ≡ Err (CutUtf8 n)
    unfolding input_check
    is_cut e n w = rw (le-ltb most (length bytes) h, k, e, is_check bytes (Err (utf8.CutAt n)) w)

  pub is_fine_lem : Readable most bytes table edition → input_check most bytes table edition ≡ Ok tt
  unfolding input_check
  is_fine_lem g = rw (le-ltb most (length bytes) g.short, g.known, g.fit, fine_of_well 0 bytes g.well)

  -- what holds of each answer where it is given holds of what the tests come to
  by_tests : (P : Result (Unit {0}) Refusal → Type 0) → (most < length bytes → P (Err TooLong))
      → (length bytes ≤ most → is_edition edition ≡ false → P (Err BadEdition))
      → (length bytes ≤ most → (i : ℕ) → table_check table ≡ Err (fitness.BadTable i) → P (Err (BadTable i)))
      → ((n : ℕ) → Damaged bytes n → P (Err (BadUtf8 n))) → ((n : ℕ) → Arriving bytes n → P (Err (CutUtf8 n)))
      → (Readable most bytes table edition → P (Ok tt))
      → P (pick (ltb most (length bytes)) (Err TooLong) (pick (is_edition edition) (on_table (table_check table) (on_utf8 (check_from 0 bytes))) (Err BadEdition)))
  by_tests P long none table-bad bad cut fine = go (ltb most (length bytes)) (is_edition edition) (table_check table) (check_from 0 bytes) refl refl refl refl
    where
      go : (b k : Bool) (t : Result (Unit {0}) TableError) (u : Result (Unit {0}) Utf8Error) → ltb most (length bytes) ≡ b → is_edition edition ≡ k → table_check table ≡ t → check_from 0 bytes ≡ u
          → P (pick b (Err TooLong) (pick k (on_table t (on_utf8 u)) (Err BadEdition)))
      go true k t u h j f w = long (ltb-true _ _ h)
      go false false t u h j f w = none (ltb-false _ _ h) j
      go false true (Err (fitness.BadTable i)) u h j f w = table-bad (ltb-false _ _ h) i f
      go false true (Ok _) (Err (utf8.BadAt n)) h j f w = bad n (check_is bytes (Err (utf8.BadAt n)) w)
      go false true (Ok _) (Err (utf8.CutAt n)) h j f w = cut n (check_is bytes (Err (utf8.CutAt n)) w)
      go false true (Ok _) (Ok _) h j f w = fine (record { short = ltb-false _ _ h; known = j; fit = f; well = well_of_fine 0 bytes w })

  -- of the answer itself
  pub by_check_lem : (P : Result (Unit {0}) Refusal → Type 0) → (most < length bytes → P (Err TooLong))
      → (length bytes ≤ most → is_edition edition ≡ false → P (Err BadEdition))
      → (length bytes ≤ most → (i : ℕ) → table_check table ≡ Err (fitness.BadTable i) → P (Err (BadTable i)))
      → ((n : ℕ) → Damaged bytes n → P (Err (BadUtf8 n))) → ((n : ℕ) → Arriving bytes n → P (Err (CutUtf8 n)))
      → (Readable most bytes table edition → P (Ok tt)) → P (input_check most bytes table edition)
  unfolding input_check
  by_check_lem = by_tests

  pub fine_of : input_check most bytes table edition ≡ Ok tt → Readable most bytes table edition
  unfolding input_check
  fine_of =
      by_tests (λ (c : Result (Unit {0}) Refusal). c ≡ Ok tt → Readable most bytes table edition) (λ h e. cc) (λ h k e. cc) (λ h i f e. cc)
      (λ n w e. cc) (λ n w e. cc) (λ g e. g)

  -- 3 and 15, by their numbers
  module _ (x : Refusal) where
    abbrev told : Result (Unit {0}) Refusal → ℕ
    told (Ok _) = none
    told (Err y) = number_of y

    abbrev place : Result (Unit {0}) Refusal → ℕ
    place (Ok _) = 0
    place (Err y) = place_of y

    pub bad_of : input_check most bytes table edition ≡ Err x → number_of x ≡ bad_utf8 → Damaged bytes (place_of x)
    unfolding input_check
    bad_of =
        by_tests (λ (c : Result (Unit {0}) Refusal). c ≡ Err x → number_of x ≡ bad_utf8 → Damaged bytes (place_of x)) (λ h e m. absurd (omega (arith, ap told e)))
        (λ h k e m. absurd (omega (arith, ap told e)))
        (λ h i f e m. absurd (omega (arith, ap told e))) (λ n w e m. subst (Damaged bytes) (ap place e) w)
        (λ n w e m. absurd (omega (arith, ap told e))) (λ g e m. absurd (omega (arith, ap told e)))

    pub cut_of : input_check most bytes table edition ≡ Err x → number_of x ≡ cut_utf8 → Arriving bytes (place_of x)
    unfolding input_check
    cut_of =
        by_tests (λ (c : Result (Unit {0}) Refusal). c ≡ Err x → number_of x ≡ cut_utf8 → Arriving bytes (place_of x)) (λ h e m. absurd (omega (arith, ap told e)))
        (λ h k e m. absurd (omega (arith, ap told e)))
        (λ h i f e m. absurd (omega (arith, ap told e))) (λ n w e m. absurd (omega (arith, ap told e)))
        (λ n w e m. subst (Arriving bytes) (ap place e) w) (λ g e m. absurd (omega (arith, ap told e)))

  -- an answer that carries a refusal under its number and place, or is r, whose number is another
  module _ {A : Type 0} (f : Refusal → A) (number place : A → ℕ) (r : A) (numbers : (x : Refusal) → number (f x) ≡ number_of x)
      (places : (x : Refusal) → place (f x) ≡ place_of x) where
    abbrev answer : Result (Unit {0}) Refusal → A
    answer c = on_input f c r

    pub only_bad : (number r ≡ bad_utf8 → ⊥) → number (answer (input_check most bytes table edition)) ≡ bad_utf8
        → Damaged bytes (place (answer (input_check most bytes table edition)))
    unfolding input_check
    only_bad never =
        by_tests (λ (c : Result (Unit {0}) Refusal). number (answer c) ≡ bad_utf8 → Damaged bytes (place (answer c))) (λ h m. absurd (omega (arith, numbers TooLong, m)))
        (λ h k m. absurd (omega (arith, numbers BadEdition, m)))
        (λ h i f m. absurd (omega (arith, numbers (BadTable i), m))) (λ n w m. subst (Damaged bytes) (sym (places (BadUtf8 n))) w)
        (λ n w m. absurd (omega (arith, numbers (CutUtf8 n), m))) (λ g m. absurd (never m))

    pub only_cut : (number r ≡ cut_utf8 → ⊥) → number (answer (input_check most bytes table edition)) ≡ cut_utf8
        → Arriving bytes (place (answer (input_check most bytes table edition)))
    unfolding input_check
    only_cut never =
        by_tests (λ (c : Result (Unit {0}) Refusal). number (answer c) ≡ cut_utf8 → Arriving bytes (place (answer c))) (λ h m. absurd (omega (arith, numbers TooLong, m)))
        (λ h k m. absurd (omega (arith, numbers BadEdition, m)))
        (λ h i f m. absurd (omega (arith, numbers (BadTable i), m))) (λ n w m. absurd (omega (arith, numbers (BadUtf8 n), m)))
        (λ n w m. subst (Arriving bytes) (sym (places (CutUtf8 n))) w) (λ g m. absurd (never m))

-- what the checks make of r: a refusal, or r as it is
pub by_input_lem : {A : Type 0} (f : Refusal → A) (P : (A → A) → Type 0) (c : Result (Unit {0}) Refusal) → ((x : Refusal) → P (λ _. f x)) → P (λ r. r)
    → P (λ r. on_input f c r)
by_input_lem f P (Ok _) refused fine = fine
by_input_lem f P (Err x) refused fine = refused x
