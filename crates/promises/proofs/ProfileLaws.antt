-- The promise of `Profile`, proved, and that no second answer and no second list fits.
--     scan_profile_promise, scan_profile_has_one_answer
-- Assumes nothing.
use Rattle.std.specs.Prelude.{ℕ, ◌<◌, ◌≡◌, refl, List, Ok, Err, length}
use Rattle.std.proofs.Common.{arith, sym, subst}
use Rattle.std.proofs.Math.Path.{ap}
use Rattle.std.proofs.Math.Bool.{not}
use borrow.Author.Tests.{lt-ltb, le-ltb, not-true, not-false}
use Rattle.base.specs.PickLaws.{by_lt}
use Rattle.base.specs.Refusal.{none, not_in_profile}
use Rattle.fitness.specs.FirstLaws.{good_before, bad_there, is_first, none_bad}
use Rattle.input.specs.Input as input
use Rattle.input.specs.declared.Refusal.{Refusal}
use Rattle.input.specs.declared.Refusal.TheVariants.{TooLong, BadEdition, BadTable, BadUtf8, CutUtf8}
use Rattle.rows.specs.Row.{room}
use Rattle.reading.specs.Scan as scan
use Rattle.reading.specs.Scan.{reading_of, scanned, Scans}
use Rattle.reading.specs.WholeLaws.{end_whole, stuck_whole}
use Rattle.reading.specs.Scan.{Scanned}
use Rattle.reading.specs.declared.Scan.{Scan}
use Rattle.reading.specs.declared.Scan.TheVariants.{End, Stuck}
use Rattle.reading.specs.declared.ScanError.TheVariants.{Refused, ListFull, ModesFull}
use Rattle.forbidden.specs.Forbidden.{is_allowed, first_forbidden}
use Rattle.profile.specs.Profile.{judged, profiled_by, Profiles, number_of, place_of}
use Rattle.profile.proofs.ProfileLaws.{one_answer}
use Rattle.profile.specs.Profile.{Profiled}
use Rattle.profile.specs.declared.ProfileError.TheVariants.{NotInProfile}
use Rattle.promises.specs.Profile.{Allowed, First, ProfilePromise}

-- a refusal before any work is neither none nor 21
no : (x : Refusal) → input.number_of x ≡ none → ⊥
no TooLong z = omega arith
no BadEdition z = omega arith
no (BadTable i) z = omega arith
no (BadUtf8 i) z = omega arith
no (CutUtf8 i) z = omega arith

other : (x : Refusal) → input.number_of x ≡ not_in_profile → ⊥
other TooLong z = omega arith
other BadEdition z = omega arith
other (BadTable i) z = omega arith
other (BadUtf8 i) z = omega arith
other (CutUtf8 i) z = omega arith

module _ (source table : List ℕ) (edition : ℕ) where
  abbrev first : ℕ
  first = first_forbidden source table edition

  -- a scan of n records that was not refused
  module _ (n : ℕ) (e : n ≡ length (reading_of source table edition).rows) where
    found : first < n → First source table edition n first
    unfolding first_forbidden
    found h =
        record {
          within = h;
          forbidden = not-false _ (bad_there (is_allowed source table edition) 0 (length (reading_of source table edition).rows) (omega arith));
          none_before = λ j k. not-true _ (good_before (is_allowed source table edition) 0 (length (reading_of source table edition).rows) j (omega arith) k);
        }

    is_it : (i : ℕ) → First source table edition n i → first ≡ i
    unfolding first_forbidden
    is_it i f =
        is_first (is_allowed source table edition) 0 (length (reading_of source table edition).rows) i (omega arith) (omega (arith, f.within))
        (λ j _ h. ap not (f.none_before j h)) (ap not f.forbidden)

    none_is : ((i : ℕ) → i < n → Allowed source table edition i) → first ≡ n
    unfolding first_forbidden
    none_is all =
        omega (arith, none_bad (is_allowed source table edition) 0 (length (reading_of source table edition).rows) (λ k _ h. ap not (all k (omega arith))))

    judged_base : (s : Scan) → ((i : ℕ) → i < n → Allowed source table edition i) → judged first n s ≡ Ok s
    judged_base s all = rw (none_is all, le-ltb n n (omega arith))

    judged_at : (s : Scan) (i : ℕ) → First source table edition n i → judged first n s ≡ Err (NotInProfile n i)
    judged_at s i f = rw (is_it i f, lt-ltb i n f.within)

    judged_only : (s : Scan) → scan.number_of (Ok s) ≡ none → number_of (judged first n s) ≡ not_in_profile
        → First source table edition n (place_of (judged first n s))
    judged_only s z =
        by_lt (λ (r : Profiled). number_of r ≡ not_in_profile → First source table edition n (place_of r)) first n (λ h _. found h)
        (λ h m. absurd (omega arith))

  module _ (old new : List ℕ) where
    -- by what the scan answers
    promised : (s : Scanned) → Scans source table edition old s new → ProfilePromise source table edition old s (profiled_by first s) new
    promised (Ok (End n b)) p =
        let c = (end_whole source table edition old new n b p).0.counted in
        record {
          whole = p;
          refused = λ z. absurd (z refl);
          in_profile = judged_base n c (End n b);
          not_in_profile_lem = λ _. judged_at n c (End n b);
          only = λ m. (refl, judged_only n c (End n b) refl m);
        }
    promised (Ok (Stuck n b)) p =
        let c = (stuck_whole source table edition old new n b p).0.counted in
        record {
          whole = p;
          refused = λ z. absurd (z refl);
          in_profile = judged_base n c (Stuck n b);
          not_in_profile_lem = λ _. judged_at n c (Stuck n b);
          only = λ m. (refl, judged_only n c (Stuck n b) refl m);
        }
    promised (Err (Refused x)) p =
        record { whole = p; refused = λ _. refl; in_profile = λ _. refl; not_in_profile_lem = λ z. absurd (no x z); only = λ m. absurd (other x m) }
    promised (Err (ListFull n b)) p =
        record { whole = p; refused = λ _. refl; in_profile = λ _. refl; not_in_profile_lem = λ z. absurd (omega arith); only = λ m. absurd (omega arith) }
    promised (Err (ModesFull n b)) p =
        record { whole = p; refused = λ _. refl; in_profile = λ _. refl; not_in_profile_lem = λ z. absurd (omega arith); only = λ m. absurd (omega arith) }

    -- s is what the scan of the same list answers, and the list is the one that it leaves
    pub scan_profile_promise : (r : Profiled) → Profiles source table edition old r new
        → ProfilePromise source table edition old (scanned source table edition (room old)) r new
    scan_profile_promise r p =
        subst (λ (x : Profiled). ProfilePromise source table edition old (scanned source table edition (room old)) x new) (sym p.answer)
        (promised (scanned source table edition (room old)) (record { answer = refl; words = p.words }))

pub scan_profile_has_one_answer : (source table : List ℕ) (edition : ℕ) (old : List ℕ) (r q : Profiled) (new other : List ℕ)
    → Profiles source table edition old r new → Profiles source table edition old q other → (r ≡ q) × (new ≡ other)
scan_profile_has_one_answer source table edition old r q new other a b = one_answer source table edition old r q new other a b
