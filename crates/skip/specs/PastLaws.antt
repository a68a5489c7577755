-- What passing bytes at once does to the loops of the definitions.
--     along_none                 past no bytes
--     past_end, past_from        where reading comes to past some bytes
--     past_going                 a loop over turns that each pass one byte and one column
--     past_ran                   a run of characters that pass at once
-- Assumes nothing.
use Rattle.std.specs.Prelude.{ℕ, zero, suc, ◌+◌, ◌-◌, ◌≤◌, ◌<◌, ◌≡◌, refl, Bool, true, List, length, get_or, drop}
use Rattle.std.proofs.Common.{arith, add-zero, sym, ap, subst, ◌∙◌}
use Rattle.position.specs.Place.{along_by}
use Rattle.position.specs.declared.Reach.{Reach}
use Rattle.utf8.specs.Encode.{WellFormed}
use Rattle.utf8.specs.Chars.{chars}
use Rattle.utf8.specs.CharsLaws.{at_char, rest_at, ascii_at}
use Rattle.property.specs.Table.{properties_at}
use Rattle.fitness.specs.Fit.{FitTable}
use Rattle.text.specs.Tests.{test_utf8_of}
use Rattle.text.specs.Count.{run_utf8, run_test}
use Rattle.text.specs.CountLaws.{run_more, along_stands, AtOnce}
use Rattle.text.specs.Follow.{turn_at}
use Rattle.text.specs.Stands.{Stands, Safe, Going, chars_from}
use Rattle.text.specs.FollowLaws.{passes}
use Rattle.text.specs.declared.Turn.{Turn}
use Rattle.text.specs.declared.Turn.TheVariants.{Pass}
use Rattle.skip.specs.Skip.{Passed, Past}

-- ---- places

pub along_none : (r : Reach) → r ≡ along_by 0 0 r
along_none r = simp add-zero

along_more : (n : ℕ) (r : Reach) → along_by n n (along_by 1 1 r) ≡ along_by (suc n) (suc n) r
along_more n r =
    let b : r.byte.0 + 1 + n ≡ r.byte.0 + suc n = omega arith in
    let c : r.position.column.0 + 1 + n ≡ r.position.column.0 + suc n = omega arith in
    rw (b, c)

pub past_end : {test : ℕ → Bool} {s : List ℕ} (r : Reach) {q : Reach} {j : ℕ} → Passed test s r.byte.0 j
    → q ≡ along_by (j - r.byte.0) (j - r.byte.0) r → j ≡ q.byte.0
past_end r {q} {j} p e =
    let k : q.byte.0 ≡ r.byte.0 + (j - r.byte.0) = ap (λ (x : Reach). x.byte.0) e in
    omega (arith, p.on)

pub past_from : {test : ℕ → Bool} {s : List ℕ} {r q : Reach} {j : ℕ} → Passed test s r.byte.0 j
    → q ≡ along_by (j - r.byte.0) (j - r.byte.0) r → Past test s r q
past_from {test} {s} {r} {q} {j} p e =
    let m = past_end r p e in
    record {
      passed = subst (Passed test s r.byte.0) m p;
      along = subst (λ (n : ℕ). q ≡ along_by (n - r.byte.0) (n - r.byte.0) r) m e;
    }

-- what holds n bytes further on holds where reading has come to
by_past : {test : ℕ → Bool} {s : List ℕ} {r q : Reach} (P : Reach → Type 0) → Past test s r q
    → ((n : ℕ) → r.byte.0 + n ≤ length s → ((k : ℕ) → r.byte.0 ≤ k → k < r.byte.0 + n → test (get_or s k 0) ≡ true) → P (along_by n n r)) → P q
by_past {test} {s} {r} {q} P p f =
    let n = q.byte.0 - r.byte.0 in
    let e : r.byte.0 + n ≡ q.byte.0 = omega (arith, p.passed.on) in
    subst P (sym p.along) (f n (omega (arith, p.passed.within)) (λ k a b. p.passed.stays k a (omega arith)))

-- ---- a loop over turns

-- the loop stands where reading has come to
abbrev pub Along : (ℕ → List ℕ → Turn) → List ℕ → Reach → Reach → Type 0
Along turn s start q = Going turn s start q q.byte.0

module _ {turn : ℕ → List ℕ → Turn} {s : List ℕ} {start : Reach} (safe : Safe turn s) (test : ℕ → Bool)
    (plain : (i : ℕ) → i < length s → WellFormed (drop i s) → test (get_or s i 0) ≡ true → turn_at turn (chars (drop i s)) ≡ Pass 1 1) where
  follow_many : (n : ℕ) (r : Reach) → Along turn s start r → r.byte.0 + n ≤ length s
      → ((k : ℕ) → r.byte.0 ≤ k → k < r.byte.0 + n → test (get_or s k 0) ≡ true) → Along turn s start (along_by n n r)
  follow_many zero r g h t = subst (Along turn s start) (along_none r) g
  follow_many (suc n) r g h t =
      let k : r.byte.0 < length s = omega arith in
      let one : Along turn s start (along_by 1 1 r) =
      passes safe g k (sym (plain r.byte.0 k g.stands.well (t r.byte.0 (omega arith) (omega arith)))) refl refl in
      subst (Along turn s start) (along_more n r) (follow_many n (along_by 1 1 r) one (omega arith) (λ j a b. t j (omega arith) (omega arith)))

  pub past_going : {r q : Reach} → Along turn s start r → Past test s r q → Along turn s start q
  past_going {r} {q} g p = by_past (Along turn s start) p (λ n h t. follow_many n r g h t)

-- ---- a run of characters

-- reading has come from r to q, and the run from there on is the run from r on
pub record Ran (look : ℕ → ℕ) (test : ℕ → ℕ → Bool) (s : List ℕ) (r q : Reach) : Type 0 where
  pub stands : Stands s q
  pub same : run_test look test q (chars_from s q) ≡ run_test look test r (chars_from s r)

module _ (s table : List ℕ) (fit : FitTable table) {test : ℕ → ℕ → Bool} {at_once : ℕ → Bool} (law : AtOnce test at_once) where
  one_run : (r : Reach) → Stands s r → r.byte.0 < length s → at_once (get_or s r.byte.0 0) ≡ true
      → Ran (properties_at table) test s r (along_by 1 1 r)
  one_run r o h t =
      let look = properties_at table in
      let i = r.byte.0 in
      let b = get_or s i 0 in
      let k = law.ascii b t in
      let once = law.passes table fit b t in
      let read = ascii_at s i h k in
      let a = at_char s i b 1 read in
      record {
        stands = along_stands s r b 1 1 o a (rest_at s i b 1 o.well read) (omega arith);
        same = sym
            (run_more look (test_utf8_of look test) r s i b 1 a once.passes
            ∙ ap (λ (w : ℕ). run_utf8 look (test_utf8_of look test) (along_by 1 w r) (chars (drop (i + 1) s))) once.wide);
      }

  run_many : (n : ℕ) (r : Reach) → Stands s r → r.byte.0 + n ≤ length s
      → ((k : ℕ) → r.byte.0 ≤ k → k < r.byte.0 + n → at_once (get_or s k 0) ≡ true)
      → Ran (properties_at table) test s r (along_by n n r)
  run_many zero r o h t = subst (Ran (properties_at table) test s r) (along_none r) (record { stands = o; same = refl })
  run_many (suc n) r o h t =
      let one = one_run r o (omega arith) (t r.byte.0 (omega arith) (omega arith)) in
      let more = run_many n (along_by 1 1 r) one.stands (omega arith) (λ j a b. t j (omega arith) (omega arith)) in
      subst (Ran (properties_at table) test s r) (along_more n r) (record { stands = more.stands; same = more.same ∙ one.same })

  pub past_ran : {stays : ℕ → Bool} → ((x : ℕ) → stays x ≡ true → at_once x ≡ true) → {r q : Reach} → Stands s r → Past stays s r q
      → Ran (properties_at table) test s r q
  past_ran once {r} {q} o p = by_past (Ran (properties_at table) test s r) p (λ n h t. run_many n r o h (λ k a b. once (get_or s k 0) (t k a b)))
