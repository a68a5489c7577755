-- Laws of marks, and of the translation row that carries them.
--     all_asked, given_at_lem             `are_given`: each mark is asked; and each that was given is below n
--     given_none, given_bad, given_on     what is left from i on is given exactly where all are
--     cleared_one             one word more says gone
--     mark_on, marked_long, marked_rest   `mark`: one mark more; the row is as long as it was, and behind the entries as it was
--     marks_say                           after `clear` and two calls of `mark` a word says exactly whether its index is marked
--     marks_rest                          and behind the entries the row is as it was
--     good_of                             what good marks are
-- Assumes nothing.
use Rattle.std.specs.Prelude.{ℕ, zero, suc, ◌+◌, ◌<◌, ◌≤◌, ◌≡◌, refl, Bool, true, false, ◌&&◌, List, [], ◌∷◌, ltb, length, get_or, set, drop, replicate}
use Rattle.std.specs.List.{list_all}
use Rattle.std.proofs.Common.{arith, add-one, sym, ap, ◌∙◌, length-set, drop-cons, get_or-set_same, get_or-set_other, drop-set-lt, eq-eqb, ne_eqb, lt-ltb, le-ltb}
use Rattle.std.proofs.lemmas.List.{length-replicate, get_or-replicate, replicate-append-replicate}
use Rattle.std.proofs.Math.ListN.{get_or-append}
use Rattle.std.proofs.Math.Seq.{drop-length}
use Rattle.base.specs.Pick.{pick}
use Rattle.base.specs.PickLaws.{by_lt, split_eq}
use Rattle.slide.specs.Slide.{gone, headed, stays}
use Rattle.slide.specs.HeadLaws.{head_set, head_drop, head_long}
use Rattle.marks.specs.Marks.{is_in, is_marked, all_given, good_marks, marked}

-- ---- marks that were given

module _ (marks : List ℕ) (n i : ℕ) where
  given_one : i < length marks → all_given (drop i marks) n ≡ pick (ltb (get_or marks i 0) n) (all_given (drop (suc i) marks) n) false
  unfolding all_given
  given_one h = rw (drop-cons marks i 0 h)

  pub given_bad : i < length marks → n ≤ get_or marks i 0 → all_given (drop i marks) n ≡ false
  given_bad h l = given_one h ∙ rw (le-ltb (get_or marks i 0) n l)

  pub given_on : i < length marks → get_or marks i 0 < n → all_given (drop (i + 1) marks) n ≡ all_given (drop i marks) n
  given_on h l = sym (given_one h ∙ rw (lt-ltb (get_or marks i 0) n l) (rw (add-one i)))

pub given_none : (marks : List ℕ) (n i : ℕ) → i ≡ length marks → all_given (drop i marks) n ≡ true
unfolding all_given
given_none marks n i e = rw (e, drop-length marks)

pub all_asked : (marks : List ℕ) (n : ℕ) → all_given marks n ≡ list_all (λ (m : ℕ). ltb m n) marks
unfolding all_given
all_asked [] n = refl
all_asked (m ∷ marks) n = go (ltb m n) (all_asked marks n)
  where
    go : (t : Bool) → all_given marks n ≡ list_all (λ (k : ℕ). ltb k n) marks
        → pick t (all_given marks n) false ≡ (t && list_all (λ (k : ℕ). ltb k n) marks)
    go true e = e
    go false e = refl

first_given : (m : ℕ) (marks : List ℕ) (n : ℕ) → all_given (m ∷ marks) n ≡ true → (m < n) × (all_given marks n ≡ true)
unfolding all_given
first_given m marks n =
    by_lt (λ (t : Bool). t ≡ true → (m < n) × (all_given marks n ≡ true)) m n
    (λ h e. (h, e))
    (λ h e. let z : ◌≡◌ {A = ℕ} 0 1 = cc in absurd (omega arith))

pub given_at_lem : (marks : List ℕ) (n i : ℕ) → all_given marks n ≡ true → i < length marks → get_or marks i 0 < n
given_at_lem [] n i e h = absurd (omega arith)
given_at_lem (m ∷ marks) n zero e h = (first_given m marks n e).0
given_at_lem (m ∷ marks) n (suc i) e h = given_at_lem marks n i (first_given m marks n e).1 (omega arith)

-- ---- words that say gone

pub cleared_one : (row old : List ℕ) (i : ℕ) → row ≡ headed (replicate i gone) old → i < length old → set row i gone ≡ headed (replicate (i + 1) gone) old
cleared_one row old i e h =
    ap (λ (r : List ℕ). set r i gone) e
    ∙ head_set (replicate i gone) old i gone (sym (length-replicate i gone)) h
    ∙ ap (λ (w : List ℕ). headed w old) (replicate-append-replicate i 1 gone)

-- ---- words that are marked

pub mark_on : (row marks : List ℕ) (i : ℕ) → i < length marks → marked (set row (get_or marks i 0) 0) (drop (i + 1) marks) ≡ marked row (drop i marks)
unfolding marked
mark_on row marks i h = rw (add-one i, drop-cons marks i 0 h)

pub marked_none : (row marks : List ℕ) (i : ℕ) → i ≡ length marks → marked row (drop i marks) ≡ row
unfolding marked
marked_none row marks i e = rw (e, drop-length marks)

pub marked_long : (row marks : List ℕ) → length (marked row marks) ≡ length row
unfolding marked
marked_long row [] = refl
marked_long row (m ∷ marks) = marked_long (set row m 0) marks ∙ length-set row m 0

pub marked_rest : (row marks : List ℕ) (n : ℕ) → all_given marks n ≡ true → drop n (marked row marks) ≡ drop n row
unfolding marked
marked_rest row [] n e = refl
marked_rest row (m ∷ marks) n e =
    let p = first_given m marks n e in
    marked_rest (set row m 0) marks n p.1 ∙ drop-set-lt n row m 0 p.0

-- a word stays where it stayed, or was marked
pub marked_stays : (row marks : List ℕ) (k : ℕ) → k < length row → stays (marked row marks) k ≡ pick (is_in k marks) true (stays row k)
unfolding marked is_in
marked_stays row [] k h = refl
marked_stays row (m ∷ marks) k h =
    marked_stays (set row m 0) marks k (omega (arith, length-set row m 0))
    ∙ split_eq m k
    (λ e.
    let w : get_or (set row m 0) k 0 ≡ 0 = rw e (get_or-set_same row k 0 0 h) in
    rw (eq-eqb m k e, w) (go (is_in k marks)))
    (λ e. rw (ne_eqb m k e, get_or-set_other row m k 0 0 (λ q. e (sym q))))
  where
    go : (t : Bool) → pick t true true ≡ true
    go true = refl
    go false = refl

cleared_gone : (old : List ℕ) (n k : ℕ) → k < n → stays (headed (replicate n gone) old) k ≡ false
cleared_gone old n k h =
    let e : get_or (headed (replicate n gone) old) k 0 ≡ gone =
    get_or-append (replicate n gone) (drop (length (replicate n gone)) old) 0 k (omega (arith, length-replicate n gone))
    ∙ get_or-replicate n k gone 0 h in
    rw e

cleared_long : (old : List ℕ) (n : ℕ) → n ≤ length old → length (headed (replicate n gone) old) ≡ length old
cleared_long old n h = head_long (replicate n gone) old (omega (arith, length-replicate n gone))

module _ (old first second : List ℕ) (n : ℕ) (long : n ≤ length old) where
  abbrev row : List ℕ
  row = marked (marked (headed (replicate n gone) old) first) second

  pub marks_say : (k : ℕ) → k < n → stays row k ≡ is_marked first second k
  marks_say k h =
      let l = cleared_long old n long in
      marked_stays (marked (headed (replicate n gone) old) first) second k (omega (arith, l, marked_long (headed (replicate n gone) old) first))
      ∙ rw (marked_stays (headed (replicate n gone) old) first k (omega (arith, l)), cleared_gone old n k h) (swap (is_in k second) (is_in k first))
    where
      swap : (s t : Bool) → pick s true (pick t true false) ≡ pick t true s
      swap true true = refl
      swap true false = refl
      swap false true = refl
      swap false false = refl

  pub marks_rest : all_given first n ≡ true → all_given second n ≡ true → drop n row ≡ drop n old
  marks_rest e f =
      marked_rest (marked (headed (replicate n gone) old) first) second n f
      ∙ marked_rest (headed (replicate n gone) old) first n e
      ∙ head_drop (replicate n gone) old n (omega (arith, length-replicate n gone))

-- ---- what good marks are

both : (a b : Bool) → pick a b false ≡ true → (a ≡ true) × (b ≡ true)
both true b e = (refl, e)
both false b e = let z : ◌≡◌ {A = ℕ} 0 1 = cc in absurd (omega arith)

pub good_of : (first second moved : List ℕ) (n : ℕ) → good_marks first second moved n ≡ true
    → (n ≤ length moved) × (all_given first n ≡ true) × (all_given second n ≡ true)
unfolding good_marks
good_of first second moved n =
    by_lt (λ (t : Bool). t ≡ true → (n ≤ length moved) × (all_given first n ≡ true) × (all_given second n ≡ true)) (length moved) n
    (λ l e. let z : ◌≡◌ {A = ℕ} 0 1 = cc in absurd (omega arith))
    (λ l e. let p = both _ _ e in (l, p.0, p.1))
