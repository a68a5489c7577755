-- Records of one width put into a list, whatever their numbers are.
--     same_room                         lists of one length have one room
--     within                            a record that has room ends within the list
--     put_by_stores                     stores, one after the other, put a record
--     put_length, put_room, put_keeps   putting a record changes no number of another, and neither the list's length nor its room
--     put_there                         what then stands from its place on
--     all_none, all_next                putting one record after the others, from none on
--     all_length, all_room, all_rest    what putting many leaves of the list
--     all_there                         what then stands from the place of each on
--     one_by_one                        putting many one by one, from the first on
--     copy_all                          the first of many that were put, put into another list with their numbers
-- Assumes nothing.
use Rattle.std.specs.Prelude.{◌≡◌, refl, List, [], ◌∷◌, ◌++◌, ℕ, zero, suc, ◌+◌, ◌*◌, ◌-◌, ◌/◌, ◌≤◌, ◌<◌, length, get_or, take, drop}
use Rattle.std.proofs.Common.{sym, ap, subst, ◌∙◌, append_assoc, append-nil, mul-zero, mul-suc, mul_comm, add-mul, one-mul, mul-le-mul_left, arith, length-append, length-drop, length-take-le, drop-cons, take_at, drop_at, drop-drop, get_or-drop, get_or-take}
use Rattle.std.proofs.Math.Nat.{mul-div-le, div-eq_of_lt-le}
use Rattle.std.proofs.Math.ListN.{get_or-append}
use Rattle.std.proofs.Math.Seq.{take-nil, drop-nil, take-append-add, drop-append-add}
use Rattle.std.proofs.lemmas.List.{take-append-le, drop-append-le}
use Rattle.std.proofs.lemmas.List.Edits.{sets, sets-eq}
use Rattle.base.specs.PickLaws.{split_lt}
use Rattle.rows.specs.Store.{room_for, put_at, words_all, put_all, put_from}

-- ---- places

-- lists of one length have one room
pub same_room : (w : ℕ) (a b : List ℕ) → length a ≡ length b → room_for w a ≡ room_for w b
same_room w a b e = ap (λ (n : ℕ). n / w) e

-- so many records that have room end within the list
all_within : (w : ℕ) (l : List ℕ) (n : ℕ) → n ≤ room_for w l → w * n ≤ length l
all_within w l n h = omega (arith, mul-le-mul_left w h, mul-div-le (length l) w)

pub within : (w : ℕ) (l : List ℕ) (i : ℕ) → i < room_for w l → w * i + w ≤ length l
within w l i h = omega (arith, all_within w l (suc i) h, mul-suc w i)

-- the numbers of record i
in_record : (w i k : ℕ) → w * i ≤ k → k < w * i + w → k / w ≡ i
in_record w i k from to =
    div-eq_of_lt-le w (omega (arith, mul_comm w i)) (omega (arith, mul_comm w i, add-mul i 1 w, one-mul w))

-- a number past the place from which two lists agree
past : (a b : List ℕ) (n k : ℕ) → drop n a ≡ drop n b → n ≤ k → get_or a k 0 ≡ get_or b k 0
past a b n k e le =
    let m : n + (k - n) ≡ k = omega arith in
    subst (λ (j : ℕ). get_or a j 0 ≡ get_or b j 0) m
    (sym (get_or-drop n a (k - n) 0) ∙ ap (λ (l : List ℕ). get_or l (k - n) 0) e ∙ get_or-drop n b (k - n) 0)

-- ---- one record put

module _ (w : ℕ) (l : List ℕ) (i : ℕ) (numbers : List ℕ) (long : length numbers ≡ w) (h : i < room_for w l) where
  pub put_by_stores : sets l (w * i) numbers ≡ put_at w l i numbers
  put_by_stores =
      sets-eq numbers l (w * i) (omega (arith, within w l i h))
      ∙ ap (λ (n : ℕ). take (w * i) l ++ numbers ++ drop (w * i + n) l) long

  before_length : length (take (w * i) l) ≡ w * i
  before_length = length-take-le (w * i) l (omega (arith, within w l i h))

  pub put_length : length (put_at w l i numbers) ≡ length l
  put_length = simp (length-append, length-drop, before_length) (omega (arith, within w l i h))

  pub put_room : room_for w (put_at w l i numbers) ≡ room_for w l
  put_room = same_room w (put_at w l i numbers) l put_length

  -- what is put, and what follows it, from the place of record i on
  pub put_there : drop (w * i) (put_at w l i numbers) ≡ numbers ++ drop (w * i + w) l
  put_there =
      rw (append_assoc (take (w * i) l) numbers)
      (drop_at (take (w * i) l) (numbers ++ drop (w * i + w) l) (w * i) before_length)

  kept_before : (k : ℕ) → k < w * i → get_or (put_at w l i numbers) k 0 ≡ get_or l k 0
  kept_before k lt =
      rw (append_assoc (take (w * i) l) numbers)
      (get_or-append (take (w * i) l) (numbers ++ drop (w * i + w) l) 0 k (omega (arith, before_length))
      ∙ get_or-take (w * i) l k 0 lt)

  kept_after : (k : ℕ) → w * i + w ≤ k → get_or (put_at w l i numbers) k 0 ≡ get_or l k 0
  kept_after k le =
      past (put_at w l i numbers) l (w * i + w) k
      (sym (drop-drop w (w * i) (put_at w l i numbers)) ∙ ap (drop w) put_there ∙ drop_at numbers (drop (w * i + w) l) w long) le

  -- every number that is none of record i
  pub put_keeps : (k : ℕ) → (k / w ≡ i → ⊥) → get_or (put_at w l i numbers) k 0 ≡ get_or l k 0
  put_keeps k ne =
      split_lt k (w * i) (kept_before k) (λ le. split_lt k (w * i + w) (λ lt. absurd (ne (in_record w i k le lt))) (kept_after k))

-- ---- many records put

pub all_none : {A : Type 0} (w : ℕ) (words : A → List ℕ) (l : List ℕ) → put_all w words l [] ≡ l
all_none w words l = ap (λ (n : ℕ). drop n l) (mul-zero w)

module _ {A : Type 0} (w : ℕ) (words : A → List ℕ) (long : (r : A) → length (words r) ≡ w) where
  words_length : (rows : List A) → length (words_all words rows) ≡ w * length rows
  words_length [] = sym (mul-zero w)
  words_length (r ∷ rows) =
      omega (arith, length-append (words r) (words_all words rows), long r, words_length rows, mul-suc w (length rows))

  words_next : (rows : List A) (r : A) → words_all words (rows ++ (r ∷ [])) ≡ words_all words rows ++ words r
  words_next [] r = append-nil (words r)
  words_next (x ∷ rows) r =
      ap (λ (l : List ℕ). words x ++ l) (words_next rows r) ∙ sym (append_assoc (words x) (words_all words rows) (words r))

  module _ (l : List ℕ) (rows : List A) where
    -- the numbers after the records stay
    pub all_rest : drop (w * length rows) (put_all w words l rows) ≡ drop (w * length rows) l
    all_rest = drop_at (words_all words rows) (drop (w * length rows) l) (w * length rows) (words_length rows)

    pub all_length : length rows ≤ room_for w l → length (put_all w words l rows) ≡ length l
    all_length h =
        simp (length-append, words_length rows, length-drop) (omega (arith, all_within w l (length rows) h))

    pub all_room : length rows ≤ room_for w l → room_for w (put_all w words l rows) ≡ room_for w l
    all_room h = same_room w (put_all w words l rows) l (all_length h)

    -- the record after them, put at its index
    pub all_next : (r : A) → put_at w (put_all w words l rows) (length rows) (words r) ≡ put_all w words l (rows ++ (r ∷ []))
    all_next r =
        let n : ℕ = w * length rows in
        let rest : List ℕ = drop n l in
        let t : take n (words_all words rows ++ rest) ≡ words_all words rows = take_at (words_all words rows) rest n (words_length rows) in
        let d : drop (n + w) (words_all words rows ++ rest) ≡ drop (n + w) l =
        sym (drop-drop w n (words_all words rows ++ rest)) ∙ ap (drop w) all_rest ∙ drop-drop w n l in
        let e : w * length (rows ++ (r ∷ [])) ≡ n + w =
        ap (λ (m : ℕ). w * m) (length-append rows (r ∷ [])) ∙ ap (λ (m : ℕ). w * m) (omega arith) ∙ mul-suc w (length rows) in
        simp (t, d, e, words_next, append_assoc)

  -- after those that are put already
  all_after : (l : List ℕ) (done rows : List A) (k : ℕ) → length done ≡ k
      → put_from w words (put_all w words l done) k rows ≡ put_all w words l (done ++ rows)
  all_after l done [] k e = ap (put_all w words l) (sym (append-nil done))
  all_after l done (r ∷ rows) k e =
      ap (λ (i : ℕ). put_from w words (put_at w (put_all w words l done) i (words r)) (k + 1) rows) (sym e)
      ∙ ap (λ (m : List ℕ). put_from w words m (k + 1) rows) (all_next l done r)
      ∙ all_after l (done ++ (r ∷ [])) rows (k + 1) (length-append done (r ∷ []) ∙ ap (λ (i : ℕ). i + 1) e)
      ∙ ap (put_all w words l) (append_assoc done (r ∷ []) rows)

  pub one_by_one : (l : List ℕ) (rows : List A) → put_from w words l 0 rows ≡ put_all w words l rows
  one_by_one l rows = ap (λ (m : List ℕ). put_from w words m 0 rows) (sym (all_none w words l)) ∙ all_after l [] rows 0 refl

  drop_words : (rows : List A) (i : ℕ) → drop (w * i) (words_all words rows) ≡ words_all words (drop i rows)
  drop_words rows zero = ap (λ (n : ℕ). drop n (words_all words rows)) (mul-zero w)
  drop_words [] (suc i) = drop-nil (w * suc i)
  drop_words (r ∷ rows) (suc i) =
      let e : w * suc i ≡ length (words r) + w * i = omega (arith, mul-suc w i, long r) in
      ap (λ (n : ℕ). drop n (words r ++ words_all words rows)) e
      ∙ drop-append-add (words r) (words_all words rows) (w * i)
      ∙ drop_words rows i

  take_words : (rows : List A) (n : ℕ) → take (w * n) (words_all words rows) ≡ words_all words (take n rows)
  take_words rows zero = ap (λ (m : ℕ). take m (words_all words rows)) (mul-zero w)
  take_words [] (suc n) = take-nil (w * suc n)
  take_words (r ∷ rows) (suc n) =
      let e : w * suc n ≡ length (words r) + w * n = omega (arith, mul-suc w n, long r) in
      ap (λ (m : ℕ). take m (words r ++ words_all words rows)) e
      ∙ take-append-add (words r) (words_all words rows) (w * n)
      ∙ ap (λ (l : List ℕ). words r ++ l) (take_words rows n)

  -- the first n of many that were put into l, put into another list
  pub copy_all : (n : ℕ) (l : List ℕ) (rows : List A) (to : List ℕ) → n ≤ length rows
      → take (w * n) (put_all w words l rows) ++ drop (w * n) to ≡ words_all words (take n rows) ++ drop (w * n) to
  copy_all n l rows to h =
      ap (λ (m : List ℕ). m ++ drop (w * n) to)
      (take-append-le (w * n) (words_all words rows) (drop (w * length rows) l) (omega (arith, words_length rows, mul-le-mul_left w h))
      ∙ take_words rows n)

  -- what stands from the place of record i on: its numbers, those of the records after it, and the rest
  pub all_there : (l : List ℕ) (rows : List A) (i : ℕ) (d : A) → i < length rows
      → drop (w * i) (put_all w words l rows)
      ≡ words (get_or rows i d) ++ (words_all words (drop (suc i) rows) ++ drop (w * length rows) l)
  all_there l rows i d h =
      let rest : List ℕ = drop (w * length rows) l in
      drop-append-le (w * i) (words_all words rows) rest (omega (arith, words_length rows, mul-le-mul_left w (le_of h)))
      ∙ ap (λ (m : List ℕ). m ++ rest) (drop_words rows i ∙ ap (words_all words) (drop-cons rows i d h))
      ∙ append_assoc (words (get_or rows i d)) (words_all words (drop (suc i) rows)) rest
    where
      le_of : {n m : ℕ} → n < m → n ≤ m
      le_of lt = omega arith
