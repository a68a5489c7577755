-- `read_at` and `check_from` answer what `Meaning` says, and no other answer fits.
--     read_is, is_read      `read_at s i` is r exactly where r says what stands there: a character, a proper beginning of one, or neither
--     one_read              of two such answers, both are the same
--     check_is, is_check    `check_from 0 s` is r exactly where r says whether s is well formed, and where not
--     one_check             of two such answers, both are the same
--     one_longest           there is one longest well-formed beginning
-- Assumes nothing.
use Rattle.std.specs.Prelude.{ℕ, ◌+◌, ◌<◌, ◌≤◌, ◌≡◌, refl, List, [], ◌∷◌, ◌++◌, length, take, drop, Result, Ok, Err}
use Rattle.std.proofs.Common.{arith, sym, ap, subst, ◌∙◌, append-nil, append_assoc, length-append, take-append-drop, length-take-le, take-take, take-add, take_at}
use Rattle.std.proofs.Math.Seq.{drop-append_seam, take-append_seam}
use Rattle.std.proofs.lemmas.List.{drop-append-le}
use Rattle.base.specs.PickLaws.{split_lt}
use Rattle.utf8.specs.Encode.{Scalars, encode, encode_all, WellFormed}
use Rattle.utf8.specs.EncodeLaws.{one_well, more_well}
use Rattle.utf8.specs.Read.{Read, decode_head, read_at}
use Rattle.utf8.specs.ReadLaws.{complete, cut_begins, begins_cut}
use Rattle.utf8.specs.Chars.{check_from}
use Rattle.utf8.specs.CharsLaws.{at_char, bad_at, cut_at, check_past, Stops, stopped, fine_of_well, well_of_fine, never_stops}
use Rattle.utf8.specs.Meaning.{CharAt, ReadIs, Longest, CheckIs}
use Rattle.utf8.specs.declared.ReadError.TheVariants.{Bad, Cut}
use Rattle.utf8.specs.declared.Utf8Error.{Utf8Error}
use Rattle.utf8.specs.declared.Utf8Error.TheVariants.{BadAt, CutAt}

-- ---- one character

module _ (s : List ℕ) (i : ℕ) where
  is_char : (c n : ℕ) → CharAt s i c n → read_at s i ≡ Ok (c, n)
  is_char c n w = rw w.bytes (complete c (drop (i + n) s) w.scalar ∙ ap {B = Read} (λ k. Ok (c, k)) w.width)

  pub read_is : (r : Read) → read_at s i ≡ r → ReadIs s i r
  read_is (Ok (c, n)) e = let a = at_char s i c n e in record { scalar = a.scalar; width = a.width; bytes = a.bytes }
  read_is (Err Cut) e = cut_begins (drop i s) e
  read_is (Err Bad) e = (
    λ c n w. let f = is_char c n w in let z : ◌≡◌ {A = ℕ} 0 1 = cc in omega arith,
    λ b. let f = begins_cut (drop i s) b in let z : ◌≡◌ {A = ℕ} 0 1 = cc in omega arith,
  )

  pub is_read : (r : Read) → ReadIs s i r → read_at s i ≡ r
  is_read (Ok (c, n)) w = is_char c n w
  is_read (Err Cut) b = begins_cut (drop i s) b
  is_read (Err Bad) w = go (read_at s i) refl
    where
      go : (r : Read) → read_at s i ≡ r → read_at s i ≡ Err Bad
      go (Ok (c, n)) e = absurd (w.0 c n (read_is (Ok (c, n)) e))
      go (Err Cut) e = absurd (w.1 (read_is (Err Cut) e))
      go (Err Bad) e = e

  pub one_read : (r q : Read) → ReadIs s i r → ReadIs s i q → r ≡ q
  one_read r q v w = sym (is_read r v) ∙ is_read q w

-- ---- all of s

-- the answer comes from behind any well-formed beginning
check_behind : (s : List ℕ) (n : ℕ) → n ≤ length s → WellFormed (take n s) → check_from 0 s ≡ check_from n (drop n s)
check_behind s n h w =
    ap (λ (r : List ℕ). check_from 0 r) (sym (take-append-drop n s) ∙ ap (λ (r : List ℕ). r ++ drop n s) w.same)
    ∙ check_past 0 w.points (drop n s) w.scalars
    ∙ ap (λ (k : ℕ). check_from k (drop n s)) (omega (arith, ap length w.same, length-take-le n s h))

-- what stands behind a well-formed beginning of well-formed bytes is well formed
rest_well : (s : List ℕ) (n : ℕ) → n ≤ length s → WellFormed (take n s) → WellFormed s → WellFormed (drop n s)
rest_well s n h v w = well_of_fine n (drop n s) (sym (check_behind s n h v) ∙ fine_of_well 0 s w)

-- a character that stands at n in the first m bytes stands there in all
char_in_all : (s : List ℕ) (n m c k : ℕ) → n ≤ m → m ≤ length s → read_at (take m s) n ≡ Ok (c, k) → read_at s n ≡ Ok (c, length (encode c))
char_in_all s n m c k h l e =
    let a = at_char (take m s) n c k e in
    let behind : drop n s ≡ encode c ++ (drop (n + k) (take m s) ++ drop m s) =
    ap (λ (r : List ℕ). drop n r) (sym (take-append-drop m s))
    ∙ drop-append-le n (take m s) (drop m s) (omega (arith, length-take-le m s l))
    ∙ ap (λ (r : List ℕ). r ++ drop m s) a.bytes
    ∙ append_assoc (encode c) (drop (n + k) (take m s)) (drop m s) in
    ap decode_head behind ∙ complete c (drop (n + k) (take m s) ++ drop m s) a.scalar

-- where no character stands behind a well-formed beginning, it is the longest
longest : (s : List ℕ) (n : ℕ) → WellFormed (take n s) → n < length s → Stops (read_at s n) → Longest s n
longest s n v h t = record { well = v; short = h; none_longer = longer }
  where
    longer : (m : ℕ) → n < m → m ≤ length s → WellFormed (take m s) → ⊥
    longer m k l w =
        let size = length-take-le m s l in
        let before : WellFormed (take n (take m s)) = subst WellFormed (sym (take-take n m s (omega arith))) v in
        let rest = rest_well (take m s) n (omega arith) before w in
        go (read_at (take m s) n) refl (λ u. never_stops (take m s) n rest (omega arith) u)
      where
        go : (r : Read) → read_at (take m s) n ≡ r → (Stops (read_at (take m s) n) → ⊥) → ⊥
        go (Ok (c, j)) e f = subst Stops (char_in_all s n m c j (omega arith) l e) t
        go (Err Bad) e f = f (subst Stops (sym e) tt)
        go (Err Cut) e f = f (subst Stops (sym e) tt)

-- where a character stands behind a well-formed beginning, there is a longer one
longer_by_char : (s : List ℕ) (n c k : ℕ) → WellFormed (take n s) → read_at s n ≡ Ok (c, k) → WellFormed (take (n + k) s)
longer_by_char s n c k v e =
    let a = at_char s n c k e in
    rw (take-add n k s, a.bytes, take_at (encode c) (drop (n + k) s) k a.width) (more_well v (one_well c a.scalar))

module _ (s : List ℕ) where
  -- where no character stands behind a well-formed beginning, that place is the answer
  stuck : (n : ℕ) → WellFormed (take n s) → n < length s → Stops (read_at s n) → CheckIs s (check_from 0 s)
  stuck n w h t = go (read_at s n) refl
    where
      go : (r : Read) → read_at s n ≡ r → CheckIs s (check_from 0 s)
      go (Ok (c, k)) e = absurd (subst Stops e t)
      go (Err Bad) e = rw (check_behind s n (omega arith) w, bad_at s n h e) (record { before = longest s n w h t; begins_none = (read_is s n (Err Bad) e).1 })
      go (Err Cut) e = rw (check_behind s n (omega arith) w, cut_at s n h e) (record { before = longest s n w h t; begins = read_is s n (Err Cut) e })

  answer : (cs : List ℕ) → Scalars cs → (rest : List ℕ) → s ≡ encode_all cs ++ rest → Stops (decode_head rest) → CheckIs s (check_from 0 s)
  answer cs w [] p t =
      let v : WellFormed s = record { points = cs; scalars = w; same = p ∙ append-nil (encode_all cs) } in
      rw (fine_of_well 0 s v) v
  answer cs w (b ∷ bs) p t =
      let n = length (encode_all cs) in
      let before : take n s ≡ encode_all cs = rw p (take-append_seam (encode_all cs) (b ∷ bs)) in
      let rest : drop n s ≡ b ∷ bs = rw p (drop-append_seam (encode_all cs) (b ∷ bs)) in
      stuck n (record { points = cs; scalars = w; same = before }) (omega (arith, ap length p, length-append (encode_all cs) (b ∷ bs)))
      (subst (λ (r : List ℕ). Stops (decode_head r)) (sym rest) t)

  pub check_is : (r : Result (Unit {0}) Utf8Error) → check_from 0 s ≡ r → CheckIs s r
  check_is r e = let t = stopped s in subst (CheckIs s) e (answer t.points t.scalars t.rest t.same t.stops)

  stops_at : (n : ℕ) → Longest s n → (c k : ℕ) → read_at s n ≡ Ok (c, k) → ⊥
  stops_at n g c k e =
      let a = at_char s n c k e in
      g.none_longer (n + k) (omega (arith, a.some)) a.fits (longer_by_char s n c k g.well e)

  pub is_check : (r : Result (Unit {0}) Utf8Error) → CheckIs s r → check_from 0 s ≡ r
  is_check (Ok _) w = fine_of_well 0 s w
  is_check (Err (CutAt n)) w =
      let g = w.before in
      check_behind s n (omega (arith, g.short)) g.well ∙ cut_at s n g.short (begins_cut (drop n s) w.begins)
  is_check (Err (BadAt n)) w =
      let g = w.before in
      check_behind s n (omega (arith, g.short)) g.well
      ∙ bad_at s n g.short (is_read s n (Err Bad) (λ c k v. stops_at n g c k (is_read s n (Ok (c, k)) v), w.begins_none))

  pub one_check : (r q : Result (Unit {0}) Utf8Error) → CheckIs s r → CheckIs s q → r ≡ q
  one_check r q v w = sym (is_check r v) ∙ is_check q w

-- ---- for a caller

-- there is one longest well-formed beginning
not_longer : (s : List ℕ) (m n : ℕ) → Longest s m → Longest s n → n ≤ m
not_longer s m n l k = split_lt m n (λ h. absurd (l.none_longer n h (omega (arith, k.short)) k.well)) (λ h. h)

pub one_longest : (s : List ℕ) (m n : ℕ) → Longest s m → Longest s n → m ≡ n
one_longest s m n l k = omega (arith, not_longer s m n l k, not_longer s n m k l)
