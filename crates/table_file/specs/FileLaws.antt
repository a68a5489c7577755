-- Laws of the table file.
--     length_numbers, number_at, later    the numbers of a file: how many, and each; a number after the first k bytes
--     one_answer                   no second answer and no second row fits
--     read_of_file, row_of_file    the file of a fit table is read into a row that has room, as that table
--     FileRead, file_of_read       what is read is the file of a fit table, and had room
-- Assumes nothing.
use Prim.Native.Nat.{ℕ, zero, suc, ◌+◌, ◌*◌, ◌/◌, ◌%◌, ◌<◌, ◌≤◌}
use native.Mathlib.Omega.{arith}
use Rattle.std.proofs.Common.{add_assoc, ◌∙◌, length-drop, take-append-drop, get_or-drop, drop-cons}
use Rattle.std.specs.Prelude.{◌≡◌, refl, ltb, get_or, take, Result, Ok, Err}
use Rattle.std.proofs.Math.Path.{sym, ap}
use mathlib.Core.List.{List, [], ◌∷◌, ◌++◌}
use Rattle.std.proofs.Math.ListN.{length, drop, get_or-append}
use borrow.Author.Tests.{lt-ltb, le-ltb, eq-eqb, ltb-false, eqb-true}
use Rattle.base.specs.PickLaws.{is_second}
use Rattle.base.specs.AllLaws.{and_right}
use Rattle.base.specs.ListLaws.{same_start}
use Rattle.fitness.specs.First.{first_bad}
use Rattle.fitness.specs.FirstLaws.{none_bad, good_before}
use Rattle.fitness.specs.Fit.{table_check}
use Rattle.table_file.specs.File.{mark, bytes16, bytes32, number_bytes, file_of, mark_ok, number32, count_of, numbers_in, numbers_of, end_of, on_fit, read_table, ReadTableIs, number_of}
use Rattle.fitness.specs.declared.TableError.{TableError}
use Rattle.fitness.specs.declared.TableError.TheVariants as table
use Rattle.table_file.specs.declared.TableFileError.{TableFileError}

pub one_answer :
    (file old new new' : List ℕ) (r r' : Result ℕ TableFileError) → ReadTableIs file old new r → ReadTableIs file old new' r' → (r ≡ r') × (new ≡ new')
one_answer file old new new' r r' p q = (p.answer ∙ sym q.answer, p.row ∙ sym q.row)

-- ---- the numbers of a file

pub length_numbers : (n : ℕ) (bytes : List ℕ) → length (numbers_in n bytes) ≡ n
unfolding numbers_in
length_numbers zero bytes = refl
length_numbers (suc n) bytes = ap suc (length_numbers n (drop 4 bytes))

pub later : (k : ℕ) (bytes : List ℕ) (at : ℕ) → number32 (drop k bytes) at ≡ number32 bytes (k + at)
later k bytes at = simp (get_or-drop, add_assoc)

pub number_at : (n : ℕ) (bytes : List ℕ) (i : ℕ) → i < n → get_or (numbers_in n bytes) i 0 ≡ number32 bytes (4 * i)
unfolding numbers_in
number_at zero bytes i h = absurd (omega arith)
number_at (suc n) bytes zero h = refl
number_at (suc n) bytes (suc i) h =
    let e : 4 + 4 * i ≡ 4 * suc i = omega arith in
    number_at n (drop 4 bytes) i (omega arith) ∙ rw e at (later 4 bytes (4 * i))

-- ---- the file of a table is read as that table

length_bytes : (ns : List ℕ) → length (number_bytes ns) ≡ 4 * length ns
unfolding number_bytes
length_bytes [] = refl
length_bytes (n ∷ ns) = omega (arith, length_bytes ns)

numbers_back : (ns : List ℕ) → numbers_in (length ns) (number_bytes ns) ≡ ns
unfolding numbers_in number_bytes
numbers_back [] = refl
numbers_back (n ∷ ns) =
    let e : number32 (bytes32 n ++ number_bytes ns) 0 ≡ n = omega arith in
    rw (e, numbers_back ns)

six : (i : ℕ) → i < 6 → i < length mark
unfolding mark
six i h = h

module _ (numbers : List ℕ) where
  length_file : length (file_of numbers) ≡ 8 + 4 * length numbers
  unfolding file_of mark
  length_file = omega (arith, length_bytes numbers)

  count_back : count_of (file_of numbers) ≡ length numbers
  unfolding file_of mark
  count_back = omega arith

  numbers_of_file : numbers_of (file_of numbers) ≡ numbers
  unfolding file_of mark
  numbers_of_file = rw count_back (numbers_back numbers)

  marked : first_bad (mark_ok (file_of numbers)) 0 6 ≡ 6
  unfolding file_of mark_ok
  marked =
      let rest : List ℕ = bytes16 (length numbers) ++ number_bytes numbers in
      none_bad (mark_ok (file_of numbers)) 0 6
      (λ i _ h.
      rw (lt-ltb i (length (file_of numbers)) (omega (arith, length_file)), get_or-append mark rest 0 i (six i h))
      (eq-eqb (get_or mark i 0) (get_or mark i 0) refl))

  pub read_of_file :
      (room : ℕ) → table_check numbers ≡ Ok tt → length numbers ≤ room → read_table (file_of numbers) room ≡ Ok (length numbers)
  unfolding read_table
  read_of_file room fit h =
      rw (
        marked,
        numbers_of_file,
        count_back,
        length_file,
        fit,
        le-ltb (8 + 4 * length numbers) 8 (omega arith),
        le-ltb (8 + 4 * length numbers) (8 + 4 * length numbers) (omega arith),
        le-ltb room (length numbers) h,
      )

  pub row_of_file :
      (old new : List ℕ) (r : Result ℕ TableFileError) → table_check numbers ≡ Ok tt → length numbers ≤ length old
      → ReadTableIs (file_of numbers) old new r → (r ≡ Ok (length numbers)) × (new ≡ numbers ++ drop (length numbers) old)
  row_of_file old new r fit h is =
      let e = read_of_file (length old) fit h in
      (is.answer ∙ e, rw (e, numbers_of_file) at is.row)

-- ---- what is read is the file of a table

-- a and 256 times b are the number of these two bytes
two : (a b : ℕ) → a < 256 → bytes16 (a + 256 * b) ≡ a ∷ b ∷ []
two a b h =
    let low : (a + 256 * b) % 256 ≡ a = omega arith in
    let high : (a + 256 * b) / 256 ≡ b = omega arith in
    rw (low, high)

four : (a b c d : ℕ) → a < 256 → b < 256 → c < 256 → bytes32 (a + 256 * b + 65536 * (c + 256 * d)) ≡ a ∷ b ∷ c ∷ d ∷ []
four a b c d ha hb hc =
    let low : (a + 256 * b + 65536 * (c + 256 * d)) % 65536 ≡ a + 256 * b = omega arith in
    let high : (a + 256 * b + 65536 * (c + 256 * d)) / 65536 ≡ c + 256 * d = omega arith in
    rw (low, high) (ap (λ (l : List ℕ). l ++ bytes16 (c + 256 * d)) (two a b ha) ∙ ap (λ (l : List ℕ). a ∷ b ∷ l) (two c d hc))

-- the elements are bytes
abbrev pub Bytes : List ℕ → Type 0
Bytes l = (i : ℕ) → get_or l i 0 < 256

bytes_back : (n : ℕ) (l : List ℕ) → Bytes l → length l ≡ 4 * n → number_bytes (numbers_in n l) ≡ l
unfolding numbers_in number_bytes
bytes_back zero [] small e = refl
bytes_back zero (a ∷ l) small e = absurd (omega arith)
bytes_back (suc n) [] small e = absurd (omega arith)
bytes_back (suc n) (a ∷ []) small e = absurd (omega arith)
bytes_back (suc n) (a ∷ b ∷ []) small e = absurd (omega arith)
bytes_back (suc n) (a ∷ b ∷ c ∷ []) small e = absurd (omega arith)
bytes_back (suc n) (a ∷ b ∷ c ∷ d ∷ l) small e =
    ap (λ (k : List ℕ). k ++ number_bytes (numbers_in n l)) (four a b c d (small 0) (small 1) (small 2))
    ∙ ap (λ (k : List ℕ). a ∷ b ∷ c ∷ d ∷ k) (bytes_back n l (λ i. small (suc (suc (suc (suc i))))) (omega arith))

read_fit : (a : Result (Unit {0}) TableError) (m n : ℕ) → on_fit a (Ok m) ≡ Ok n → (a ≡ Ok tt) × (m ≡ n)
read_fit (Ok _) m n e = (refl, cc)
read_fit (Err (table.BadTable i)) m n e = absurd (let z : ◌≡◌ {A = ℕ} 0 1 = cc in omega arith)

pub record FileRead (file : List ℕ) (room n : ℕ) : Type 0 where
  pub is : file ≡ file_of (numbers_of file)
  pub fit : table_check (numbers_of file) ≡ Ok tt
  pub count : n ≡ length (numbers_of file)
  pub fits : n ≤ room

module _ (file : List ℕ) (small : Bytes file) where
  front : 6 ≤ first_bad (mark_ok file) 0 6 → 6 ≤ length file → take 6 file ≡ mark
  unfolding mark_ok mark
  front m h =
      same_start 6 file mark h (omega arith)
      (λ i k. eqb-true _ _ (and_right (ltb i (length file)) _ (good_before (mark_ok file) 0 6 i (omega arith) (omega arith))))

  back : length file ≡ end_of file → drop 6 file ≡ bytes16 (length (numbers_of file)) ++ number_bytes (numbers_of file)
  back e =
      let count : bytes16 (length (numbers_of file)) ≡ get_or file 6 0 ∷ get_or file 7 0 ∷ [] =
      rw (length_numbers (count_of file) (drop 8 file)) (two _ _ (small 6)) in
      let numbers : number_bytes (numbers_of file) ≡ drop 8 file =
      bytes_back (count_of file) (drop 8 file) (λ i. rw (get_or-drop 8 file i 0) (small (8 + i))) (omega (arith, length-drop 8 file)) in
      drop-cons file 6 0 (omega arith)
      ∙ ap (λ (l : List ℕ). get_or file 6 0 ∷ l) (drop-cons file 7 0 (omega arith))
      ∙ sym (ap (λ (l : List ℕ). l ++ number_bytes (numbers_of file)) count ∙ ap (λ (l : List ℕ). get_or file 6 0 ∷ get_or file 7 0 ∷ l) numbers)

  file_is : 6 ≤ first_bad (mark_ok file) 0 6 → length file ≡ end_of file → file ≡ file_of (numbers_of file)
  unfolding file_of
  file_is m e =
      sym (take-append-drop 6 file)
      ∙ ap (λ (l : List ℕ). l ++ drop 6 file) (front m (omega arith))
      ∙ ap (λ (l : List ℕ). mark ++ l) (back e)

  pub file_of_read : (room n : ℕ) → read_table file room ≡ Ok n → FileRead file room n
  unfolding read_table
  file_of_read room n e =
      let p = is_second {A = Result ℕ TableFileError} (ltb (first_bad (mark_ok file) 0 6) 6) _ _ (Ok n) (λ z. omega (arith, ap number_of z)) e in
      let q = is_second {A = Result ℕ TableFileError} (ltb (length file) 8) _ _ (Ok n) (λ z. omega (arith, ap number_of z)) p.1 in
      let r = is_second {A = Result ℕ TableFileError} (ltb (length file) (end_of file)) _ _ (Ok n) (λ z. omega (arith, ap number_of z)) q.1 in
      let s = is_second {A = Result ℕ TableFileError} (ltb (end_of file) (length file)) _ _ (Ok n) (λ z. omega (arith, ap number_of z)) r.1 in
      let t = is_second {A = Result ℕ TableFileError} (ltb room (count_of file)) _ _ (Ok n) (λ z. omega (arith, ap number_of z)) s.1 in
      let u = read_fit (table_check (numbers_of file)) _ n t.1 in
      let low : end_of file ≤ length file = ltb-false _ _ r.0 in
      let high : length file ≤ end_of file = ltb-false _ _ s.0 in
      let held : count_of file ≤ room = ltb-false _ _ t.0 in
      record {
        is = file_is (ltb-false _ _ p.0) (omega arith);
        fit = u.0;
        count = sym u.1 ∙ sym (length_numbers (count_of file) (drop 8 file));
        fits = omega (arith, u.1);
      }
