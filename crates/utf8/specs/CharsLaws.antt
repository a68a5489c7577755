-- Laws of `chars` and `check_from`: use these, and not the definitions' text.
--     at_char                  what holds where `read_at` finds a character at the place i: what a caller's turn uses
--     chars_at, check_at       one step of `chars` and `check_from` over that character
--     bad_at, cut_at           the answer of `check_from` where there is none
--     end_cut, chars_end, check_end    at the end
--     ascii_at, ascii_byte, not_ascii    for a caller that looks at a byte and not at a character
--     chars_past, check_past   over the encoding of many characters
--     well_of_fine, fine_of_well    `check_from` accepts exactly the well-formed bytes
--     chars_well               well-formed bytes are the encoding of their own code points, which are scalar values
--     Stopped, stopped         all bytes are an encoding, and then bytes at which no character stands
--     rest_at, never_stops     what a caller of `read_char` knows inside well-formed bytes
--     After, after_chars       behind the first k characters of well-formed bytes
--     computes                 `unfolding computes` opens every definition at once: at written-out bytes each then computes, by `refl`
-- Assumes nothing.
use Rattle.std.specs.Prelude.{ℕ, zero, suc, ◌+◌, ◌-◌, ◌<◌, ◌≤◌, ◌≡◌, refl, List, [], ◌∷◌, ◌++◌, length, get_or, take, drop, Ok, Err}
use Rattle.std.proofs.Common.{arith, add-zero, sym, ap, subst, ◌∙◌, append_assoc, append-nil, length-append, length-drop, take-append-drop, drop_of_length-le, drop-drop, drop-cons, get_or-drop}
use Rattle.std.proofs.Math.Seq.{drop-append_seam}
use Rattle.base.specs.PickLaws.{split_lt}
use Rattle.base.specs.Range.{inside}
use Rattle.utf8.specs.Encode.{Scalars, encode, encode_all, WellFormed}
use Rattle.utf8.specs.EncodeLaws.{encode1, all_append, scalars_drop}
use Rattle.utf8.specs.Read.{Read, seq_len, second_ok, fourth, third, second, head_of, decode_head, read_at}
use Rattle.utf8.specs.GrammarLaws.{Sound, found1}
use Rattle.utf8.specs.ReadLaws.{sound, complete}
use Rattle.utf8.specs.Chars.{chars_in, chars, check_in, check_from, At}
use Rattle.utf8.specs.declared.ReadError.TheVariants.{Bad, Cut}
use Rattle.utf8.specs.declared.Utf8Error.TheVariants.{BadAt, CutAt}

unfoldable pub computes : Unit {0}
unfolding encode encode_all seq_len inside second_ok fourth third second head_of decode_head chars_in check_in
computes = tt

-- ---- to pass over k bytes is to drop them

chars_skip : (k : ℕ) (l : List ℕ) → chars_in k l ≡ chars (drop k l)
unfolding chars_in
chars_skip zero l = refl
chars_skip (suc k) [] = refl
chars_skip (suc k) (b ∷ bs) = chars_skip k bs

check_skip : (i k : ℕ) (l : List ℕ) → check_in i k l ≡ check_from (i + k) (drop k l)
unfolding check_in
check_skip i zero l = ap (λ (j : ℕ). check_in j 0 l) (sym (add-zero i))
check_skip i (suc k) [] = refl
check_skip i (suc k) (b ∷ bs) = check_skip (suc i) k bs ∙ ap (λ (j : ℕ). check_from j (drop k bs)) (omega arith)

-- ---- one step from the front

-- a list that begins with a character of n bytes is no empty one, and n is not 0
split_head : (P : List ℕ → ℕ → Type 0) (l : List ℕ) (c n : ℕ) → decode_head l ≡ Ok (c, n)
    → ((b : ℕ) (bs : List ℕ) (m : ℕ) → decode_head (b ∷ bs) ≡ Ok (c, suc m) → P (b ∷ bs) (suc m)) → P l n
split_head P l c n e f = go l n e (sound l c n e).some (sound l c n e).fits
  where
    go : (l : List ℕ) (n : ℕ) → decode_head l ≡ Ok (c, n) → 0 < n → n ≤ length l → P l n
    go l zero e h k = absurd (omega arith)
    go [] (suc m) e h k = absurd (omega arith)
    go (b ∷ bs) (suc m) e h k = f b bs m e

chars_head : (l : List ℕ) (c n : ℕ) → decode_head l ≡ Ok (c, n) → chars l ≡ c ∷ chars (drop n l)
unfolding chars_in
chars_head l c n e =
    split_head (λ l n. chars l ≡ c ∷ chars (drop n l)) l c n e
    (λ b bs m p. rw p (ap {B = List ℕ} (λ r. c ∷ r) (chars_skip m bs)))

check_head : (i : ℕ) (l : List ℕ) (c n : ℕ) → decode_head l ≡ Ok (c, n) → check_from i l ≡ check_from (i + n) (drop n l)
unfolding check_in
check_head i l c n e =
    split_head (λ l n. check_from i l ≡ check_from (i + n) (drop n l)) l c n e
    (λ b bs m p. rw p (check_skip (suc i) m bs ∙ ap (λ (j : ℕ). check_from j (drop m bs)) (omega arith)))

check_bad : (i : ℕ) (l : List ℕ) → 0 < length l → decode_head l ≡ Err Bad → check_from i l ≡ Err (BadAt i)
unfolding check_in
check_bad i [] h e = absurd (omega arith)
check_bad i (b ∷ bs) h e = rw e

check_cut : (i : ℕ) (l : List ℕ) → 0 < length l → decode_head l ≡ Err Cut → check_from i l ≡ Err (CutAt i)
unfolding check_in
check_cut i [] h e = absurd (omega arith)
check_cut i (b ∷ bs) h e = rw e

-- ---- the same at a place of the whole

module _ (s : List ℕ) (i : ℕ) where
  pub chars_at : (c n : ℕ) → read_at s i ≡ Ok (c, n) → chars (drop i s) ≡ c ∷ chars (drop (i + n) s)
  chars_at c n e = rw (← drop-drop n i s) (chars_head (drop i s) c n e)

  pub check_at : (c n : ℕ) → read_at s i ≡ Ok (c, n) → check_from i (drop i s) ≡ check_from (i + n) (drop (i + n) s)
  check_at c n e = rw (← drop-drop n i s) (check_head i (drop i s) c n e)

  pub at_char : (c n : ℕ) → read_at s i ≡ Ok (c, n) → At s i c n
  at_char c n e =
      let w = sound (drop i s) c n e in
      let h : n ≤ length s - i = rw length-drop at w.fits in
      let p : 0 < n = w.some in
      record {
        scalar = w.scalar;
        width = w.width;
        bytes = rw (← drop-drop n i s) w.bytes;
        some = p;
        fits = omega arith;
        step = chars_at c n e;
      }

  pub bad_at : i < length s → read_at s i ≡ Err Bad → check_from i (drop i s) ≡ Err (BadAt i)
  bad_at h e = check_bad i (drop i s) (rw length-drop (omega arith)) e

  pub cut_at : i < length s → read_at s i ≡ Err Cut → check_from i (drop i s) ≡ Err (CutAt i)
  cut_at h e = check_cut i (drop i s) (rw length-drop (omega arith)) e

  pub end_cut : length s ≤ i → read_at s i ≡ Err Cut
  unfolding decode_head
  end_cut h = rw (drop_of_length-le s h)

  pub chars_end : length s ≤ i → chars (drop i s) ≡ []
  unfolding chars_in
  chars_end h = rw (drop_of_length-le s h)

  pub check_end : length s ≤ i → check_from i (drop i s) ≡ Ok tt
  unfolding check_in
  check_end h = rw (drop_of_length-le s h)

-- ---- ASCII: a byte below 128 is a character by itself, and a character below 128 is one byte

pub ascii_at : (s : List ℕ) (i : ℕ) → i < length s → get_or s i 0 < 0x80 → read_at s i ≡ Ok (get_or s i 0, 1)
ascii_at s i h k = ap decode_head (drop-cons s i 0 h) ∙ found1 (get_or s i 0) (drop (suc i) s) k

pub ascii_byte : (s : List ℕ) (i c n : ℕ) → read_at s i ≡ Ok (c, n) → c < 0x80 → (get_or s i 0 ≡ c) × (n ≡ 1)
ascii_byte s i c n e k =
    let w = sound (drop i s) c n e in
    let p : drop i s ≡ c ∷ drop n (drop i s) = w.bytes ∙ ap (λ (r : List ℕ). r ++ drop n (drop i s)) (encode1 c k) in
    let q : get_or s (i + 0) 0 ≡ c = sym (get_or-drop i s 0 0) ∙ ap (λ (r : List ℕ). get_or r 0 0) p in
    (rw add-zero at q, sym w.width ∙ ap length (encode1 c k))

pub not_ascii : (s : List ℕ) (i c n : ℕ) → read_at s i ≡ Ok (c, n) → 0x80 ≤ get_or s i 0 → 0x80 ≤ c
not_ascii s i c n e k = split_lt c 0x80 (λ h. omega (arith, (ascii_byte s i c n e h).0)) (λ h. h)

-- ---- over the encoding of characters

pub chars_past : (cs t : List ℕ) → Scalars cs → chars (encode_all cs ++ t) ≡ cs ++ chars t
unfolding encode_all
chars_past [] t w = refl
chars_past (c ∷ cs) t w =
    rw append_assoc
    (chars_head (encode c ++ (encode_all cs ++ t)) c (length (encode c)) (complete c (encode_all cs ++ t) w.0)
    ∙ ap {B = List ℕ} (λ r. c ∷ r) (ap chars (drop-append_seam (encode c) (encode_all cs ++ t)) ∙ chars_past cs t w.1))

pub check_past : (i : ℕ) (cs t : List ℕ) → Scalars cs → check_from i (encode_all cs ++ t) ≡ check_from (i + length (encode_all cs)) t
unfolding encode_all
check_past i [] t w = ap (λ (j : ℕ). check_from j t) (sym (add-zero i))
check_past i (c ∷ cs) t w =
    let n = length (encode c) in
    rw append_assoc
    (check_head i (encode c ++ (encode_all cs ++ t)) c n (complete c (encode_all cs ++ t) w.0)
    ∙ ap (λ (r : List ℕ). check_from (i + n) r) (drop-append_seam (encode c) (encode_all cs ++ t))
    ∙ check_past (i + n) cs t w.1
    ∙ ap (λ (j : ℕ). check_from j t) (omega (arith, length-append (encode c) (encode_all cs))))

-- ---- well-formed bytes are accepted, and are the encoding of their code points

as_encoded : (l : List ℕ) (w : WellFormed l) → l ≡ encode_all w.points ++ []
as_encoded l w = w.same ∙ sym (append-nil (encode_all w.points))

pub fine_of_well : (i : ℕ) (l : List ℕ) → WellFormed l → check_from i l ≡ Ok tt
unfolding check_in
fine_of_well i l w = ap (λ (r : List ℕ). check_from i r) (as_encoded l w) ∙ check_past i w.points [] w.scalars

own_chars : (l : List ℕ) (w : WellFormed l) → chars l ≡ w.points
unfolding chars_in
own_chars l w = ap chars (as_encoded l w) ∙ chars_past w.points [] w.scalars ∙ append-nil w.points

pub chars_well : (l : List ℕ) → WellFormed l → (l ≡ encode_all (chars l)) × Scalars (chars l)
chars_well l w = rw (own_chars l w) (w.same, w.scalars)

-- ---- what is accepted is well formed

-- no character
abbrev pub Stops : Read → Type 0
Stops (Ok _) = ⊥
Stops (Err _) = Unit {0}

pub record Stopped (l : List ℕ) : Type 0 where
  pub points : List ℕ
  pub scalars : Scalars points
  pub rest : List ℕ
  pub same : l ≡ encode_all points ++ rest
  pub stops : Stops (decode_head rest)

stopped_here : (l : List ℕ) → Stops (decode_head l) → Stopped l
unfolding encode_all
stopped_here l s = record { points = []; scalars = tt; rest = l; same = refl; stops = s }

stopped_later : (l : List ℕ) (c n : ℕ) → Sound l c n → Stopped (drop n l) → Stopped l
unfolding encode_all
stopped_later l c n w r =
    record {
      points = c ∷ r.points;
      scalars = (w.scalar, r.scalars);
      rest = r.rest;
      same = w.bytes ∙ ap (λ (t : List ℕ). encode c ++ t) r.same ∙ sym (append_assoc (encode c) (encode_all r.points) r.rest);
      stops = r.stops;
    }

nothing : Stopped []
unfolding decode_head
nothing = stopped_here [] tt

stopped_in : (k : ℕ) (l : List ℕ) → Stopped (drop k l)
stopped_in zero [] = nothing
stopped_in (suc k) [] = nothing
stopped_in (suc k) (b ∷ bs) = stopped_in k bs
stopped_in zero (b ∷ bs) = go (decode_head (b ∷ bs)) refl (λ n. stopped_in n bs)
  where
    go : (r : Read) → decode_head (b ∷ bs) ≡ r → ((n : ℕ) → Stopped (drop n bs)) → Stopped (b ∷ bs)
    go (Ok (c, zero)) p ih = absurd (omega (arith, (sound (b ∷ bs) c 0 p).some))
    go (Ok (c, suc n)) p ih = stopped_later (b ∷ bs) c (suc n) (sound (b ∷ bs) c (suc n) p) (ih n)
    go (Err Bad) p ih = stopped_here (b ∷ bs) (subst Stops (sym p) tt)
    go (Err Cut) p ih = stopped_here (b ∷ bs) (subst Stops (sym p) tt)

pub stopped : (l : List ℕ) → Stopped l
stopped l = stopped_in 0 l

never_fine : (i : ℕ) (l : List ℕ) → 0 < length l → Stops (decode_head l) → check_from i l ≡ Ok tt → ⊥
never_fine i l h s e = go (decode_head l) refl s
  where
    go : (r : Read) → decode_head l ≡ r → Stops r → ⊥
    go (Ok (c, n)) p s = s
    go (Err Bad) p s = let q = check_bad i l h p in let z : ◌≡◌ {A = ℕ} 0 1 = cc in omega arith
    go (Err Cut) p s = let q = check_cut i l h p in let z : ◌≡◌ {A = ℕ} 0 1 = cc in omega arith

pub well_of_fine : (i : ℕ) (l : List ℕ) → check_from i l ≡ Ok tt → WellFormed l
well_of_fine i l e = let r = stopped l in go r.points r.scalars r.rest r.same r.stops
  where
    go : (cs : List ℕ) → Scalars cs → (rest : List ℕ) → l ≡ encode_all cs ++ rest → Stops (decode_head rest) → WellFormed l
    go cs w [] p s = record { points = cs; scalars = w; same = p ∙ append-nil (encode_all cs) }
    go cs w (b ∷ bs) p s =
        absurd
        (never_fine (i + length (encode_all cs)) (b ∷ bs) (omega arith) s
        (sym (ap (λ (r : List ℕ). check_from i r) p ∙ check_past i cs (b ∷ bs) w) ∙ e))

-- ---- inside well-formed bytes

-- what follows a character is well formed again
pub rest_at : (s : List ℕ) (i c n : ℕ) → WellFormed (drop i s) → read_at s i ≡ Ok (c, n) → WellFormed (drop (i + n) s)
rest_at s i c n w e = well_of_fine (i + n) (drop (i + n) s) (sym (check_at s i c n e) ∙ fine_of_well i (drop i s) w)

-- what stands behind some characters: they end inside, and the other characters are left
pub record After (s : List ℕ) (e : ℕ) (cs : List ℕ) : Type 0 where
  pub within : e ≤ length s
  pub well : WellFormed (drop e s)
  pub left : chars (drop e s) ≡ cs

pub after_chars : (s : List ℕ) (i : ℕ) → i ≤ length s → WellFormed (drop i s)
    → (k : ℕ) → After s (i + length (encode_all (take k (chars (drop i s))))) (drop k (chars (drop i s)))
after_chars s i h w k =
    let cs = chars (drop i s) in
    let passed = encode_all (take k cs) in
    let rest = encode_all (drop k cs) in
    let v = chars_well (drop i s) w in
    let split : drop i s ≡ passed ++ rest = v.0 ∙ ap encode_all (sym (take-append-drop k cs)) ∙ all_append (take k cs) (drop k cs) in
    let behind : drop (i + length passed) s ≡ rest =
    sym (drop-drop (length passed) i s) ∙ ap (λ (r : List ℕ). drop (length passed) r) split ∙ drop-append_seam passed rest in
    let well : WellFormed rest = record { points = drop k cs; scalars = scalars_drop k cs v.1; same = refl } in
    record {
      within = omega (arith, ap length split, length-drop i s, length-append passed rest);
      well = subst WellFormed (sym behind) well;
      left = ap chars behind ∙ own_chars rest well;
    }

-- there is a character at every place before the end
pub never_stops : (s : List ℕ) (i : ℕ) → WellFormed (drop i s) → i < length s → Stops (read_at s i) → ⊥
never_stops s i w h t = never_fine i (drop i s) (rw length-drop (omega arith)) t (fine_of_well i (drop i s) w)
