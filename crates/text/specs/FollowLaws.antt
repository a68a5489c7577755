-- Laws of the loops over turns, at a place of the bytes.
--     next_is_lem, no-next        a peek at an ASCII character is a test of the byte there
--     ascii_head, turn_byte   where an ASCII byte stands, it is the character
--     one_char, one_more_lem      bytes that are whole characters: one character; and an ASCII byte after such bytes
--     begins, ends            the invariant `Going` where a loop begins, and what is found where it ends
--     passes, lines, closes, stuck, and their -fits and -falls      what each kind of turn does to it
--     follow_by               what holds wherever a loop over turns can come to, holds of what it comes to
--     follow_lands            where the loop comes to stands in the source
-- Assumes nothing.
use Prim.Native.Nat.{ℕ, zero, suc, ◌+◌, ◌-◌, ◌≤◌, ◌<◌}
use Rattle.std.proofs.Common.{arith, sym, subst, ◌∙◌, drop_of_length-le, lt-ltb, le-ltb, ne_eqb}
use Rattle.std.specs.Prelude.{◌≡◌, eqb, length, get_or, drop, Ok, Err}
use Rattle.std.proofs.Math.Path.{refl, ap}
use mathlib.Core.List.{List, [], ◌∷◌, ◌++◌, append_assoc}
use Rattle.base.specs.PickLaws.{by_lt, split_lt}
use Rattle.base.specs.Refusal.{source_most}
use Rattle.position.specs.Position.{column_most}
use Rattle.position.specs.Place.{along_by, line_by}
use Rattle.position.specs.declared.Reach.{Reach}
use Rattle.utf8.specs.Encode.{encode, WellFormed}
use Rattle.utf8.specs.Read.{Read, read_at}
use Rattle.utf8.specs.Answer.{code_of}
use Rattle.utf8.specs.Chars.{chars, chars_in, At}
use Rattle.utf8.specs.CharsLaws.{Stops, at_char, rest_at, never_stops, ascii_at, ascii_byte}
use Rattle.utf8.specs.declared.ReadError.TheVariants.{Bad, Cut}
use Rattle.text.specs.Bytes.{byte_at}
use Rattle.text.specs.Count.{len_utf8, bytes_of}
use Rattle.text.specs.Follow.{next_is, Followed, Closed, Open, Stopped, drop_bytes, follow_in, follow, turn_at}
use Rattle.text.specs.Stands.{Stands, Passes, Lands, Within, Safe, Going, chars_from}
use Rattle.text.specs.declared.Turn.{Turn}
use Rattle.text.specs.declared.Turn.TheVariants.{Pass, Line, Close, Stuck}

-- ---- what stands at a place before the end

-- a character that stands at i, with what utf8 says of it
pub record Here (s : List ℕ) (i : ℕ) : Type 0 where
  pub code : ℕ
  pub len : ℕ
  pub read : read_at s i ≡ Ok (code, len)
  pub at : At s i code len
  pub well : WellFormed (drop (i + len) s)

pub here : (s : List ℕ) (i : ℕ) → WellFormed (drop i s) → i < length s → Here s i
here s i w h = go (read_at s i) refl
  where
    go : (r : Read) → read_at s i ≡ r → Here s i
    go (Ok (c, n)) e = record { code = c; len = n; read = e; at = at_char s i c n e; well = rest_at s i c n w e }
    go (Err Bad) e = absurd (never_stops s i w h (subst Stops (sym e) tt))
    go (Err Cut) e = absurd (never_stops s i w h (subst Stops (sym e) tt))

pub chars_end : (s : List ℕ) (i : ℕ) → length s ≤ i → chars (drop i s) ≡ []
unfolding chars_in
chars_end s i h = rw (drop_of_length-le s h)

byte_inside : (s : List ℕ) (i : ℕ) → i < length s → byte_at s i ≡ get_or s i 0
byte_inside s i h = rw (lt-ltb i (length s) h)

byte_past : (s : List ℕ) (i : ℕ) → length s ≤ i → byte_at s i ≡ 256
byte_past s i h = rw (le-ltb i (length s) h)

-- a byte that is not the 256 of the end is within
pub byte_within : (s : List ℕ) (i d : ℕ) → byte_at s i ≡ d → d < 256 → i < length s
byte_within s i d e h = split_lt i (length s) (λ k. k) (λ k. absurd (omega (arith, sym (byte_past s i k) ∙ e)))

-- an ASCII byte is the character there
pub ascii_read : (s : List ℕ) (i d : ℕ) → byte_at s i ≡ d → d < 128 → read_at s i ≡ Ok (d, 1)
ascii_read s i d e h =
    let k : i < length s = byte_within s i d e (omega arith) in
    let b : get_or s i 0 ≡ d = sym (byte_inside s i k) ∙ e in
    ascii_at s i k (rw b h) ∙ ap {B = Read} (λ c. Ok (c, 1)) b

pub ascii_head : (s : List ℕ) (i d : ℕ) → byte_at s i ≡ d → d < 128 → At s i d 1
ascii_head s i d e h = at_char s i d 1 (ascii_read s i d e h)

-- a character c stands at i: it is the ASCII character d exactly where the byte is
pub head_is : (s : List ℕ) (i c n d : ℕ) → read_at s i ≡ Ok (c, n) → i < length s → d < 128 → eqb c d ≡ eqb (byte_at s i) d
head_is s i c n d e k h =
    split_lt c 128 (λ a. let b = (ascii_byte s i c n e a).0 in ap (λ (x : ℕ). eqb x d) (sym (byte_inside s i k ∙ b)))
    (λ a. ne_eqb c d (λ x. omega arith)
    ∙ sym
    (ne_eqb (byte_at s i) d (λ x. let g : c ≡ d = ap code_of (sym e ∙ ascii_read s i d x h) in omega arith)))

-- a peek at an ASCII character is a test of the byte
pub next_is_lem : (s : List ℕ) (i d : ℕ) → WellFormed (drop i s) → d < 128 → next_is d (chars (drop i s)) ≡ eqb (byte_at s i) d
unfolding next_is
next_is_lem s i d w h =
    split_lt i (length s) (λ k. let c = here s i w k in rw c.at.step (head_is s i c.code c.len d c.read k h))
    (λ k. rw (chars_end s i k) (sym (ne_eqb (byte_at s i) d (λ x. omega (arith, sym (byte_past s i k) ∙ x)))))

module _ (turn : ℕ → List ℕ → Turn) (s : List ℕ) (i : ℕ) where
  pub turn_char : (c n : ℕ) → At s i c n → turn_at turn (chars (drop i s)) ≡ turn c (chars (drop (i + n) s))
  unfolding turn_at
  turn_char c n a = rw a.step

  pub turn_byte : (d : ℕ) → byte_at s i ≡ d → d < 128 → turn_at turn (chars (drop i s)) ≡ turn d (chars (drop (i + 1) s))
  turn_byte d e h = turn_char d 1 (ascii_head s i d e h)

-- ---- bytes that are whole characters

len_some : (c : ℕ) → 0 < len_utf8 c
unfolding encode
len_some c =
    by_lt (λ (l : List ℕ). 0 < length l) c 0x80 (λ h. omega arith)
    (λ h. by_lt (λ (l : List ℕ). 0 < length l) c 0x800 (λ k. omega arith)
    (λ k. by_lt (λ (l : List ℕ). 0 < length l) c 0x10000 (λ m. omega arith) (λ m. omega arith)))

bytes_one : (c : ℕ) → bytes_of (c ∷ []) ≡ len_utf8 c
unfolding bytes_of
bytes_one c = omega arith

bytes_append : (a b : List ℕ) → bytes_of (a ++ b) ≡ bytes_of a + bytes_of b
unfolding bytes_of
bytes_append [] b = omega arith
bytes_append (c ∷ a) b = omega (arith, bytes_append a b)

drop_none : (l : List ℕ) → drop_bytes 0 l ≡ l
unfolding drop_bytes
drop_none [] = refl
drop_none (c ∷ l) = refl

-- past the bytes of the first characters stand the others
drop_bytes_lem : (a b : List ℕ) → drop_bytes (bytes_of a) (a ++ b) ≡ b
unfolding bytes_of drop_bytes
drop_bytes_lem [] b = drop_none b
drop_bytes_lem (c ∷ a) b =
    let e : len_utf8 c + bytes_of a ≡ suc (len_utf8 c + bytes_of a - 1) = omega (arith, len_some c) in
    let f : suc (len_utf8 c + bytes_of a - 1) - len_utf8 c ≡ bytes_of a = omega (arith, len_some c) in
    ap (λ (k : ℕ). drop_bytes k (c ∷ (a ++ b))) e ∙ ap (λ (k : ℕ). drop_bytes k (a ++ b)) f ∙ drop_bytes_lem a b

-- one character
pub one_char : (s : List ℕ) (i c n : ℕ) → At s i c n → WellFormed (drop (i + n) s) → Passes s i n
one_char s i c n a w =
    record { some = a.some; fits = a.fits; well = w; points = c ∷ []; bytes = bytes_one c ∙ a.width; split = a.step }

-- an ASCII byte after whole characters is one more
pub one_more_lem : (s : List ℕ) (i b d : ℕ) → Passes s i b → byte_at s (i + b) ≡ d → d < 128 → Passes s i (b + 1)
one_more_lem s i b d p e h =
    let a = ascii_head s (i + b) d e h in
    let w = rest_at s (i + b) d 1 p.well (ascii_read s (i + b) d e h) in
    let q : i + b + 1 ≡ i + (b + 1) = omega arith in
    record {
      some = omega arith;
      fits = omega (arith, a.fits);
      well = subst (λ (j : ℕ). WellFormed (drop j s)) q w;
      points = p.points ++ (d ∷ []);
      bytes = bytes_append p.points (d ∷ []) ∙ omega (arith, p.bytes, bytes_one d, a.width);
      split = p.split
          ∙ ap (λ (l : List ℕ). p.points ++ l) (a.step ∙ ap (λ (j : ℕ). d ∷ chars (drop j s)) q)
          ∙ sym (append_assoc p.points (d ∷ []) (chars (drop (i + (b + 1)) s)));
    }

-- an ASCII byte by itself
pub one_ascii : (s : List ℕ) (i d : ℕ) → WellFormed (drop i s) → byte_at s i ≡ d → d < 128 → Passes s i 1
one_ascii s i d w e h = one_char s i d 1 (ascii_head s i d e h) (rest_at s i d 1 w (ascii_read s i d e h))

-- nothing passed
pub no_char_lem : (s : List ℕ) (i : ℕ) → WellFormed (drop i s) → i ≤ length s → Lands s i 0
no_char_lem s i w h =
    let q : i ≡ i + 0 = omega arith in
    record { fits = omega arith; well = subst (λ (j : ℕ). WellFormed (drop j s)) q w }

pub lands : {s : List ℕ} {i b : ℕ} → Passes s i b → Lands s i b
lands p = record { fits = p.fits; well = p.well }

-- ---- one turn of a loop

module _ (turn : ℕ → List ℕ → Turn) where
  follow_skip : (k : ℕ) (r : Reach) (cs : List ℕ) → follow_in turn k r cs ≡ follow turn r (drop_bytes k cs)
  unfolding follow_in drop_bytes
  follow_skip k r [] = refl
  follow_skip zero r (c ∷ cs) = refl
  follow_skip (suc k) r (c ∷ cs) = follow_skip (suc k - len_utf8 c) r cs

  drop_some : (b c : ℕ) (cs : List ℕ) → 0 < b → drop_bytes (b - len_utf8 c) cs ≡ drop_bytes b (c ∷ cs)
  unfolding drop_bytes
  drop_some zero c cs h = absurd (omega arith)
  drop_some (suc b) c cs h = refl

  -- what is found after a turn at the front of l
  abbrev pub after : Reach → List ℕ → Turn → Followed
  after r l (Pass b w) = follow turn (along_by b w r) (drop_bytes b l)
  after r l (Line b) = follow turn (line_by b r) (drop_bytes b l)
  after r l (Close b w) = Closed (along_by b w r)
  after r l Stuck = Stopped

  -- a turn that goes on passes something
  abbrev Some : Turn → Type 0
  Some (Pass b w) = 0 < b
  Some (Line b) = 0 < b
  Some (Close b w) = Unit {0}
  Some Stuck = Unit {0}

  first_turn : (r : Reach) (l : List ℕ) (t : Turn) → 0 < length l → t ≡ turn_at turn l → Some t → follow turn r l ≡ after r l t
  unfolding follow_in turn_at
  first_turn r [] t h e p = absurd (omega arith)
  first_turn r (c ∷ cs) (Pass b w) h e p =
      rw (sym e, follow_in) (follow_skip (b - len_utf8 c) (along_by b w r) cs ∙ ap (follow turn (along_by b w r)) (drop_some b c cs p))
  first_turn r (c ∷ cs) (Line b) h e p =
      rw (sym e, follow_in) (follow_skip (b - len_utf8 c) (line_by b r) cs ∙ ap (follow turn (line_by b r)) (drop_some b c cs p))
  first_turn r (c ∷ cs) (Close b w) h e p = rw (sym e, follow_in)
  first_turn r (c ∷ cs) Stuck h e p = rw (sym e, follow_in)

  no_turn : (r : Reach) → follow turn r [] ≡ Open r
  unfolding follow_in
  no_turn r = refl

  some : (s : List ℕ) (i : ℕ) (t : Turn) → Within s i t → Some t
  some s i (Pass b w) p = p.0.some
  some s i (Line b) p = p.some
  some s i (Close b w) p = tt
  some s i Stuck p = tt

-- ---- the invariant of a loop, and what each arm asks of it

pub begins : {turn : ℕ → List ℕ → Turn} {s : List ℕ} {r : Reach} → Stands s r → Going turn s r r r.byte.0
begins o = record { at = refl; stands = o; on = omega arith; same = refl }

module _ {turn : ℕ → List ℕ → Turn} {s : List ℕ} {start r : Reach} {i : ℕ} where
  -- the end of the source
  pub ends : Going turn s start r i → length s ≤ i → follow turn start (chars (drop start.byte.0 s)) ≡ Open r
  ends g h = sym g.same ∙ ap (follow turn r) (chars_end s r.byte.0 (omega arith)) ∙ no_turn turn r

  module _ {t : Turn} (safe : Safe turn s) (g : Going turn s start r i) (h : i < length s) (d : t ≡ turn_at turn (chars (drop i s))) where
    well : WellFormed (drop i s)
    well = subst (λ (j : ℕ). WellFormed (drop j s)) (sym g.at) g.stands.well

    within : {t' : Turn} → t ≡ t' → Within s i t'
    within e = subst (Within s i) (sym d ∙ e) (safe i h well)

    -- what was to be found is what the turn leads to
    leads : {t' : Turn} → t ≡ t' → follow turn start (chars (drop start.byte.0 s)) ≡ after turn r (chars (drop i s)) t'
    leads {t'} e =
        let c = here s i well h in
        let n : 0 < length (chars (drop i s)) = rw c.at.step (omega arith) in
        sym g.same
        ∙ ap (λ (j : ℕ). follow turn r (chars (drop j s))) (sym g.at)
        ∙ first_turn turn r (chars (drop i s)) t' n (sym e ∙ d) (some turn s i t' (within e))

    pub stuck : t ≡ Stuck → follow turn start (chars (drop start.byte.0 s)) ≡ Stopped
    stuck e = leads e

    -- the place after b bytes that are whole characters
    rest : (b : ℕ) → Passes s i b → drop_bytes b (chars (drop i s)) ≡ chars (drop (i + b) s)
    rest b p =
        ap (λ (l : List ℕ). drop_bytes b l) p.split
        ∙ ap (λ (k : ℕ). drop_bytes k (p.points ++ chars (drop (i + b) s))) (sym p.bytes)
        ∙ drop_bytes_lem p.points (chars (drop (i + b) s))

    pub pass_fits : {b w : ℕ} → t ≡ Pass b w
        → ((r.byte.0 ≤ source_most) × (b ≤ source_most)) × ((r.position.column.0 ≤ column_most) × (w ≤ column_most))
    pass_fits {b} {w} e = let p = within e in omega (arith, p.0.fits, p.1, g.stands, g.at)

    pub passes : {b w : ℕ} {q : Reach} → t ≡ Pass b w → q ≡ along_by b w r → Going turn s start q q.byte.0
    passes {b} {w} {q} e f =
        let p = within e in
        let m : i + b ≡ r.byte.0 + b = omega (arith, g.at) in
        subst (λ (x : Reach). Going turn s start x x.byte.0) (sym f)
        (record {
          at = refl;
          stands = record {
            small = g.stands.small;
            inside = omega (arith, p.0.fits);
            well = subst (λ (j : ℕ). WellFormed (drop j s)) m p.0.well;
            lines = omega (arith, g.stands.lines);
            columns = omega (arith, g.stands.columns, p.1);
          };
          on = omega (arith, g.on);
          same = sym (leads e ∙ ap (follow turn (along_by b w r)) (rest b p.0 ∙ ap (λ (j : ℕ). chars (drop j s)) m));
        })

    pub pass_falls : {b w : ℕ} {q : Reach} → t ≡ Pass b w → q ≡ along_by b w r → length s - q.byte.0 < length s - i
    pass_falls {b} {w} {q} e f =
        let p = within e in
        let k : q.byte.0 ≡ r.byte.0 + b = ap (λ (x : Reach). x.byte.0) f in
        omega (arith, p.0.some, p.0.fits, g.at)

    pub line_fits : {b : ℕ} → t ≡ Line b → ((r.byte.0 ≤ source_most) × (b ≤ source_most)) × (r.position.line ≤ source_most)
    line_fits {b} e = let p = within e in omega (arith, p.fits, g.stands, g.at)

    pub lines : {b : ℕ} {q : Reach} → t ≡ Line b → q ≡ line_by b r → Going turn s start q q.byte.0
    lines {b} {q} e f =
        let p = within e in
        let m : i + b ≡ r.byte.0 + b = omega (arith, g.at) in
        subst (λ (x : Reach). Going turn s start x x.byte.0) (sym f)
        (record {
          at = refl;
          stands = record {
            small = g.stands.small;
            inside = omega (arith, p.fits);
            well = subst (λ (j : ℕ). WellFormed (drop j s)) m p.well;
            lines = omega (arith, g.stands.lines, p.some);
            columns = omega arith;
          };
          on = omega (arith, g.on);
          same = sym (leads e ∙ ap (follow turn (line_by b r)) (rest b p ∙ ap (λ (j : ℕ). chars (drop j s)) m));
        })

    pub line_falls : {b : ℕ} {q : Reach} → t ≡ Line b → q ≡ line_by b r → length s - q.byte.0 < length s - i
    line_falls {b} {q} e f =
        let p = within e in
        let k : q.byte.0 ≡ r.byte.0 + b = ap (λ (x : Reach). x.byte.0) f in
        omega (arith, p.some, p.fits, g.at)

    pub close_fits : {b w : ℕ} → t ≡ Close b w
        → ((r.byte.0 ≤ source_most) × (b ≤ source_most)) × ((r.position.column.0 ≤ column_most) × (w ≤ column_most))
    close_fits {b} {w} e = let p = within e in omega (arith, p.0.fits, p.1, g.stands, g.at)

    -- where the loop closes
    pub closes : {b w : ℕ} {q : Reach} → t ≡ Close b w → q ≡ along_by b w r
        → (follow turn start (chars (drop start.byte.0 s)) ≡ Closed q) × (Stands s q × (start.byte.0 ≤ q.byte.0))
    closes {b} {w} {q} e f =
        let p = within e in
        let m : i + b ≡ r.byte.0 + b = omega (arith, g.at) in
        subst
        (λ (x : Reach). (follow turn start (chars (drop start.byte.0 s)) ≡ Closed x) × (Stands s x × (start.byte.0 ≤ x.byte.0)))
        (sym f) (
          leads e,
          (
            record {
              small = g.stands.small;
              inside = omega (arith, p.0.fits);
              well = subst (λ (j : ℕ). WellFormed (drop j s)) m p.0.well;
              lines = omega (arith, g.stands.lines);
              columns = omega (arith, g.stands.columns, p.1);
            },
            omega (arith, g.on),
          ),
        )

-- ---- where the definition's loop comes to, without any code

-- what holds wherever the loop can come to holds of what it comes to
module _ (turn : ℕ → List ℕ → Turn) (s : List ℕ) (safe : Safe turn s) (start : Reach) (P : Followed → Type 0)
    (open-end : (r : Reach) → Going turn s start r r.byte.0 → P (Open r))
    (close-end : (r : Reach) (b w : ℕ) → Going turn s start r r.byte.0 → r.byte.0 < length s
    → Close b w ≡ turn_at turn (chars_from s r) → P (Closed (along_by b w r)))
    (stopped : P Stopped) where
  abbrev Found : Type 0
  Found = P (follow turn start (chars_from s start))

  one_turn : (r : Reach) → Going turn s start r r.byte.0 → r.byte.0 < length s → (t : Turn) → t ≡ turn_at turn (chars_from s r)
      → ((q : Reach) → length s - q.byte.0 < length s - r.byte.0 → Going turn s start q q.byte.0 → Found) → Found
  one_turn r g h (Pass b w) e on = on (along_by b w r) (pass_falls safe g h e refl refl) (passes safe g h e refl refl)
  one_turn r g h (Line b) e on = on (line_by b r) (line_falls safe g h e refl refl) (lines safe g h e refl refl)
  one_turn r g h (Close b w) e on = subst P (sym (closes safe g h e {q = along_by b w r} refl refl).0) (close-end r b w g h e)
  one_turn r g h Stuck e on = subst P (sym (stuck safe g h e refl)) stopped

  all_turns : (fuel : ℕ) (r : Reach) → length s - r.byte.0 ≤ fuel → Going turn s start r r.byte.0 → Found
  all_turns zero r f g = subst P (sym (ends g (omega arith))) (open-end r g)
  all_turns (suc fuel) r f g =
      split_lt r.byte.0 (length s) (λ h. one_turn r g h _ refl (λ q l k. all_turns fuel q (omega arith) k))
      (λ h. subst P (sym (ends g h)) (open-end r g))

  pub follow_by : Stands s start → Found
  follow_by o = all_turns (length s - start.byte.0) start (omega arith) (begins o)

-- a place that was reached stands in s, and not before the start
abbrev pub Landed : List ℕ → Reach → Followed → Type 0
Landed s r (Closed q) = Stands s q × (r.byte.0 ≤ q.byte.0)
Landed s r (Open q) = Stands s q × (r.byte.0 ≤ q.byte.0)
Landed s r Stopped = Unit {0}

pub follow_lands : (turn : ℕ → List ℕ → Turn) (s : List ℕ) → Safe turn s → (start : Reach) → Stands s start
    → Landed s start (follow turn start (chars_from s start))
follow_lands turn s safe start =
    follow_by turn s safe start (Landed s start) (λ r g. (g.stands, g.on)) (λ r b w g h e. (closes safe g h e {q = along_by b w r} refl refl).1) tt
