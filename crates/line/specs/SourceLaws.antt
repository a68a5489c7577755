-- C-7, from bytes to characters: two sources with the same bytes before a newline, and the newline.
--     Split, split_points     characters whose bytes have a newline are characters before it, the newline, and others
--     chars_line              so the characters from a place before it on are the same up to it
--     after_line              and what follows it is well formed again
--     step_line               one step
-- Assumes nothing.
use Prim.Native.Nat.{ℕ, zero, suc, ◌≤◌, ◌<◌}
use Rattle.std.proofs.Common.{arith, ◌∙◌, length-append, take-append-drop}
use Rattle.std.specs.Prelude.{◌≡◌, Bool, ◌⊎◌, get_or, take}
use Rattle.std.proofs.Math.Path.{refl, sym, ap, subst}
use Rattle.std.proofs.Math.Bool.{true, false}
use Rattle.std.proofs.Math.Logic.{inl, inr, ⊎_elim}
use mathlib.Core.List.{List, [], ◌∷◌, ◌++◌}
use Rattle.std.proofs.Math.ListN.{length, drop, length-drop, get_or-append}
use Rattle.std.proofs.lemmas.List.{take-append-le}
use Rattle.std.proofs.Math.Seq.{take-append_seam, drop-append_seam, get_or-append_seam}
use Rattle.position.specs.declared.Place.{Place}
use Rattle.base.specs.PickLaws.{by_lt, split_lt}
use Rattle.base.specs.RangeLaws.{inside_is}
use Rattle.utf8.specs.Encode.{encode, encode_all, Scalars, WellFormed}
use Rattle.utf8.specs.Read.{is_tail}
use Rattle.utf8.specs.Chars.{chars}
use Rattle.text.specs.Tests.{lf}
use Rattle.text.specs.Count.{bytes_of}
use Rattle.state.specs.Lexer.{reach_of}
use Rattle.state.specs.declared.Lexer.{Lexer}
use Rattle.state.specs.declared.State.{State}
use Rattle.lexer.specs.Fine.{Fine}
use Rattle.lexer.specs.GetNextToken.{remaining_at}
use Rattle.lexer.specs.ArmLaws.{remaining_inside, remaining_some}
use Rattle.stepping.specs.MirrorsLaws.{change_same}
use Rattle.lexer.specs.Step.{half_at, half, joined, step}
use Rattle.line.specs.Line.{line}
use Rattle.line.specs.LineLaws.{drop_line}
use Rattle.line.specs.NameLaws.{bytes_length}
use Rattle.agree.specs.ReadingLaws.{inside_tail, own_chars}
use Rattle.line.specs.Past.{LineLook, PastHalf, PastStep}
use Rattle.line.specs.StepLaws.{half_line}

-- ---- characters

-- the characters cs are some, whose bytes are b, a newline, and others, whose bytes are x
record Split (cs b x : List ℕ) : Type 0 where
  before : List ℕ
  after : List ℕ
  scalars : Scalars before
  others : Scalars after
  bytes : encode_all before ≡ b
  left : encode_all after ≡ x
  same : cs ≡ line before after

-- a character whose first byte is a newline
first_line : (c : ℕ) (t x : List ℕ) → encode c ++ t ≡ lf ∷ x → c ≡ lf
unfolding encode
first_line c t x e =
    let b : get_or (encode c ++ t) 0 0 ≡ lf = ap (λ (l : List ℕ). get_or l 0 0) e in
    by_lt (λ (l : List ℕ). get_or (l ++ t) 0 0 ≡ lf → c ≡ lf) c 0x80 (λ _ f. f)
    (λ h. by_lt (λ (l : List ℕ). get_or (l ++ t) 0 0 ≡ lf → c ≡ lf) c 0x800 (λ _ f. absurd (omega arith))
    (λ _. by_lt (λ (l : List ℕ). get_or (l ++ t) 0 0 ≡ lf → c ≡ lf) c 0x10000 (λ _ f. absurd (omega arith)) (λ _ f. absurd (omega arith)))) b

-- the bytes of a character that stands before the newline do not reach it
fits_before : (c : ℕ) (t b x : List ℕ) → encode c ++ t ≡ line b x → 0 < length b → length (encode c) ≤ length b
fits_before c t b x e h =
    split_lt (length b) (length (encode c))
    (λ k. let f : get_or (encode c) (length b) 0 ≡ lf =
    sym (get_or-append (encode c) t 0 (length b) k) ∙ ap (λ (l : List ℕ). get_or l (length b) 0) e ∙ get_or-append_seam b lf x 0 in
    let g = inside_is (get_or (encode c) (length b) 0) 0x80 0xbf (inside_tail c (length b) h k) in
    absurd (omega (arith, g.0)))
    (λ k. k)

-- bytes that do not reach the newline are the first of those before it
front : (k t b x : List ℕ) → k ++ t ≡ line b x → length k ≤ length b → (k ≡ take (length k) b) × (t ≡ line (drop (length k) b) x)
front k t b x e h = (
  sym (take-append_seam k t) ∙ ap (take (length k)) e ∙ take-append-le (length k) b (lf ∷ x) h,
  sym (drop-append_seam k t) ∙ ap (drop (length k)) e ∙ drop_line (length k) b x h,
)

split_points : (cs b x : List ℕ) → Scalars cs → encode_all cs ≡ line b x → Split cs b x
unfolding encode_all encode
split_points [] b x v e = absurd (omega (arith, ap length e, length-append b (lf ∷ x)))
split_points (c ∷ cs) [] x v e =
    let f = first_line c (encode_all cs) x e in
    let g : lf ∷ encode_all cs ≡ lf ∷ x = ap (λ (d : ℕ). encode d ++ encode_all cs) (sym f) ∙ e in
    record {
      before = [];
      after = cs;
      scalars = tt;
      others = v.1;
      bytes = refl;
      left = ap (λ (l : List ℕ). drop 1 l) g;
      same = ap {B = List ℕ} (λ d. d ∷ cs) f;
    }
split_points (c ∷ cs) (a ∷ b) x v e =
    let n = length (encode c) in
    let h = fits_before c (encode_all cs) (a ∷ b) x e (omega arith) in
    let f = front (encode c) (encode_all cs) (a ∷ b) x e h in
    let s = split_points cs (drop n (a ∷ b)) x v.1 f.1 in
    record {
      before = c ∷ s.before;
      after = s.after;
      scalars = (v.0, s.scalars);
      others = s.others;
      left = s.left;
      bytes = (λ i. f.0 i ++ s.bytes i) ∙ take-append-drop n (a ∷ b);
      same = ap {B = List ℕ} (λ l. c ∷ l) s.same;
    }

-- the characters before the newline are those of its bytes
pub record CharsLine (b x : List ℕ) : Type 0 where
  pub after : List ℕ
  pub same : chars (line b x) ≡ line (chars b) after
  pub bytes : bytes_of (chars b) ≡ length b

pub chars_line : (b x : List ℕ) → WellFormed (line b x) → CharsLine b x
chars_line b x w =
    let s = split_points w.points b x w.scalars (sym w.same) in
    let e : s.before ≡ chars b = sym (own_chars s.before s.scalars) ∙ ap chars s.bytes in
    record {
      after = s.after;
      same = ap chars w.same ∙ own_chars w.points w.scalars ∙ s.same ∙ ap (λ (p : List ℕ). line p s.after) e;
      bytes = ap bytes_of (sym e) ∙ sym (bytes_length s.before) ∙ ap length s.bytes;
    }

-- what stands behind the newline is well formed again
pub after_line : (b x : List ℕ) → WellFormed (line b x) → WellFormed x
after_line b x w =
    let s = split_points w.points b x w.scalars (sym w.same) in
    record { points = s.after; scalars = s.others; same = sym s.left }

-- ---- a step

get_line : (a x y : List ℕ) (i : ℕ) → i ≤ length a → get_or (line a x) i 0 ≡ get_or (line a y) i 0
get_line [] x y zero h = refl
get_line [] x y (suc i) h = absurd (omega arith)
get_line (c ∷ a) x y zero h = refl
get_line (c ∷ a) x y (suc i) h = get_line a x y i (omega arith)

module _ (look : ℕ → ℕ) (ok : LineLook look) (edition : ℕ) (a x y : List ℕ) where
  module _ (l : Lexer) (fine : Fine (line a x) l) (also : Fine (line a y) l) (h : (reach_of l).byte.0 ≤ length a) where
    abbrev at : ℕ
    at = (reach_of l).byte.0

    half_same : (half look edition (line a x) l ≡ half look edition (line a y) l) ⊎ PastHalf (length a) (half look edition (line a x) l)
    unfolding half
    half_same = go (is_tail (get_or (line a x) at 0)) refl
      where
        go : (b : Bool) → is_tail (get_or (line a x) at 0) ≡ b
            → (half_at look edition (remaining_at (line a x) at) l ≡ half_at look edition (remaining_at (line a y) at) l)
            ⊎ PastHalf (length a) (half_at look edition (remaining_at (line a x) at) l)
        go true e =
            inl (ap (λ (cs : List ℕ). half_at look edition cs l)
            (remaining_inside (line a x) at e ∙ sym (remaining_inside (line a y) at (ap is_tail (sym (get_line a x y at h)) ∙ e))))
        go false e =
            let b = drop at a in
            let f = ap is_tail (sym (get_line a x y at h)) ∙ e in
            let p = chars_line b x (subst WellFormed (drop_line at a x h) (fine.whole e)) in
            let q = chars_line b y (subst WellFormed (drop_line at a y h) (also.whole f)) in
            let one : remaining_at (line a x) at ≡ line (chars b) p.after =
            remaining_some (line a x) at e ∙ ap chars (drop_line at a x h) ∙ p.same in
            let two : remaining_at (line a y) at ≡ line (chars b) q.after =
            remaining_some (line a y) at f ∙ ap chars (drop_line at a y h) ∙ q.same in
            let E : List ℕ → List ℕ → Type 0 =
            λ cs ds. (half_at look edition cs l ≡ half_at look edition ds l) ⊎ PastHalf (length a) (half_at look edition cs l) in
            subst (λ (cs : List ℕ). E cs (remaining_at (line a y) at)) (sym one)
            (subst (λ (ds : List ℕ). E (line (chars b) p.after) ds) (sym two)
            (half_line look ok edition (length a) (chars b) p.after q.after l (omega (arith, p.bytes, length-drop at a))))

  pub step_line : (st : State) → Fine (line a x) st.lexer → Fine (line a y) st.lexer → (reach_of st.lexer).byte.0 ≤ length a
      → (step look edition (line a x) st ≡ step look edition (line a y) st) ⊎ PastStep (length a) (step look edition (line a x) st)
  unfolding step
  step_line st fine also h = ⊎_elim (λ e. inl (ap (joined st) e)) (λ p. inr (past p)) (half_same st.lexer fine also h)
    where
      past : PastHalf (length a) (half look edition (line a x) st.lexer) → PastStep (length a) (step look edition (line a x) st)
      past p u e =
          let f = half look edition (line a x) st.lexer in
          let m = change_same f.change (record { lexer = f.lexer; modes = st.modes }) in
          (subst (λ (o : Place). length a < o.current_byte.0) (sym m.place) (p u e).0, (p u e).1)
