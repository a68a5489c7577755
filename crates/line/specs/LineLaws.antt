-- C-7, of runs and loops: what reads the characters p, a newline and q up to the newline gives the same for every q. `line p q` is these
-- characters; the law of a loop is an either-or, since a loop may take the newline and go on.
--     next_line_lem, drop_line, count_line, rest_line, run_line     runs of characters that pass a test which the newline does not pass
--     count_most_lem, run_most     how far they reach
--     follow_line              a loop of local turns: the same for every q, or it reaches behind the newline, or is stopped
-- Assumes nothing.
use Prim.Native.Nat.{ℕ, zero, suc, ◌+◌, ◌-◌, ◌≤◌, ◌<◌}
use native.Mathlib.Omega.{arith}
use Rattle.std.specs.Prelude.{◌≡◌, Bool, ◌⊎◌, length, drop}
use Rattle.std.proofs.Math.Path.{refl, subst}
use Rattle.std.proofs.Common.{sym, ap, ◌∙◌}
use Rattle.std.proofs.Math.Bool.{true, false}
use Rattle.std.proofs.Math.Logic.{inl, inr, ⊎_elim}
use mathlib.Core.List.{List, [], ◌∷◌}
use Rattle.std.proofs.lemmas.List.{drop-append-le}
use Rattle.position.specs.Place.{along_by, line_by}
use Rattle.position.specs.declared.Reach.{Reach}
use Rattle.property.specs.Parts.{width_of}
use Rattle.text.specs.Tests.{lf}
use Rattle.text.specs.Count.{len_utf8, bytes_of, count_while, run_utf8}
use Rattle.text.specs.Follow.{next_is, Followed, Closed, Stopped, follow_in}
use Rattle.line.specs.Line.{line, Whole, Short, Local, Beyond}
use Rattle.text.specs.declared.Turn.{Turn}
use Rattle.text.specs.declared.Turn.TheVariants.{Pass, Line, Close, Stuck}

-- ---- runs

pub next_line_lem : (d : ℕ) (p q r : List ℕ) → next_is d (line p q) ≡ next_is d (line p r)
unfolding next_is
next_line_lem d [] q r = refl
next_line_lem d (c ∷ p) q r = refl

pub drop_line : (n : ℕ) (p q : List ℕ) → n ≤ length p → drop n (line p q) ≡ line (drop n p) q
drop_line n p q h = drop-append-le n p (lf ∷ q) h

module _ (f : ℕ → Bool) where
  pub count_line : f lf ≡ false → (p q : List ℕ) → count_while f (line p q) ≡ count_while f p
  unfolding count_while
  count_line h [] q = λ i. elim (h i) [ true ↦ suc (count_while f q) | false ↦ 0 ]
  count_line h (c ∷ p) q = λ i. elim (f c) [ true ↦ suc (count_line h p q i) | false ↦ 0 ]

  pub count_most_lem : (p : List ℕ) → count_while f p ≤ length p
  unfolding count_while
  count_most_lem [] = omega arith
  count_most_lem (c ∷ p) =
      elim (f c) as (λ (b : Bool). elim b [ true ↦ suc (count_while f p) | false ↦ 0 ] ≤ suc (length p)) [ true ↦ omega (arith, count_most_lem p) | false ↦ omega arith ]

  -- what is left behind the run
  pub rest_line : f lf ≡ false → (p q : List ℕ) → drop (count_while f (line p q)) (line p q) ≡ line (drop (count_while f p) p) q
  rest_line h p q = ap (λ (n : ℕ). drop n (line p q)) (count_line h p q) ∙ drop_line (count_while f p) p q (count_most_lem p)

  module _ (look : ℕ → ℕ) where
    pub run_line : f lf ≡ false → (r : Reach) (p q : List ℕ) → run_utf8 look f r (line p q) ≡ run_utf8 look f r p
    unfolding run_utf8
    run_line h r [] q = λ i. elim (h i) [ true ↦ run_utf8 look f (along_by (len_utf8 lf) (width_of (look lf)) r) q | false ↦ r ]
    run_line h r (c ∷ p) q =
        λ i. elim (f c) [ true ↦ run_line h (along_by (len_utf8 c) (width_of (look c)) r) p q i | false ↦ r ]

    pub run_most : (r : Reach) (p : List ℕ) → (run_utf8 look f r p).byte.0 ≤ r.byte.0 + bytes_of p
    unfolding run_utf8 bytes_of
    run_most r [] = omega arith
    run_most r (c ∷ p) =
        let next = along_by (len_utf8 c) (width_of (look c)) r in
        elim (f c) as (λ (b : Bool). (elim b as (λ (_ : Bool). Reach) [ true ↦ run_utf8 look f next p | false ↦ r ]).byte.0 ≤ r.byte.0 + (len_utf8 c + bytes_of p)) [ true ↦ omega (arith, run_most next p) | false ↦ omega arith ]

-- ---- loops

pub whole_none : (p : List ℕ) → Whole 0 p
whole_none [] = refl
whole_none (c ∷ p) = inl refl

module _ (turn : ℕ → List ℕ → Turn) where
  -- what a turn at c leads to
  abbrev leads : ℕ → Reach → List ℕ → Turn → Followed
  leads c r cs t = elim t [ Pass b w ↦ follow_in turn (b - len_utf8 c) (along_by b w r) cs | Line b ↦ follow_in turn (b - len_utf8 c) (line_by b r) cs | Close b w ↦ Closed (along_by b w r) | Stuck ↦ Stopped ]

  -- a loop that stands behind the byte n stays there
  stays_beyond : (n k : ℕ) (r : Reach) (cs : List ℕ) → n < r.byte.0 → Beyond n (follow_in turn k r cs)
  unfolding follow_in
  stays_beyond n k r [] h = h
  stays_beyond n (suc k) r (c ∷ cs) h = stays_beyond n (suc k - len_utf8 c) r cs h
  stays_beyond n zero r (c ∷ cs) h =
      elim (turn c cs) as (λ (t : Turn). Beyond n (leads c r cs t)) [ Pass b w ↦ stays_beyond n (b - len_utf8 c) (along_by b w r) cs (omega arith) | Line b ↦ stays_beyond n (b - len_utf8 c) (line_by b r) cs (omega arith) | Close b w ↦ omega arith | Stuck ↦ tt ]

  module _ (local : Local turn) (n : ℕ) (q r : List ℕ) where
    abbrev Either : Followed → Followed → Type 0
    Either a b = (a ≡ b) ⊎ Beyond n a

    -- n is the newline's byte
    pub follow_line : (k : ℕ) (at : Reach) (p : List ℕ) → Whole k p → n + k ≡ at.byte.0 + bytes_of p
        → Either (follow_in turn k at (line p q)) (follow_in turn k at (line p r))
    unfolding follow_in bytes_of
    follow_line zero at [] w e =
        inr (subst (λ (t : Turn). Beyond n (leads lf at q t)) (sym (local.ends q)) (stays_beyond n (1 - len_utf8 lf) (line_by 1 at) q (omega arith)))
    follow_line (suc k) at [] w e = absurd (omega arith)
    follow_line (suc k) at (c ∷ p) (inl w) e = absurd (omega arith)
    follow_line (suc k) at (c ∷ p) (inr w) e = follow_line (suc k - len_utf8 c) at p w.1 (omega arith)
    follow_line zero at (c ∷ p) w e =
        subst (λ (t : Turn). Either (leads c at (line p q) (turn c (line p q))) (leads c at (line p r) t)) (local.same c p q r)
        ((elim (turn c (line p q)) as (λ (t : Turn). Short c p t → Either (leads c at (line p q) t) (leads c at (line p r) t)) [ Pass b w ↦ λ h. follow_line (b - len_utf8 c) (along_by b w at) p h.1 (omega (arith, h.0)) | Line b ↦ ⊎_elim (λ h. follow_line (b - len_utf8 c) (line_by b at) p h.1 (omega (arith, h.0))) (λ h. inr (stays_beyond n (b - len_utf8 c) (line_by b at) (line p q) (omega arith))) | Close b w ↦ λ h. inl refl | Stuck ↦ λ h. inl refl ])
        (local.short c p q))
