-- The array with its depth, and the copies of depth and top, are lexer.rs's stack.
--     state_is          where the copies agree, the lexer and the codes are the whole state
--     start_agrees      at the start
--     change_is         what `changed_by` does to the two halves is what `changed` does to the stack
--     change_agrees     and the copies agree again
--     top_none, top_codes     the code on top: none at depth 0, or else the last below the depth
--     deep              a mode on top means a depth above 0
-- Assumes nothing.
use Rattle.std.specs.Prelude.{ℕ, zero, suc, ◌+◌, ◌-◌, ◌≤◌, ◌<◌, ◌≡◌, refl, List, [], ◌∷◌, length, get_or, set}
use Rattle.std.proofs.Common.{arith, add-one, sym, ap, ◌∙◌, length-set, get_or-set_same, get_or-set_other}
use Rattle.base.specs.PickLaws.{by_lt, by_eq, split_lt}
use Rattle.state.specs.State.{start_state, state_of, pushed, popped, replaced, changed_by, Fits}
use Rattle.state.specs.Stack.{top, rest, changed, codes_of, stack_of, Agrees}
use Rattle.state.specs.declared.Change.{Change}
use Rattle.state.specs.declared.Change.TheVariants.{Keep, Push, Pop, Replace}
use Rattle.state.specs.declared.State.{State}

-- a code stored at the depth or above changes no code below
codes_below : (codes : List ℕ) (d k m : ℕ) → k ≤ d → codes_of (set codes d m) k ≡ codes_of codes k
unfolding codes_of
codes_below codes d zero m h = refl
codes_below codes d (suc k) m h =
    ap (λ (x : ℕ). x ∷ codes_of (set codes d m) k) (get_or-set_other codes d k m 0 (λ e. omega arith))
    ∙ ap (λ (l : List ℕ). get_or codes k 0 ∷ l) (codes_below codes d k m (omega arith))

-- a code stored at the depth is on top of those below it
codes_set : (codes : List ℕ) (d m : ℕ) → d < length codes → codes_of (set codes d m) (suc d) ≡ m ∷ codes_of codes d
unfolding codes_of
codes_set codes d m h =
    ap (λ (x : ℕ). x ∷ codes_of (set codes d m) d) (get_or-set_same codes d m 0 h)
    ∙ ap (λ (l : List ℕ). m ∷ l) (codes_below codes d d m (omega arith))

-- the codes below the top
rest_codes : (codes : List ℕ) (d : ℕ) → rest (codes_of codes d) ≡ codes_of codes (d - 1)
unfolding rest codes_of
rest_codes codes zero = refl
rest_codes codes (suc d) = let e : d ≡ suc d - 1 = omega arith in ap (codes_of codes) e

-- the top is the last code below the depth
pub top_codes : (codes : List ℕ) (d : ℕ) → 0 < d → top (codes_of codes d) ≡ get_or codes (d - 1) 0
unfolding top codes_of
top_codes codes zero h = absurd (omega arith)
top_codes codes (suc d) h = let e : d ≡ suc d - 1 = omega arith in ap (λ (k : ℕ). get_or codes k 0) e

-- at depth 0 there is no top
pub top_none : (codes : List ℕ) (d : ℕ) → d ≡ 0 → top (codes_of codes d) ≡ 0
unfolding top codes_of
top_none codes zero e = refl
top_none codes (suc d) e = absurd (omega arith)

no_codes : (codes : List ℕ) → codes_of codes 0 ≡ []
unfolding codes_of
no_codes codes = refl

top_cons : (m : ℕ) (ms : List ℕ) → top (m ∷ ms) ≡ m
unfolding top
top_cons m ms = refl

pub deep : (s : State) → Agrees s → (s.lexer.mode ≡ 0 → ⊥) → 0 < s.modes.depth
deep s a n =
    split_lt 0 s.modes.depth (λ h. h) (λ h. absurd (n (a.mode ∙ top_none s.modes.codes s.modes.depth (omega arith))))

-- what a change comes to, from the codes and the depth that are stored
record Comes (c : Change) (s t : State) : Type 0 where
  stack : stack_of t.modes ≡ changed c (stack_of s.modes)
  agrees : Agrees t

module _ (s : State) (a : Agrees s) where
  push_comes : (m : ℕ) → s.modes.depth < 64 → Comes (Push m) s (pushed m s)
  push_comes m h =
      let e : codes_of (set s.modes.codes s.modes.depth m) (s.modes.depth + 1) ≡ m ∷ stack_of s.modes =
      rw add-one (codes_set s.modes.codes s.modes.depth m (omega (arith, a.size)))
      in
      record {
        stack = e;
        agrees = record {
          size = rw length-set a.size;
          most = omega arith;
          depth = refl;
          mode = sym (ap top e ∙ top_cons m (stack_of s.modes));
        };
      }

  pop_comes : Comes Pop s (popped s)
  pop_comes =
      by_lt (Comes Pop s) s.modes.depth 2
      (λ h.
      let e : s.modes.depth - 1 ≡ 0 = omega arith in
      record {
        stack = no_codes s.modes.codes
            ∙ sym
            (rest_codes s.modes.codes s.modes.depth
            ∙ ap (codes_of s.modes.codes) e
            ∙ no_codes s.modes.codes);
        agrees = record { size = a.size; most = omega arith; depth = refl; mode = sym (top_none s.modes.codes 0 refl) };
      })
      (λ h.
      let e : s.modes.depth - 2 ≡ s.modes.depth - 1 - 1 = omega arith in
      record {
        stack = sym (rest_codes s.modes.codes s.modes.depth);
        agrees = record {
          size = a.size;
          most = omega (arith, a.most);
          depth = refl;
          mode = ap (λ (k : ℕ). get_or s.modes.codes k 0) e
              ∙ sym (top_codes s.modes.codes (s.modes.depth - 1) (omega arith));
        };
      })

  replace_comes : (m : ℕ) → Comes (Replace m) s (replaced m s)
  replace_comes m =
      by_eq (Comes (Replace m) s) s.modes.depth 0
      (λ h.
      let p = push_comes m (omega arith) in
      let e : s.modes.depth ≡ s.modes.depth - 1 = omega arith in
      record {
        stack = p.stack
            ∙ ap (λ (l : List ℕ). m ∷ l)
            (ap (codes_of s.modes.codes) e ∙ sym (rest_codes s.modes.codes s.modes.depth));
        agrees = p.agrees;
      })
      (λ h.
      let d : s.modes.depth ≡ suc (s.modes.depth - 1) = omega arith in
      let e : codes_of (set s.modes.codes (s.modes.depth - 1) m) s.modes.depth ≡ m ∷ codes_of s.modes.codes (s.modes.depth - 1) =
      ap (codes_of (set s.modes.codes (s.modes.depth - 1) m)) d
      ∙ codes_set s.modes.codes (s.modes.depth - 1) m (omega (arith, a.size, a.most))
      in
      record {
        stack = e ∙ ap (λ (l : List ℕ). m ∷ l) (sym (rest_codes s.modes.codes s.modes.depth));
        agrees = record {
          size = rw length-set a.size;
          most = a.most;
          depth = refl;
          mode = sym (ap top e ∙ top_cons m (codes_of s.modes.codes (s.modes.depth - 1)));
        };
      })

comes : (c : Change) (s : State) → Agrees s → Fits c s → Comes c s (changed_by c s)
comes Keep s a f = record { stack = refl; agrees = a }
comes (Push m) s a f = push_comes s a m f
comes Pop s a f = pop_comes s a
comes (Replace m) s a f = replace_comes s a m

pub change_is : (c : Change) (s : State) → Agrees s → Fits c s → stack_of (changed_by c s).modes ≡ changed c (stack_of s.modes)
change_is c s a f = (comes c s a f).stack

pub change_agrees : (c : Change) (s : State) → Agrees s → Fits c s → Agrees (changed_by c s)
change_agrees c s a f = (comes c s a f).agrees

pub state_is : (s : State) → Agrees s → state_of s.lexer s.modes.codes ≡ s
state_is s a = ap (λ (d : ℕ). record { lexer = s.lexer; modes = record { codes = s.modes.codes; depth = d } }) a.depth

pub start_agrees : Agrees start_state
start_agrees = record { size = refl; most = omega arith; depth = refl; mode = sym (top_none _ 0 refl) }
