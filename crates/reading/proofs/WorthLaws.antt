-- What a place and a stack of modes are worth, before and after a token.
--     change_nested       a change that a token may ask for keeps a template below every format mode
--     closes_is           where a template closes
--     owes_none           nothing is owed elsewhere
--     change_pays         a record is paid for, whatever becomes of the modes
-- Assumes nothing.
use Rattle.std.specs.Prelude.{ℕ, ◌+◌, ◌*◌, ◌-◌, ◌≤◌, ◌<◌, ◌≡◌, refl, true, List, [], ◌∷◌, eqb, length}
use Rattle.std.proofs.Common.{arith, ap, inl, inr}
use Rattle.std.proofs.Math.Bool.{and-eq-true_iff}
use borrow.Author.Tests.{eqb-true, eq-eqb}
use Rattle.base.specs.PickLaws.{by_test}
use Rattle.text.specs.Bytes.{byte_at}
use Rattle.text.specs.Tests.{curly_close}
use Rattle.text.specs.FollowLaws.{byte_within}
use Rattle.state.specs.Modes.{template_expr, template_expr_format, raw_start, raw_end, mode_code, tag_of}
use Rattle.state.specs.Stack.{top, rest, changed}
use Rattle.state.specs.declared.Change.{Change}
use Rattle.state.specs.declared.Change.TheVariants.{Keep, Push, Pop, Replace}
use Rattle.reading.specs.Potential.{stored, owns, own_all, closes, owes, worth, Pays, NestedIn}
use Rattle.reading.specs.PaidLaws.{Asks}

-- ---- stacks of modes

own_cons : (m : ℕ) (ms : List ℕ) → own_all (m ∷ ms) ≡ owns m + own_all ms
unfolding own_all
own_cons m ms = refl

own_top : (ms : List ℕ) → own_all ms ≡ owns (top ms) + own_all (rest ms)
unfolding own_all owns top rest
own_top [] = refl
own_top (m ∷ ms) = refl

own_tag : (code tag : ℕ) → tag_of code ≡ tag → owns code ≡ stored tag
unfolding owns
own_tag code tag e = ap stored e

nested_rest : (ms : List ℕ) → NestedIn ms → NestedIn (rest ms)
unfolding NestedIn rest
nested_rest [] n = tt
nested_rest (m ∷ ms) n = n.1

nested_top : (ms : List ℕ) → NestedIn ms → tag_of (top ms) ≡ template_expr_format → top (rest ms) ≡ mode_code template_expr 0
unfolding NestedIn top rest
nested_top [] n e = absurd (omega arith)
nested_top (m ∷ ms) n e = n.0 e

nested_cons : (m : ℕ) (ms : List ℕ) → (tag_of m ≡ template_expr_format → top ms ≡ mode_code template_expr 0) → NestedIn ms → NestedIn (m ∷ ms)
unfolding NestedIn
nested_cons m ms f n = (f, n)

-- a change that a token may ask for keeps a template below every format mode
pub change_nested : (s : List ℕ) (i j : ℕ) (ms : List ℕ) (c : Change) → Asks s (top ms) i j c → NestedIn ms → NestedIn (changed c ms)
change_nested s i j ms Keep a n = n
change_nested s i j ms (Push code) a n = nested_cons code ms a.1 n
change_nested s i j ms Pop a n = nested_rest ms n
change_nested s i j ms (Replace code) a n = nested_cons code (rest ms) (λ e. absurd (omega (arith, a.1))) (nested_rest ms n)

-- ---- what a template owes

module _ (s : List ℕ) (i mode : ℕ) where
  pub closes_is : closes s i mode ≡ true → (mode ≡ mode_code template_expr 0) × (byte_at s i ≡ curly_close)
  unfolding closes
  closes_is e =
      let both = (and-eq-true_iff (eqb mode (mode_code template_expr 0)) (eqb (byte_at s i) curly_close)).0 e in
      (eqb-true _ _ both.0, eqb-true _ _ both.1)

  closes_both : mode ≡ mode_code template_expr 0 → byte_at s i ≡ curly_close → owes s i mode ≡ 2
  unfolding closes
  closes_both m e = rw (eq-eqb mode (mode_code template_expr 0) m, eq-eqb (byte_at s i) curly_close e) refl

  pub owes_none : (closes s i mode ≡ true → ⊥) → owes s i mode ≡ 0
  owes_none n = by_test (λ (k : ℕ). k ≡ 0) (closes s i mode) (λ e. absurd (n e)) (λ _. refl)

  other_mode : (mode ≡ mode_code template_expr 0 → ⊥) → owes s i mode ≡ 0
  other_mode n = owes_none (λ e. n (closes_is e).0)

  -- a template has 1 in store
  owes_most : owes s i mode ≤ owns mode + 1
  owes_most =
      by_test (λ (k : ℕ). k ≤ owns mode + 1) (closes s i mode)
      (λ e. let m = (closes_is e).0 in omega (arith, own_tag mode template_expr (omega arith))) (λ _. omega arith)

-- ---- from the byte i to the byte j, with a stack of modes

module _ (s : List ℕ) (i j : ℕ) (ms : List ℕ) (on : i ≤ j) (within : j ≤ length s) where
  keep_pays : (closes s i (top ms) ≡ true → ⊥) → i < j → Pays s i j ms Keep
  keep_pays n h = omega (arith, owes_none s i (top ms) n)

  push_pays : (code : ℕ) → (closes s i (top ms) ≡ true → ⊥) → owns code + 3 + 4 * i ≤ 4 * j → Pays s i j ms (Push code)
  push_pays code n h = omega (arith, owes_none s i (top ms) n, own_cons code ms)

  pop_pays : i < j → Pays s i j ms Pop
  pop_pays h = omega (arith, owes_most s i (top ms), own_top ms)

  -- the template that is on top then owes for its closing brace
  format_pays : NestedIn ms → tag_of (top ms) ≡ template_expr_format → byte_at s j ≡ curly_close → Pays s i j ms Pop
  format_pays n e b =
      omega (
        arith,
        other_mode s i (top ms) (λ m. omega arith),
        closes_both s j (top (rest ms)) (nested_top ms n e) b,
        own_top ms,
        own_tag (top ms) template_expr_format e,
        byte_within s j curly_close b (omega arith),
      )

  turn_pays : (code : ℕ) → tag_of (top ms) ≡ raw_start → tag_of code ≡ raw_end → Pays s i j ms (Replace code)
  turn_pays code e f =
      omega (
        arith,
        other_mode s i (top ms) (λ m. omega arith),
        own_top ms,
        own_tag (top ms) raw_start e,
        own_cons code (rest ms),
        own_tag code raw_end f,
      )

  -- where a template closes it is popped, and a token that changes no mode goes on by a byte
  pub change_pays : (c : Change) → Asks s (top ms) i j c → NestedIn ms → (closes s i (top ms) ≡ true → c ≡ Pop) → (c ≡ Keep → i < j)
      → Pays s i j ms c
  change_pays Keep a n z k = keep_pays (λ e. let q = z e in let x : ◌≡◌ {A = ℕ} 0 1 = cc in omega arith) (k refl)
  change_pays (Push code) a n z k = push_pays code (λ e. let q = z e in let x : ◌≡◌ {A = ℕ} 0 1 = cc in omega arith) a.0
  change_pays Pop (inl h) n z k = pop_pays h
  change_pays Pop (inr f) n z k = format_pays n f.0 f.1
  change_pays (Replace code) a n z k = turn_pays code a.0 a.1
