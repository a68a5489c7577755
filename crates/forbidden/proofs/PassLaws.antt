-- The pass over the records finds the first forbidden token.
--     Shape, shape_on    up to that token, the modes and what was opened last at depth 2
--     same_test          so the records' test is the modes' test
--     pass_is            of a reading's records
-- Assumes nothing.
use Prim.Native.Nat.{ℕ, zero, suc, ◌+◌, ◌≤◌, ◌<◌}
use native.Mathlib.Omega.{arith}
use Rattle.std.specs.Prelude.{◌≡◌, Bool, ◌⊎◌, List, [], ◌∷◌, eqb, Option, Some, None}
use Rattle.std.proofs.Math.Path.{refl, ap}
use Rattle.std.proofs.Common.{sym, subst, ◌∙◌, inl, inr, eq-eqb, ne_eqb, le-leb}
use Rattle.std.proofs.Math.Bool.{true, false, not}
use Rattle.std.proofs.Math.ListN.{length, get_or}
use Rattle.base.specs.Pick.{pick}
use Rattle.fitness.specs.First.{first_bad}
use Rattle.token.specs.Kind.{string_start, colon, curly_open}
use Rattle.token.specs.declared.Token.{Token}
use Rattle.rows.specs.declared.Row.{Row}
use Rattle.state.specs.Modes.{literal, tag_of}
use Rattle.state.specs.Lexer.{settled}
use Rattle.state.specs.Stack.{top, rest, changed}
use Rattle.state.specs.declared.Change.{Change}
use Rattle.state.specs.declared.Change.TheVariants.{Keep, Push, Pop, Replace}
use Rattle.lexer.specs.GetNextToken.{take_token, remaining_at}
use Rattle.moves.specs.Moves as opens
use Rattle.moves.specs.Moves.{template, inline_map, format, Opens, Moves}
use Rattle.moves.specs.MovesLaws.{take_moves}
use Rattle.reading.specs.Reading.{Reading}
use Rattle.queue.specs.StreamLaws.{get_in}
use Rattle.rust.specs.TokenLexer.{TokenLexer, view_of, given_at, get_next_token, lexed_of, state_at, handed}
use Rattle.rust.specs.Hands.{Hands}
use Rattle.rust.proofs.DepthLaws.{state_next, hands_depth}
use Rattle.forbidden.specs.Forbidden.{is_raw, has_template, opens_inner, is_forbidden, forbidden_token}
use Rattle.forbidden.specs.Pass.{opener_after, is_inner, is_forbidden_by, forbidden_at, opener_at, pass_from}

-- ---- the modes up to the first forbidden token

-- what stands at depth 3, in a template, by the kind of the record that opened it: a map, format options, or a string
abbrev Third : ℕ → ℕ → Type 0
Third opener mode = ((mode ≡ inline_map) × (opener ≡ curly_open)) ⊎ (((mode ≡ format) × (opener ≡ colon)) ⊎ ((tag_of mode ≡ literal) × (opener ≡ string_start)))

-- a string, its template, and what stands in it; at depth 4 a string in a map
abbrev pub Shape : ℕ → List ℕ → Type 0
Shape opener [] = Unit {0}
Shape opener (a ∷ []) = tag_of a ≡ literal
Shape opener (b ∷ a ∷ []) = (b ≡ template) × (tag_of a ≡ literal)
Shape opener (c ∷ b ∷ a ∷ []) = Third opener c × (b ≡ template) × (tag_of a ≡ literal)
Shape opener (d ∷ c ∷ b ∷ a ∷ []) = (tag_of d ≡ literal) × ((c ≡ inline_map) × (opener ≡ curly_open)) × (b ≡ template) × (tag_of a ≡ literal)
Shape opener (e ∷ d ∷ c ∷ b ∷ a ∷ ms) = ⊥

-- the tests of a "{" are the same
inner_same : (opener : ℕ) (modes : List ℕ) → Shape opener modes → is_inner opener (length modes) ≡ opens_inner modes
unfolding has_template top
inner_same opener [] s = refl
inner_same opener (a ∷ []) s = rw s
inner_same opener (b ∷ a ∷ []) s = rw s.0
inner_same opener (c ∷ b ∷ a ∷ []) (inl (m, o), t, l) = rw (m, o)
inner_same opener (c ∷ b ∷ a ∷ []) (inr (inl (m, o)), t, l) = rw (m, o)
inner_same opener (c ∷ b ∷ a ∷ []) (inr (inr (m, o)), t, l) = rw (m, o, t)
inner_same opener (d ∷ c ∷ b ∷ a ∷ []) (m, (i, o), t, l) = rw (m, i, t)
inner_same opener (e ∷ d ∷ c ∷ b ∷ a ∷ ms) s = absurd s

pub same_test : (opener : ℕ) (modes : List ℕ) (r : Row) → Shape opener modes → r.depth ≡ length modes
    → is_forbidden_by opener r ≡ is_forbidden modes r
same_test opener modes r s d =
    ap (λ (b : Bool). pick (eqb r.kind string_start) (is_raw r.detail) (pick (eqb r.kind curly_open) b false))
    (ap (is_inner opener) d ∙ inner_same opener modes s)

-- ---- one token more

-- the start of a raw string
abbrev Raw : Token → Type 0
Raw t = (t.kind ≡ string_start) × (2 ≤ t.detail)

-- what may be pushed by another token, by the mode on top
module _ {mode code : ℕ} (t : Token) (other : Raw t → ⊥) where
  on_string : tag_of mode ≡ literal → Opens mode t code → (t.kind ≡ curly_open) × (code ≡ template)
  on_string e (opens.string s o k c) = absurd (s e)
  on_string e (opens.raw k d) = absurd (other (k, d))
  on_string e (opens.expression m k c) = (k, c)
  on_string e (opens.map m k c) = absurd (omega arith)
  on_string e (opens.options m k c) = absurd (omega arith)

  on_template : mode ≡ template → Opens mode t code → Third t.kind code
  on_template e (opens.string s o k c) = inr (inr (c, k))
  on_template e (opens.raw k d) = absurd (other (k, d))
  on_template e (opens.expression m k c) = absurd (omega arith)
  on_template e (opens.map m k c) = inl (c, k)
  on_template e (opens.options m k c) = inr (inl (c, k))

  -- with no mode, and in a map
  on_code : (tag_of mode ≡ literal → ⊥) → (mode ≡ template → ⊥) → Opens mode t code → tag_of code ≡ literal
  on_code n m (opens.string s o k c) = c
  on_code n m (opens.raw k d) = absurd (other (k, d))
  on_code n m (opens.expression e k c) = absurd (n e)
  on_code n m (opens.map e k c) = absurd (m e)
  on_code n m (opens.options e k c) = absurd (m e)

  on_options : mode ≡ format → Opens mode t code → ⊥
  on_options e (opens.string s o k c) = o (omega arith)
  on_options e (opens.raw k d) = other (k, d)
  on_options e (opens.expression m k c) = omega arith
  on_options e (opens.map m k c) = omega arith
  on_options e (opens.options m k c) = omega arith

-- the modes after a token that is not forbidden
after_on_lem : (opener : ℕ) (modes : List ℕ) (t : Token) (c : Change) → (Raw t → ⊥) → (t.kind ≡ curly_open → opens_inner modes ≡ true → ⊥)
    → Shape opener modes → Moves (top modes) t c → Shape (pick (eqb (length modes) 2) t.kind opener) (changed c modes)
unfolding has_template top rest
after_on_lem o [] t Keep r i s m = tt
after_on_lem o [] t (Push code) r i s m = on_code t r (λ e. omega arith) (λ e. omega arith) m
after_on_lem o [] t Pop r i s m = tt
after_on_lem o [] t (Replace code) r i s m = absurd (omega (arith, m.0))
after_on_lem o (a ∷ []) t Keep r i s m = s
after_on_lem o (a ∷ []) t (Push code) r i s m = ((on_string t r s m).1, s)
after_on_lem o (a ∷ []) t Pop r i s m = tt
after_on_lem o (a ∷ []) t (Replace code) r i s m = absurd (omega (arith, m.0))
after_on_lem o (b ∷ a ∷ []) t Keep r i s m = s
after_on_lem o (b ∷ a ∷ []) t (Push code) r i (e, l) m = (on_template t r e m, e, l)
after_on_lem o (b ∷ a ∷ []) t Pop r i s m = s.1
after_on_lem o (b ∷ a ∷ []) t (Replace code) r i s m = absurd (omega (arith, m.0, s.0))
after_on_lem o (c ∷ b ∷ a ∷ []) t Keep r i s m = s
after_on_lem o (c ∷ b ∷ a ∷ []) t (Push code) r i (inl (e, k), f, l) m = (on_code t r (λ g. omega arith) (λ g. omega arith) m, (e, k), f, l)
after_on_lem o (c ∷ b ∷ a ∷ []) t (Push code) r i (inr (inl (e, k)), f, l) m = absurd (on_options t r e m)
after_on_lem o (c ∷ b ∷ a ∷ []) t (Push code) r i (inr (inr (e, k)), f, l) m = absurd (i (on_string t r e m).0 (rw (e, f)))
after_on_lem o (c ∷ b ∷ a ∷ []) t Pop r i (e, f, l) m = (f, l)
after_on_lem o (c ∷ b ∷ a ∷ []) t (Replace code) r i (inl (e, k), f, l) m = absurd (omega (arith, m.0))
after_on_lem o (c ∷ b ∷ a ∷ []) t (Replace code) r i (inr (inl (e, k)), f, l) m = absurd (omega (arith, m.0))
after_on_lem o (c ∷ b ∷ a ∷ []) t (Replace code) r i (inr (inr (e, k)), f, l) m = absurd (omega (arith, m.0))
after_on_lem o (d ∷ c ∷ b ∷ a ∷ []) t Keep r i s m = s
after_on_lem o (d ∷ c ∷ b ∷ a ∷ []) t (Push code) r i (e, (k, g), f, l) m = absurd (i (on_string t r e m).0 (rw (e, k, f)))
after_on_lem o (d ∷ c ∷ b ∷ a ∷ []) t Pop r i (e, k, f, l) m = (inl k, f, l)
after_on_lem o (d ∷ c ∷ b ∷ a ∷ []) t (Replace code) r i s m = absurd (omega (arith, m.0, s.0))
after_on_lem o (e ∷ d ∷ c ∷ b ∷ a ∷ ms) t ch r i s m = absurd s

-- a record that is not forbidden is none of a raw string's start, nor of a second template's
not_raw : (modes : List ℕ) (r : Row) → is_forbidden modes r ≡ false → r.kind ≡ string_start → 2 ≤ r.detail → ⊥
not_raw modes r n k d =
    let a : is_forbidden modes r ≡ true = rw (eq-eqb r.kind string_start k, le-leb 2 r.detail d) in
    let z : ◌≡◌ {A = ℕ} 0 1 = cc in
    omega arith

not_inner : (modes : List ℕ) (r : Row) → is_forbidden modes r ≡ false → r.kind ≡ curly_open → opens_inner modes ≡ true → ⊥
not_inner modes r n k o =
    let a : is_forbidden modes r ≡ true =
    rw (ne_eqb r.kind string_start (λ e. omega arith), eq-eqb r.kind curly_open k, o) in
    let z : ◌≡◌ {A = ℕ} 0 1 = cc in
    omega arith

-- ---- call after call

module _ (look : ℕ → ℕ) (edition : ℕ) (s : List ℕ) where
  abbrev stack_of : TokenLexer → List ℕ
  stack_of x = x.string_mode_stack

  abbrev next : TokenLexer → TokenLexer
  next x = (get_next_token look edition s x).after

  -- a call that hands out a record which is not forbidden
  shape_on : (opener : ℕ) (x : TokenLexer) (cs : List ℕ) (r : Row) → lexed_of x (given_at look edition cs x).token (given_at look edition cs x).after ≡ Some r
      → Shape opener (stack_of x) → is_forbidden (stack_of x) r ≡ false → Shape (opener_after opener r) (stack_of (given_at look edition cs x).after)
  shape_on opener x [] r e h n = absurd (let z : ◌≡◌ {A = ℕ} 0 1 = cc in omega arith)
  shape_on opener x (c ∷ cs) r e h n =
      let t = take_token look edition (c ∷ cs) (settled (view_of x)) in
      let q = lexed_row e in
      subst (λ (y : Row). Shape (opener_after opener y) (changed t.change (stack_of x))) q
      (after_on_lem opener (stack_of x) t.token t.change
      (λ w. not_raw (stack_of x) r n (sym (ap (λ (y : Row). y.kind) q) ∙ w.0) (subst (λ (y : Row). 2 ≤ y.detail) q w.1))
      (λ k. not_inner (stack_of x) r n (sym (ap (λ (y : Row). y.kind) q) ∙ k))
      h (take_moves (settled (view_of x)) look edition (c ∷ cs)))
    where
      lexed_row : {a b : Row} → Some a ≡ Some b → a ≡ b
      lexed_row {a} f = ap (λ (o : Option Row). elim o [ None ↦ a | Some y ↦ y ]) f

  module _ (q : Reading) (x : TokenLexer) (h : Hands look edition s q x) (at : ℕ → Option Row) (d : Row)
      (shown : (i : ℕ) → i < length q.rows → at i ≡ Some (get_or q.rows i d)) where
    abbrev allowed : ℕ → Bool
    allowed i = not (forbidden_token (stack_of (state_at look edition s i x)) (handed look edition s i x))

    -- the record of call i
    there : (i : ℕ) → i < length q.rows → handed look edition s i x ≡ Some (get_or q.rows i d)
    there i l = h.each i l ∙ get_in q.rows i d l

    from : (n i opener : ℕ) → i + n ≡ length q.rows → Shape opener (stack_of (state_at look edition s i x)) → pass_from at opener i n ≡ first_bad allowed i n
    unfolding pass_from first_bad handed
    from zero i opener e w = refl
    from (suc n) i opener e w =
        let l : i < length q.rows = omega arith in
        let row = get_or q.rows i d in
        let modes = stack_of (state_at look edition s i x) in
        let depth : row.depth ≡ length modes = hands_depth look edition s q x h i row (get_in q.rows i d l) in
        let test : forbidden_at opener (at i) ≡ is_forbidden modes row =
        ap (forbidden_at opener) (shown i l) ∙ same_test opener modes row w depth in
        let ok : allowed i ≡ not (is_forbidden modes row) = ap (λ (o : Option Row). not (forbidden_token modes o)) (there i l) in
        let more : is_forbidden modes row ≡ false → pass_from at (opener_at opener (at i)) (suc i) n ≡ first_bad allowed (suc i) n =
        λ f. from n (suc i) (opener_at opener (at i)) (omega arith)
        (subst (λ (a : Option Row). Shape (opener_at opener a) (stack_of (state_at look edition s (suc i) x))) (sym (shown i l))
        (subst (λ (y : TokenLexer). Shape (opener_after opener row) (stack_of y)) (sym (state_next look edition s i x))
        (shape_on opener (state_at look edition s i x) (remaining_at s (state_at look edition s i x).current_byte.0) row (there i l) w f))) in
        chosen (is_forbidden modes row) refl test ok more
      where
        chosen : (b : Bool) → is_forbidden (stack_of (state_at look edition s i x)) (get_or q.rows i d) ≡ b
            → forbidden_at opener (at i) ≡ is_forbidden (stack_of (state_at look edition s i x)) (get_or q.rows i d)
            → allowed i ≡ not (is_forbidden (stack_of (state_at look edition s i x)) (get_or q.rows i d))
            → (is_forbidden (stack_of (state_at look edition s i x)) (get_or q.rows i d) ≡ false → pass_from at (opener_at opener (at i)) (suc i) n ≡ first_bad allowed (suc i) n)
            → pick (forbidden_at opener (at i)) i (pass_from at (opener_at opener (at i)) (suc i) n) ≡ pick (allowed i) (first_bad allowed (suc i) n) i
        chosen true f test ok more = rw (test ∙ f, ok ∙ ap not f)
        chosen false f test ok more = rw (test ∙ f, ok ∙ ap not f) (more f)

    pub pass_is : Shape 0 (stack_of x) → pass_from at 0 0 (length q.rows) ≡ first_bad allowed 0 (length q.rows)
    unfolding state_at
    pass_is w = from (length q.rows) 0 0 (omega arith) w
