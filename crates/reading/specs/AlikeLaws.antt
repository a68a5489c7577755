-- A reading depends on the modes through their stack alone: a pop leaves stale codes above the depth, which nothing reads.
--     reads_by_stack    states with the same lexer and the same stack have the same reading
-- Assumes nothing.
use Prim.Native.Nat.{ℕ, zero, suc, ◌+◌, ◌*◌, ◌-◌}
use Rattle.std.specs.Prelude.{◌≡◌, eqb, length}
use Rattle.std.proofs.Math.Path.{refl, sym, ap}
use Rattle.std.proofs.Common.{◌∙◌}
use mathlib.Core.List.{List}
use Rattle.base.specs.Pick.{pick}
use Rattle.state.specs.Modes.{raw_start, tag_of}
use Rattle.state.specs.Lexer.{reach_of}
use Rattle.state.specs.Stack.{top, changed, stack_of, Agrees}
use Rattle.state.specs.State.{with_mode}
use Rattle.state.specs.declared.Lexer.{Lexer}
use Rattle.state.specs.declared.State.{State}
use Rattle.lexer.specs.Step.{half, step}
use Rattle.lexer.specs.StepLaws.{step_agrees, step_stack}
use Rattle.lexer.specs.declared.Half.{Half}
use Rattle.lexer.specs.declared.What.{What}
use Rattle.lexer.specs.declared.What.TheVariants as what
use Rattle.stepping.specs.Invariant.{measure}
use Rattle.stepping.specs.Mirrors.{Same}
use Rattle.stepping.specs.MirrorsLaws.{length_codes, change_same}
use Rattle.reading.specs.Reading.{Reading, row_of, onto, stuck_reading, after_step, read_in, read_from}

-- the same lexer, and the same stack
record Alike (st other : State) : Type 0 where
  agrees : Agrees st
  also : Agrees other
  lexers : st.lexer ≡ other.lexer
  stacks : stack_of st.modes ≡ stack_of other.modes

-- the copies of depth and top are the stack's
by_stack : (st : State) → Agrees st → st.lexer ≡ with_mode (length (stack_of st.modes)) (top (stack_of st.modes)) st.lexer
by_stack st a =
    ap (λ (d : ℕ). with_mode d st.lexer.mode st.lexer) (a.depth ∙ sym (length_codes st.modes.codes st.modes.depth))
    ∙ ap (λ (m : ℕ). with_mode (length (stack_of st.modes)) m st.lexer) a.mode

same_under : {l m : Lexer} (depth mode : ℕ) → Same l m → with_mode depth mode l ≡ with_mode depth mode m
same_under depth mode s =
    λ i. record { place = s.place i; indent = s.indent i; previous_token = s.previous i; depth = depth; mode = mode }

module _ (look : ℕ → ℕ) (edition : ℕ) (s : List ℕ) where
  -- a step from states that are alike leads to states that are alike
  step_alike : (st other : State) → Alike st other → Alike (step look edition s st).state (step look edition s other).state
  unfolding step
  step_alike st other k =
      let h = half look edition s st.lexer in
      let g = half look edition s other.lexer in
      let after = (step look edition s st).state in
      let next = (step look edition s other).state in
      let e : h ≡ g = ap (half look edition s) k.lexers in
      let stacks : stack_of after.modes ≡ stack_of next.modes =
      step_stack look edition s st k.agrees
      ∙ (λ i. changed (e i).change (k.stacks i))
      ∙ sym (step_stack look edition s other k.also) in
      let m = change_same h.change (record { lexer = h.lexer; modes = st.modes }) in
      let n = change_same g.change (record { lexer = g.lexer; modes = other.modes }) in
      let same : Same after.lexer next.lexer =
      record {
        place = m.place ∙ ap (λ (x : Half). x.lexer.place) e ∙ sym n.place;
        indent = m.indent ∙ ap (λ (x : Half). x.lexer.indent) e ∙ sym n.indent;
        previous = m.previous ∙ ap (λ (x : Half). x.lexer.previous_token) e ∙ sym n.previous;
      } in
      let a = step_agrees look edition s st k.agrees in
      let b = step_agrees look edition s other k.also in
      record {
        agrees = a;
        also = b;
        lexers = by_stack after a
            ∙ same_under (length (stack_of after.modes)) (top (stack_of after.modes)) same
            ∙ ap (λ (ms : List ℕ). with_mode (length ms) (top ms) next.lexer) stacks
            ∙ sym (by_stack next b);
        stacks = stacks;
      }

  found_alike : (st other : State) → Alike st other → (step look edition s st).what ≡ (step look edition s other).what
  unfolding step
  found_alike st other k = ap (λ (l : Lexer). (half look edition s l).what) k.lexers

  -- what is read behind a step from either; l and m are the lexers before it
  after_alike : (go : State → Reading) {l m : Lexer} (st other : State) (w : What) → l ≡ m → st.lexer ≡ other.lexer → go st ≡ go other
      → after_step go l st w ≡ after_step go m other w
  after_alike go st other (what.Token u) b e f = λ i. onto (row_of u (b i) (e i)) (f i)
  after_alike go st other what.Stuck b e f = λ i. stuck_reading (b i) (e i)
  after_alike go st other what.ModesFull b e f = refl
  after_alike go st other what.End b e f = refl

  in_steps : (n : ℕ) (st other : State) → Alike st other → read_in n look edition s st ≡ read_in n look edition s other
  unfolding read_in
  in_steps zero st other k = refl
  in_steps (suc n) st other k =
      let after = (step look edition s st).state in
      let next = (step look edition s other).state in
      let a = step_alike st other k in
      ap (after_step (read_in n look edition s) st.lexer after) (found_alike st other k)
      ∙ after_alike (read_in n look edition s) after next (step look edition s other).what k.lexers a.lexers (in_steps n after next a)

  pub reads_by_stack : (st other : State) → Agrees st → Agrees other → st.lexer ≡ other.lexer → stack_of st.modes ≡ stack_of other.modes
      → read_from look edition s st ≡ read_from look edition s other
  unfolding read_from
  reads_by_stack st other a b e f =
      let d : st.modes.depth ≡ other.modes.depth = sym a.depth ∙ ap (λ (l : Lexer). l.depth) e ∙ b.depth in
      let m : measure s st ≡ measure s other =
      λ i. 4 * (length s - (reach_of (e i)).byte.0) + (2 * d i + pick (eqb (tag_of (e i).mode) raw_start) 1 0) in
      ap (λ (n : ℕ). read_in (suc n) look edition s st) m
      ∙ in_steps (suc (measure s other)) st other (record { agrees = a; also = b; lexers = e; stacks = f })
