-- C-7, of readings: no byte behind a newline can alter a record up to it. Two sources with the same bytes up to a newline have the same
-- records up to a NewLine that ends there, and the same state after it.
--     shares          from any state at or before the newline
--     reading_line    from the start
-- Assumes nothing.
use Rattle.std.specs.Prelude.{ℕ, ◌≤◌, ◌≡◌, refl, ◌⊎◌, List, [], ◌∷◌, ◌++◌, length, drop}
use Rattle.std.proofs.Common.{arith, sym, ap, subst, ◌∙◌, inl, inr, ⊎_elim}
use Rattle.base.specs.Refusal.{source_most}
use Rattle.utf8.specs.Encode.{WellFormed}
use Rattle.property.specs.Table.{properties_at}
use Rattle.fitness.specs.Fit.{FitTable}
use Rattle.token.specs.Kind.{new_line, error}
use Rattle.token.specs.declared.Token.{Token}
use Rattle.rows.specs.declared.Row.{Row}
use Rattle.state.specs.State.{start_state}
use Rattle.state.specs.Lexer.{reach_of}
use Rattle.state.specs.declared.State.{State}
use Rattle.stepping.specs.Invariant.{Ok}
use Rattle.stepping.specs.InvariantLaws.{step_ok, start_ok_lem}
use Rattle.stepping.specs.ReadsLaws.{token_reads}
use Rattle.lexer.specs.Step.{step}
use Rattle.lexer.specs.declared.Step.{Step}
use Rattle.lexer.specs.declared.What.{What}
use Rattle.lexer.specs.declared.What.TheVariants as what
use Rattle.reading.specs.Reading.{Reading, row_of, onto, after_step, read_from, reading}
use Rattle.reading.specs.ReadingLaws.{reading_step}
use Rattle.line.specs.Line.{line}
use Rattle.line.specs.StepLaws.{fit_look}
use Rattle.line.specs.SourceLaws.{step_line}
use Rattle.kept.specs.Kept.{UpTo, Shares}
use Rattle.kept.specs.NewLineLaws.{newline_depth}

head_same : {x y : Row} {xs ys : List Row} → x ∷ xs ≡ y ∷ ys → x ≡ y
head_same e = cc

tail_same : {x y : Row} {xs ys : List Row} → x ∷ xs ≡ y ∷ ys → xs ≡ ys
tail_same e = ap (λ (l : List Row). drop 1 l) e

module _ (table : List ℕ) (fit : FitTable table) (edition : ℕ) (a x y : List ℕ) where
  abbrev look : ℕ → ℕ
  look = properties_at table

  abbrev S : List ℕ
  S = line a x

  abbrev T : List ℕ
  T = line a y

  abbrev Common : State → List Row → Type 0
  Common st kept = Shares look edition S T st kept

  -- a token that both find
  module _ (st : State) (ok : Ok S st) (also : Ok T st) (u : Token) (e : (step look edition S st).what ≡ what.Token u)
      (same : step look edition S st ≡ step look edition T st) where
    abbrev after : State
    after = (step look edition S st).state

    abbrev row : Row
    row = row_of u st.lexer after.lexer

    one : read_from look edition S st ≡ onto row (read_from look edition S after)
    one = reading_step S table edition fit st ok ∙ ap (after_step (read_from look edition S) st.lexer after) e

    two : read_from look edition T st ≡ onto row (read_from look edition T after)
    two =
        reading_step T table edition fit st also
        ∙ ap (λ (t : Step). after_step (read_from look edition T) st.lexer t.state t.what) (sym same)
        ∙ ap (after_step (read_from look edition T) st.lexer after) e

    after_ok : Ok S after
    after_ok = step_ok S table edition fit st ok

    after_also : Ok T after
    after_also = subst (λ (t : Step). Ok T t.state) (sym same) (step_ok T table edition fit st also)

    last_one : u.kind ≡ new_line → Common st (row ∷ [])
    last_one n =
        record {
          state = after;
          first = one;
          second = two;
          ok = after_ok;
          also = after_also;
          token = u;
          before = st.lexer;
          last = λ d. refl;
          previous = (token_reads S table edition fit st ok u e).last;
          depth = newline_depth look edition S st u e n ∙ sym ok.agrees.depth;
        }

    one_more_lem : {next : Row} {rows : List Row} → Common after (next ∷ rows) → Common st (row ∷ next ∷ rows)
    one_more_lem c =
        record {
          state = c.state;
          first = one ∙ ap (onto row) c.first;
          second = two ∙ ap (onto row) c.second;
          ok = c.ok;
          also = c.also;
          token = c.token;
          before = c.before;
          last = c.last;
          previous = c.previous;
          depth = c.depth;
        }

  -- the first record is a token's, and the others are read from the state after it
  record Begins (st : State) (first : Row) (others : List Row) : Type 0 where
    token : Token
    found : (step look edition S st).what ≡ what.Token token
    row : first ≡ row_of token st.lexer (step look edition S st).state.lexer
    rows : (read_from look edition S (step look edition S st).state).rows ≡ others

  begins : (st : State) (first : Row) (others : List Row) → Ok S st → (read_from look edition S st).rows ≡ first ∷ others
      → Begins st first others ⊎ ((first.kind ≡ error) × (others ≡ []))
  begins st first others ok e =
      go (step look edition S st).what refl (sym (ap (λ (r : Reading). r.rows) (reading_step S table edition fit st ok)) ∙ e)
    where
      go : (w : What) → (step look edition S st).what ≡ w
          → (after_step (read_from look edition S) st.lexer (step look edition S st).state w).rows ≡ first ∷ others
          → Begins st first others ⊎ ((first.kind ≡ error) × (others ≡ []))
      go (what.Token u) f g = inl (record { token = u; found = f; row = sym (head_same g); rows = tail_same g })
      go what.Stuck f g = inr (ap (λ (r : Row). r.kind) (sym (head_same g)), sym (tail_same g))
      go what.ModesFull f g = absurd (omega (arith, ap length g))
      go what.End f g = absurd (omega (arith, ap length g))

  -- a record that ends at the newline or before it, or is a NewLine, is the other source's too
  same_step : (st : State) → Ok S st → Ok T st → (reach_of st.lexer).byte.0 ≤ length a → (first : Row) (others : List Row)
      → (b : Begins st first others) → (first.end ≤ length a) ⊎ (first.kind ≡ new_line)
      → step look edition S st ≡ step look edition T st
  same_step st ok also h first others b k =
      ⊎_elim (λ e. e)
      (λ past. let p = past b.token b.found in
      let end : first.end ≡ (reach_of (step look edition S st).state.lexer).byte.0 = ap (λ (r : Row). r.end) b.row in
      absurd (⊎_elim (λ m. omega (arith, p.0)) (λ m. p.1 (sym (ap (λ (r : Row). r.kind) b.row) ∙ m)) k))
      (step_line look (fit_look table fit) edition a x y st ok.fine also.fine h)

  pub shares : (kept rest : List Row) (st : State) → Ok S st → Ok T st → (reach_of st.lexer).byte.0 ≤ length a → UpTo (length a) kept
      → (read_from look edition S st).rows ≡ kept ++ rest → Common st kept
  shares [] rest st ok also h k e = absurd k
  shares (one ∷ []) rest st ok also h k e =
      ⊎_elim
      (λ b. subst (λ (r : Row). Common st (r ∷ [])) (sym b.row)
      (last_one st ok also b.token b.found (same_step st ok also h one rest b (inr (search k))) (sym (ap (λ (r : Row). r.kind) b.row) ∙ k)))
      (λ b. absurd (omega (arith, b.0)))
      (begins st one rest ok e)
  shares (one ∷ next ∷ rows) rest st ok also h k e =
      ⊎_elim
      (λ b. let same = same_step st ok also h one (next ∷ (rows ++ rest)) b (inl (omega (arith, k.0))) in
      let end : one.end ≡ (reach_of (step look edition S st).state.lexer).byte.0 = ap (λ (r : Row). r.end) b.row in
      subst (λ (r : Row). Common st (r ∷ next ∷ rows)) (sym b.row)
      (one_more_lem st ok also b.token b.found same
      (shares (next ∷ rows) rest (step look edition S st).state (after_ok st ok also b.token b.found same)
      (after_also st ok also b.token b.found same) (omega (arith, k.0)) k.1 b.rows)))
      (λ b. absurd (omega (arith, ap length b.1)))
      (begins st one (next ∷ (rows ++ rest)) ok e)

  -- no byte behind the newline can alter a record up to it
  pub reading_line : length S ≤ source_most → length T ≤ source_most → WellFormed S → WellFormed T → (kept rest : List Row)
      → UpTo (length a) kept → (reading look edition S).rows ≡ kept ++ rest → Common start_state kept
  reading_line small less well good kept rest k e =
      shares kept rest start_state (start_ok_lem S small well) (start_ok_lem T less good) (omega arith) k e
