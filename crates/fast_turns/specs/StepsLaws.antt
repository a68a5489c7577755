-- The steps of the second engine's loop.
--     inside_no               nothing is told of the lexer's place
--     at_stands, ready_by     at an ASCII byte a character stands, and everything is at hand for a turn with the token that `get_next_token` takes
--     in_code                 outside a string it is `in_code`'s
--     ready_blank, ready_plain, ready_feed    what keeps the modes there
--     code_none, code_kept    no turn, and a turn that keeps the modes
--     run_more, run_falls, code_more    a run with the turns of one step more
--     run_going, run_less     what holds after a run, of a loop that went on before it
-- Assumes nothing.
use Rattle.std.specs.Prelude.{ℕ, ◌+◌, ◌≤◌, ◌<◌, ◌≡◌, true, false, List, eqb, length, get_or}
use Rattle.std.proofs.Common.{arith, sym, subst, ◌∙◌, lt-ltb}
use Rattle.std.proofs.Math.Path.{refl, ap}
use Rattle.base.specs.Range.{inside}
use Rattle.position.specs.Place.{line_by}
use Rattle.property.specs.Table.{properties_at}
use Rattle.token.specs.Kind.{error, whitespace, new_line}
use Rattle.layout.specs.declared.Layout.{Layout}
use Rattle.text.specs.Bytes.{byte_at}
use Rattle.text.specs.Tests.{is_whitespace, is_line_end}
use Rattle.text.specs.Count.{count_while}
use Rattle.text.specs.Stands.{Stands, chars_from}
use Rattle.state.specs.Lexer.{reach_of, settled, indented, token_to, token_along}
use Rattle.state.specs.State.{state_of}
use Rattle.state.specs.declared.Change.TheVariants.{Keep}
use Rattle.state.specs.declared.Lexer.{Lexer}
use Rattle.state.specs.declared.State.{State}
use Rattle.state.specs.declared.Taken.{Taken}
use Rattle.lexer.specs.GetNextToken.{take_token}
use Rattle.lexer.specs.ArmLaws.{take_code}
use Rattle.stepping.specs.Invariant.{Ok, measure}
use Rattle.reading.specs.GoingLaws.{Going}
use Rattle.actions.specs.Actions.{action_of}
use Rattle.plain.specs.Plain.{plain_taken, FindsPlain}
use Rattle.plain.specs.declared.Plain.{Plain}
use Rattle.short.specs.ShortLaws.{feed_at}
use Rattle.brackets.specs.Brackets.{code_taken}
use Rattle.brackets.specs.BracketsLaws.{arm_of_lem}
use Rattle.turns.specs.Turns.{Ready, after_of, Written, Ran, TurnsIs}
use Rattle.turns.specs.TurnsLaws.{stands, half_is, turned_kept, ran_ran, turns_none, turns_one}
use Rattle.turns.specs.declared.Turns.{Turns}
use Rattle.fast_turns.specs.Steps.{Steady, CodeMode, Inside, InsideIf, CodeTurns, CodeRan}

no_two : {A : Type 0} → true ≡ false → A
no_two e = let z : ◌≡◌ {A = ℕ} 0 1 = cc in absurd (omega arith)

pub inside_no : {layout : Layout} {s list : List ℕ} {k : ℕ} {l : Lexer} → InsideIf layout s list k l false
inside_no = record { is = λ e. no_two (sym e) }

module _ {layout : Layout} {s table : List ℕ} (edition : ℕ) {l : Lexer} {codes : List ℕ} {k : ℕ} {list : List ℕ}
    (y : Steady s table l codes) (i : Inside layout s list k l) where
  pub at_stands : Stands s (reach_of l)
  at_stands = stands s table edition l y.ok.fine i.within i.ascii

  pub ready_by : {t : Taken} → take_token (properties_at table) edition (chars_from s (reach_of l)) (settled l) ≡ t → eqb t.token.kind error ≡ false
      → Ready layout s table edition l codes k list t
  ready_by e n =
      record { ok = y.ok; fit = y.fit; room = i.room; is = half_is s table edition l y.ok.fine i.within i.ascii e; real = n }

  -- outside a string
  module _ (m : CodeMode l.mode) where
    pub in_code : {t : Taken} → code_taken s table (settled l) ≡ t → eqb t.token.kind error ≡ false → Ready layout s table edition l codes k list t
    in_code e n =
        ready_by (take_code (properties_at table) edition (chars_from s (reach_of l)) (settled l) m.no_literal m.no_format m.no_start m.no_end ∙ e) n

    pub ready_blank : get_or s (reach_of l).byte.0 0 ≡ 32 → {len : ℕ} → len ≡ count_while is_whitespace (chars_from s (reach_of l))
        → Ready layout s table edition l codes k list (token_along whitespace len (indented len (settled l)))
    unfolding action_of is_whitespace is_line_end inside
    ready_blank e q =
        in_code
        (arm_of_lem s table y.fit (settled l) at_stands i.within 32 0 (omega arith) refl e
        ∙ ap (λ (n : ℕ). token_along whitespace n (indented n (settled l))) (sym q))
        refl

    pub ready_plain : {p : Plain} → FindsPlain Keep (code_taken s table (settled l)) (settled l) p → eqb p.kind error ≡ false
        → Ready layout s table edition l codes k list (plain_taken Keep p.kind p.len (settled l))
    ready_plain f n = in_code (f.is n) n

    pub ready_feed : get_or s (reach_of l).byte.0 0 ≡ 10 → Ready layout s table edition l codes k list (token_to new_line (line_by 1 (reach_of l)) (settled l))
    unfolding action_of is_whitespace is_line_end inside
    ready_feed e =
        let g : byte_at s (reach_of l).byte.0 ≡ 10 = rw (lt-ltb (reach_of l).byte.0 (length s) i.within) e in
        in_code (arm_of_lem s table y.fit (settled l) at_stands i.within 10 1 (omega arith) refl e ∙ feed_at s (settled l) at_stands.well g) refl

module _ {layout : Layout} {s table : List ℕ} {edition : ℕ} {l : Lexer} {codes : List ℕ} {k : ℕ} {list : List ℕ} where
  pub code_none : Ok s (state_of l codes) → {r : Turns} → r ≡ record { on = false; lexer = l; count = k } → CodeTurns layout s table edition l codes k list r list
  code_none o e = record { turns = turns_none o e; mode = ap (λ (x : Turns). x.lexer.mode) e }

  pub code_kept : {t : Taken} → Ready layout s table edition l codes k list t → t.change ≡ Keep → t.lexer.mode ≡ l.mode → {x : Lexer} {new : List ℕ}
      → Written layout list k t.token l (after_of t) x new → CodeTurns layout s table edition l codes k list (record { on = true; lexer = x; count = k + 1 }) new
  code_kept r e m w = record { turns = turns_one r.ok (turned_kept r e w); mode = ap (λ (x : Lexer). x.mode) w.after_it ∙ m }

-- ---- many turns

module _ {layout : Layout} {s table : List ℕ} {edition : ℕ} {l : Lexer} {codes : List ℕ} {k : ℕ} {list : List ℕ} {r : Turns} {codes' new : List ℕ}
    (t : TurnsIs layout s table edition l codes k list r codes' new) {x : Lexer} (e : x ≡ r.lexer) where
  -- with the turns of one step more
  pub run_more : {st : State} {k₀ : ℕ} {l₀ : List ℕ} → Ran layout s table edition st k₀ l₀ (state_of l codes) k list → Ran layout s table edition st k₀ l₀ (state_of x codes') r.count new
  run_more a = ran_ran a (subst (λ (y : Lexer). Ran layout s table edition (state_of l codes) k list (state_of y codes') r.count new) (sym e) t.ran)

  pub run_falls : r.on ≡ true → measure s (state_of x codes') < measure s (state_of l codes)
  run_falls o = subst (λ (y : Lexer). measure s (state_of y codes') < measure s (state_of l codes)) (sym e) (t.falls o)

module _ {layout : Layout} {s table : List ℕ} {edition : ℕ} {l₀ : Lexer} {codes : List ℕ} {k₀ : ℕ} {list₀ : List ℕ} {l : Lexer} {k : ℕ} {list : List ℕ}
    {r : Turns} {new : List ℕ} where
  pub code_more : CodeRan layout s table edition l₀ codes k₀ list₀ (record { lexer = l; count = k }) list → CodeTurns layout s table edition l codes k list r new
      → {x : Lexer} → x ≡ r.lexer → CodeRan layout s table edition l₀ codes k₀ list₀ (record { lexer = x; count = r.count }) new
  code_more a t e = record { ran = run_more t.turns e a.ran; mode = ap (λ (y : Lexer). y.mode) e ∙ t.mode ∙ a.mode }

-- ---- after a run

module _ {layout : Layout} {s table : List ℕ} {edition : ℕ} {st : State} {k : ℕ} {list : List ℕ} {l : Lexer} {codes : List ℕ} {j : ℕ} {new : List ℕ}
    (r : Ran layout s table edition st k list (state_of l codes) j new) {x : Lexer} (e : x ≡ l) where
  pub run_going : {st₀ : State} {k₀ : ℕ} {l₀ : List ℕ} → Going layout s table edition st₀ k₀ l₀ st k list
      → Going layout s table edition st₀ k₀ l₀ (state_of x codes) j new
  run_going {st₀} {k₀} {l₀} g =
      subst (λ (y : Lexer). Going layout s table edition st₀ k₀ l₀ (state_of y codes) j new) (sym e) (r.goes st₀ k₀ l₀ g)

  pub run_less : measure s (state_of x codes) ≤ measure s st
  run_less = subst (λ (y : Lexer). measure s (state_of y codes) ≤ measure s st) (sym e) r.less
