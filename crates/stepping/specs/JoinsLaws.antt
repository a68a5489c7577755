-- How tokens join, and what the lexer is where no modes are left.
--     half_joins     a token's bytes and span begin where those before ended, unless it is an Error that stands still
--     lexer_of       with no modes left, the lexer is a function of what was read last
-- Assumes nothing.
use Rattle.std.specs.Prelude.{ℕ, ◌≡◌, refl, ◌⊎◌, List, [], ◌∷◌}
use Rattle.std.proofs.Common.{ap, ◌∙◌, inl, inr}
use Rattle.base.specs.PickLaws.{by_test}
use Rattle.position.specs.declared.Place.{Place}
use Rattle.state.specs.Lexer.{settled, remembered}
use Rattle.state.specs.State.{with_mode}
use Rattle.state.specs.Stack.{Agrees}
use Rattle.state.specs.StackLaws.{top_none}
use Rattle.state.specs.declared.Lexer.{Lexer}
use Rattle.state.specs.declared.State.{State}
use Rattle.state.specs.declared.Taken.{Taken}
use Rattle.lexer.specs.GetNextToken.{take_token, remaining_at}
use Rattle.lexer.specs.Step.{is_full, half_of, half_at, half}
use Rattle.lexer.specs.Keeps.{Joins, Keeps}
use Rattle.lexer.specs.KeepsLaws.{take_keeps}
use Rattle.lexer.specs.declared.Half.{Half}

-- what was read joins what was read before it, or nothing moved
abbrev pub Moved : Lexer → Lexer → Type 0
Moved before after = Joins before after ⊎ (after.place ≡ before.place)

of_moved : (l : Lexer) (t : Taken) → Keeps (settled l) t → Moved l (half_of l t).lexer
of_moved l t k = by_test (λ (x : Half). Moved l x.lexer) (is_full t.change l.depth) (λ _. inr refl) (λ _. go k.place)
  where
    go : Joins (settled l) t.lexer ⊎ ((t.lexer.place ≡ l.place) × (t.token.kind ≡ 0)) → Moved l (remembered t.token.kind t.lexer)
    go (inl j) = inl (record { bytes = j.bytes; span = j.span })
    go (inr e) = inr e.0

at_moved : (look : ℕ → ℕ) (edition : ℕ) (cs : List ℕ) (l : Lexer) → Moved l (half_at look edition cs l).lexer
at_moved look edition [] l = inr refl
at_moved look edition (c ∷ cs) l = of_moved l (take_token look edition (c ∷ cs) (settled l)) (take_keeps (settled l) look edition (c ∷ cs))

pub half_joins : (look : ℕ → ℕ) (edition : ℕ) (s : List ℕ) (l : Lexer) → Moved l (half look edition s l).lexer
unfolding half
half_joins look edition s l = at_moved look edition (remaining_at s l.place.current_byte.0) l

-- ---- with no modes left

-- the lexer whose last token had this place, indent and kind
abbrev pub lexer_after : Place → ℕ → ℕ → Lexer
lexer_after place indent kind = record { place = place; indent = indent; previous_token = kind; depth = 0; mode = 0 }

pub lexer_of : (st : State) → Agrees st → st.modes.depth ≡ 0
    → st.lexer ≡ lexer_after st.lexer.place st.lexer.indent st.lexer.previous_token
lexer_of st a e =
    let d : st.lexer.depth ≡ 0 = a.depth ∙ e in
    let m : st.lexer.mode ≡ 0 = a.mode ∙ top_none st.modes.codes st.modes.depth e in
    ap (λ (x : ℕ). with_mode x st.lexer.mode st.lexer) d ∙ ap (λ (x : ℕ). with_mode 0 x st.lexer) m
