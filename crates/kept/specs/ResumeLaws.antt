-- C-7: reading on from the record of a NewLine at depth 0. A reading depends on the modes through their stack alone, so behind such a record
-- it goes on from a state that the record fixes, whatever codes stand above the depth.
--     resumed_agrees    that state has no mode
--     resume            where the stack is empty, reading goes on as from it
--     resume_ok         and it keeps the invariant
-- Assumes nothing.
use Rattle.std.specs.Prelude.{ℕ, ◌≡◌, refl, List}
use Rattle.std.proofs.Common.{arith, ap, subst, ◌∙◌}
use Rattle.token.specs.declared.Token.{Token}
use Rattle.rows.specs.declared.Row.{Row}
use Rattle.state.specs.Stack.{codes_of, Agrees}
use Rattle.state.specs.StackLaws.{start_agrees}
use Rattle.state.specs.declared.Lexer.{Lexer}
use Rattle.state.specs.declared.State.{State}
use Rattle.lexer.specs.Fine.{Fine}
use Rattle.stepping.specs.Invariant.{Ok}
use Rattle.stepping.specs.JoinsLaws.{lexer_after, lexer_of}
use Rattle.reading.specs.Reading.{row_of, read_from}
use Rattle.reading.specs.AlikeLaws.{reads_by_stack}
use Rattle.kept.specs.Kept.{resumed}

pub resumed_agrees : (r : Row) → Agrees (resumed r)
resumed_agrees r =
    record { size = start_agrees.size; most = start_agrees.most; depth = refl; mode = start_agrees.mode }

module _ (st : State) (a : Agrees st) (none : st.modes.depth ≡ 0) (u : Token) (before : Lexer) (previous : st.lexer.previous_token ≡ u.kind) where
  resumed_lexer : st.lexer ≡ (resumed (row_of u before st.lexer)).lexer
  resumed_lexer = lexer_of st a none ∙ ap (lexer_after st.lexer.place st.lexer.indent) previous

  pub resume : (look : ℕ → ℕ) (edition : ℕ) (s : List ℕ) → read_from look edition s st ≡ read_from look edition s (resumed (row_of u before st.lexer))
  unfolding codes_of
  resume look edition s =
      reads_by_stack look edition s st (resumed (row_of u before st.lexer)) a (resumed_agrees (row_of u before st.lexer)) resumed_lexer
      (ap (codes_of st.modes.codes) none)

  pub resume_ok : (s : List ℕ) → Ok s st → Ok s (resumed (row_of u before st.lexer))
  resume_ok s ok =
      record {
        fine = subst (Fine s) resumed_lexer ok.fine;
        behind = ok.behind;
        agrees = resumed_agrees (row_of u before st.lexer);
        marked = λ e. absurd (omega arith);
        below = λ k h. absurd (omega arith);
      }
