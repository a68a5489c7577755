-- What is found, by how it was made.
--     finds_same               of the same token
--     finds_nothing            no token: an arm that finds none keeps its promise
--     finds_along, finds_to    a token of ASCII bytes, and one that reaches so far
--     finds_indented           the first of these, where the indent changes
--     finds_of                 one that a `consume_*` took, which stands where it ends, or is none
-- Assumes nothing.
use Rattle.std.specs.Prelude.{ℕ, ◌≡◌, true, false, eqb}
use Rattle.std.proofs.Common.{arith, sym, ap, ◌∙◌}
use Rattle.position.specs.declared.Reach.{Reach}
use Rattle.token.specs.Kind.{error}
use Rattle.state.specs.Lexer.{with_indent, advanced_line, token_along, token_to}
use Rattle.state.specs.declared.Change.{Change}
use Rattle.state.specs.declared.Change.TheVariants.{Keep}
use Rattle.state.specs.declared.Lexer.{Lexer}
use Rattle.state.specs.declared.Taken.{Taken}
use Rattle.found.specs.Found.{found_taken, Finds, found_along, found_to, found_of}
use Rattle.found.specs.declared.Found.{Found}

pub finds_same : {t u : Taken} {l : Lexer} {f : Found} → t ≡ u → Finds t l f → Finds u l f
finds_same e g = record { is = λ n. sym e ∙ g.is n }

no_two : {A : Type 0} → true ≡ false → A
no_two e = let z : ◌≡◌ {A = ℕ} 0 1 = cc in absurd (omega arith)

pub finds_nothing : {t : Taken} {l : Lexer} {f : Found} → f.kind ≡ error → Finds t l f
finds_nothing e = record { is = λ n. no_two (ap (λ (k : ℕ). eqb k error) (sym e) ∙ n) }

pub finds_along : {l : Lexer} {f : Found} (kind detail len : ℕ) (change : Change) → f ≡ found_along kind detail len change l
    → {t : Taken} → t ≡ record { token = record { kind = kind; detail = detail }; lexer = advanced_line len l; change = change } → Finds t l f
finds_along {l} kind detail len change e q = record { is = λ _. q ∙ ap (λ (x : Found). found_taken x l) (sym e) }

pub finds_to : {l : Lexer} {f : Found} (kind : ℕ) (end : Reach) → f ≡ found_to kind end l → {t : Taken} → t ≡ token_to kind end l → Finds t l f
finds_to {l} kind end e q = record { is = λ _. q ∙ ap (λ (x : Found). found_taken x l) (sym e) }

pub finds_of : {l : Lexer} {f : Found} {r t : Taken} → f ≡ found_of r → r ≡ t → (eqb t.token.kind error ≡ false → t ≡ found_taken (found_of t) l) → Finds t l f
finds_of {l} {f} {r} {t} e q g =
    let d : f ≡ found_of t = e ∙ ap found_of q in
    record { is = λ n. g (ap (λ (x : Found). eqb x.kind error) (sym d) ∙ n) ∙ ap (λ (x : Found). found_taken x l) (sym d) }

-- from a lexer m that differs in its indent alone
pub finds_indented : {l m : Lexer} {f : Found} (n kind len : ℕ) → m ≡ with_indent n l → f ≡ found_along kind 0 len Keep m
    → {t : Taken} → t ≡ token_along kind len (with_indent n l) → Finds t l f
finds_indented {l} n kind len d e q =
    record { is = λ _. q ∙ ap (λ (x : Found). found_taken x l) (sym (e ∙ ap (found_along kind 0 len Keep) d)) }
