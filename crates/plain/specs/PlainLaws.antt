-- What a leaf finds, by how it was made.
--     plain_same     of the same token
--     plain_none     no token: a leaf that finds none keeps its promise
--     plain_is       a kind and a length; the token is these, where the kind is not Error
--     plain_token    the same, where the token is known to be these
-- Assumes nothing.
use Rattle.std.specs.Prelude.{ℕ, ◌≡◌, true, false, eqb}
use Rattle.std.proofs.Common.{arith, sym, ap, ◌∙◌}
use Rattle.token.specs.Kind.{error}
use Rattle.state.specs.declared.Change.{Change}
use Rattle.state.specs.declared.Lexer.{Lexer}
use Rattle.state.specs.declared.Taken.{Taken}
use Rattle.plain.specs.Plain.{plain_taken, FindsPlain}
use Rattle.plain.specs.declared.Plain.{Plain}

pub plain_same : {change : Change} {t u : Taken} {l : Lexer} {p : Plain} → t ≡ u → FindsPlain change t l p → FindsPlain change u l p
plain_same e g = record { is = λ n. sym e ∙ g.is n }

no_two : {A : Type 0} → true ≡ false → A
no_two e = let z : ◌≡◌ {A = ℕ} 0 1 = cc in absurd (omega arith)

pub plain_none : {change : Change} {t : Taken} {l : Lexer} {p : Plain} → p.kind ≡ error → FindsPlain change t l p
plain_none e = record { is = λ n. no_two (ap (λ (k : ℕ). eqb k error) (sym e) ∙ n) }

pub plain_is : {change : Change} {t : Taken} {l : Lexer} {p : Plain} (kind len : ℕ) → p ≡ record { kind = kind; len = len }
    → (eqb kind error ≡ false → t ≡ plain_taken change kind len l) → FindsPlain change t l p
plain_is {change} {t} {l} {p} kind len e q =
    record {
      is = λ n.
          q (ap (λ (x : Plain). eqb x.kind error) (sym e) ∙ n) ∙ ap (λ (x : Plain). plain_taken change x.kind x.len l) (sym e);
    }

pub plain_token : {change : Change} {t : Taken} {l : Lexer} {p : Plain} (kind len : ℕ) → p ≡ record { kind = kind; len = len }
    → t ≡ plain_taken change kind len l → FindsPlain change t l p
plain_token kind len e q = plain_is kind len e (λ _. q)
