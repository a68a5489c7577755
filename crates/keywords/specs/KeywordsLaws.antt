-- What callers may use of keywords.
--     never_keyword                          a kind that no entry has is never answered
--     keyword_kind, never_else, never_else_if    a keyword's kind; "else" and "else if" are not among them
-- Assumes nothing.
use Rattle.std.specs.Prelude.{◌≡◌, refl, true, ◌&&◌, List, ◌⊎◌, ℕ, ◌≤◌, eqb, leb}
use Rattle.std.proofs.Math.Bool.{and-eq-true_iff}
use Rattle.std.proofs.Common.{inl, inr, arith, leb-true}
use Rattle.std.proofs.lemmas.Bool.{eqb-false, not-true}
use Rattle.token.specs.Kind.{id, as_kind, let_kind, else, else_if}
use Rattle.words.specs.Words.{is_word}
use Rattle.words.specs.WordsLaws.{every, by_first, other_kind}
use Rattle.keywords.specs.Keywords.{keywords, keyword_of}

pub never_keyword : (l : List ℕ) (kind : ℕ) → every (other_kind kind) keywords ≡ true → (id ≡ kind → ⊥) → keyword_of l ≡ kind → ⊥
unfolding keyword_of
never_keyword l kind all other =
    by_first (λ (k : ℕ). k ≡ kind → ⊥) (other_kind kind) (λ e. is_word e.text l) (λ e. e.kind) id
    (λ e d _ k. eqb-false e.kind kind (not-true (eqb e.kind kind) d) k)
    other
    keywords
    all

pub never_else : (l : List ℕ) → keyword_of l ≡ else → ⊥
never_else l = never_keyword l else refl (λ e. omega arith)

pub never_else_if : (l : List ℕ) → keyword_of l ≡ else_if → ⊥
never_else_if l = never_keyword l else_if refl (λ e. omega arith)

-- a keyword's kind, or Id
pub keyword_kind : (l : List ℕ) → (keyword_of l ≡ id) ⊎ ((as_kind ≤ keyword_of l) × (keyword_of l ≤ let_kind))
unfolding keyword_of
keyword_kind l =
    by_first (λ (k : ℕ). (k ≡ id) ⊎ ((as_kind ≤ k) × (k ≤ let_kind))) (λ e. leb as_kind e.kind && leb e.kind let_kind) (λ e. is_word e.text l) (λ e. e.kind) id
    (λ e p _. let both = (and-eq-true_iff (leb as_kind e.kind) (leb e.kind let_kind)).0 p in inr (leb-true as_kind e.kind both.0, leb-true e.kind let_kind both.1))
    (inl refl)
    keywords
    refl
