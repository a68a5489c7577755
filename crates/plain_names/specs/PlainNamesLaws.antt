-- The name at the lexer's place, by what the code asks of its bytes.
--     goes_on        a name has a byte at least, where a part of one stands
--     finds_name     neither "else" nor "r": a keyword, but not after a dot, or a name
-- Assumes nothing.
use Rattle.std.specs.Prelude.{ℕ, ◌-◌, ◌<◌, ◌≡◌, refl, Bool, true, false, List, eqb, length, get_or, take, drop}
use Rattle.std.proofs.Common.{arith, sym, ap, ◌∙◌, eqb-true}
use Rattle.base.specs.Pick.{pick}
use Rattle.base.specs.PickLaws.{split_lt}
use Rattle.base.specs.CasesLaws.{pick_no}
use Rattle.position.specs.Place.{along_by}
use Rattle.position.specs.declared.Reach.{Reach}
use Rattle.fitness.specs.Ascii.{is_name_part}
use Rattle.token.specs.Kind.{id, dot}
use Rattle.words.specs.Words.{is_word, else_word, r_word}
use Rattle.keywords.specs.Keywords.{keyword_of}
use Rattle.text.specs.Bytes.{byte_at}
use Rattle.text.specs.Stands.{Stands, chars_from}
use Rattle.state.specs.Lexer.{reach_of, token_along}
use Rattle.state.specs.declared.Lexer.{Lexer}
use Rattle.names.specs.ConsumeIdOrKeyword.{keyword_or_id, name_token}
use Rattle.names.specs.NameLaws.{keyword_at, name_token_at}
use Rattle.fast_names.specs.NameRun.{NameRun}
use Rattle.fast_names.specs.NameRunLaws.{name_reach}
use Rattle.plain.specs.PlainLaws.{plain_token}
use Rattle.plain.specs.declared.Plain.{Plain}
use Rattle.plain_names.specs.PlainNames.{NameFinds}

no_two : {A : Type 0} → true ≡ false → A
no_two e = let z : ◌≡◌ {A = ℕ} 0 1 = cc in absurd (omega arith)

pub goes_on : {s : List ℕ} {i j : ℕ} → NameRun s i j → i < length s → is_name_part (get_or s i 0) ≡ true → i < j
goes_on {s} {i} {j} run h e =
    split_lt i j (λ k. k)
    (λ k. let same : j ≡ i = omega (arith, run.passed.on) in
    no_two (sym e ∙ ap (λ (x : ℕ). is_name_part (get_or s x 0)) (sym same) ∙ run.over (omega arith)))

-- all three ways to a token end alike
one_token : (dotted known : Bool) (kind len : ℕ) (l : Lexer) → (known ≡ true → kind ≡ id)
    → pick dotted (token_along id len l) (pick known (token_along id len l) (token_along kind len l)) ≡ token_along (pick dotted id kind) len l
one_token true known kind len l e = refl
one_token false true kind len l e = ap (λ (k : ℕ). token_along k len l) (sym (e refl))
one_token false false kind len l e = refl

module _ (s : List ℕ) (l : Lexer) (o : Stands s (reach_of l)) {end : ℕ} (run : NameRun s (reach_of l).byte.0 end) (some : (reach_of l).byte.0 < end)
    (low : byte_at s end < 128) where
  abbrev len : ℕ
  len = end - (reach_of l).byte.0

  abbrev name : List ℕ
  name = take len (drop (reach_of l).byte.0 s)

  abbrev reach : Reach
  reach = along_by len len (reach_of l)

  bytes : reach.byte.0 - (reach_of l).byte.0 ≡ len
  bytes = omega arith

  module _ {kind : ℕ} (k : kind ≡ keyword_of name) where
    keyword_or_id_lem : keyword_or_id (chars_from s (reach_of l)) reach l ≡ token_along (pick (eqb l.previous_token dot) id kind) len l
    keyword_or_id_lem =
        keyword_at s l reach o (reach_of l) refl kind (rw bytes k)
        ∙ rw bytes (one_token (eqb l.previous_token dot) (eqb kind id) kind len l (λ e. eqb-true kind id e))

    pub finds_name : is_word else_word name ≡ false → is_word r_word name ≡ false
        → {p : Plain} → p ≡ record { kind = pick (eqb l.previous_token dot) id kind; len = len } → NameFinds s l p
    finds_name no-else no-r q table fit =
        plain_token _ len q
        (ap (λ (e : Reach). name_token (chars_from s (reach_of l)) e l) (name_reach table s fit l o run some low)
        ∙ name_token_at s l reach o (reach_of l) refl
        ∙ rw bytes (pick_no _ _ _ _ no-else (pick_no _ _ _ _ no-r keyword_or_id_lem)))
