-- Laws of what is found of a read step.
--     step_none                        nothing is found
--     whole_stands, whole_by           where the byte begins a character, one stands at the lexer's place; what is found of the token is found of the step
--     step_stands, step_by             the same where the byte is ASCII
--     comment_of, literal_of, raw_of   what a `consume_*` took stands where it ends
-- Assumes nothing.
use Rattle.std.specs.Prelude.{ℕ, ◌<◌, ◌≡◌, refl, true, false, List, eqb, length, get_or, drop}
use Rattle.std.proofs.Common.{arith, sym, ap, subst, ◌∙◌, lt-ltb}
use Rattle.base.specs.PickLaws.{by_test}
use Rattle.base.specs.RangeLaws.{under}
use Rattle.utf8.specs.Read.{is_tail}
use Rattle.property.specs.Table.{properties_at}
use Rattle.token.specs.Kind.{error}
use Rattle.text.specs.Bytes.{byte_at}
use Rattle.text.specs.Follow.{next_is, Followed, Closed, Open, Stopped, follow}
use Rattle.text.specs.Stands.{Stands}
use Rattle.text.specs.FollowLaws.{byte_within}
use Rattle.position.specs.Place.{along_by}
use Rattle.state.specs.Lexer.{reach_of, settled}
use Rattle.state.specs.declared.Lexer.{Lexer}
use Rattle.state.specs.declared.Taken.{Taken}
use Rattle.comments.specs.ConsumeComment.{comment_turn, comment_token, consume_comment_multi, consume_comment}
use Rattle.strings.specs.ConsumeStringLiteral.{literal_turn, literal_token, consume_string_literal}
use Rattle.strings.specs.ConsumeRawString.{raw_turn, raw_token, consume_raw_string_contents}
use Rattle.lexer.specs.Fine.{Fine}
use Rattle.lexer.specs.Step.{half_of}
use Rattle.lexer.specs.ArmLaws.{half_some}
use Rattle.found.specs.Found.{found_taken, found_of}
use Rattle.found.specs.declared.Found.{Found}
use Rattle.short.specs.Short.{TokenFinds}
use Rattle.fast_step.specs.FastStep.{StepFinds}

no_two : {A : Type 0} → true ≡ false → A
no_two e = let z : ◌≡◌ {A = ℕ} 0 1 = cc in absurd (omega arith)

pub step_none : {s table : List ℕ} {l : Lexer} {f : Found} → f.kind ≡ error → StepFinds s table l f
step_none e = record { is = λ n. no_two (ap (λ (k : ℕ). eqb k error) (sym e) ∙ n) }

-- ---- at a byte that begins a character

module _ (s : List ℕ) (l : Lexer) (m : (reach_of l).byte.0 < length s) (k : is_tail (get_or s (reach_of l).byte.0 0) ≡ false) where
  pub whole_stands : Fine s l → {x : Lexer} → x ≡ settled l → Stands s (reach_of x) × ((reach_of x).byte.0 < length s)
  whole_stands f q =
      subst (λ (y : Lexer). Stands s (reach_of y) × ((reach_of y).byte.0 < length s)) (sym q)
      (record { small = f.small; inside = f.inside; well = f.whole k; lines = f.lines; columns = f.columns }, m)

  pub whole_by : (table : List ℕ) → Fine s l → {x : Lexer} {f : Found} → x ≡ settled l → TokenFinds s table x f → StepFinds s table l f
  whole_by table fine {x} {f} q g =
      let g' = subst (λ (y : Lexer). TokenFinds s table y f) q g in
      record { is = λ n edition. half_some (properties_at table) edition s l k (fine.whole k) m ∙ ap (half_of l) ((g' edition).is n) }

-- ---- at an ASCII byte

module _ (s : List ℕ) (l : Lexer) (b : ℕ) (e : b ≡ byte_at s (reach_of l).byte.0) (h : b < 128) where
  within : (reach_of l).byte.0 < length s
  within = byte_within s (reach_of l).byte.0 b (sym e) (omega arith)

  no_tail : is_tail (get_or s (reach_of l).byte.0 0) ≡ false
  no_tail =
      let g : byte_at s (reach_of l).byte.0 ≡ get_or s (reach_of l).byte.0 0 = rw (lt-ltb (reach_of l).byte.0 (length s) within) in
      under (get_or s (reach_of l).byte.0 0) 0x80 0xbf (omega (arith, e, g))

  pub step_stands : Fine s l → {x : Lexer} → x ≡ settled l → Stands s (reach_of x) × ((reach_of x).byte.0 < length s)
  step_stands = whole_stands s l within no_tail

  pub step_by : (table : List ℕ) → Fine s l → {x : Lexer} {f : Found} → x ≡ settled l → TokenFinds s table x f → StepFinds s table l f
  step_by = whole_by s l within no_tail

-- ---- what was taken stands where it ends

abbrev pub Ends : Lexer → Taken → Type 0
Ends l t = eqb t.token.kind error ≡ false → t ≡ found_taken (found_of t) l

comment_ends : (l : Lexer) (f : Followed) → Ends l (comment_token l f)
comment_ends l (Closed end) n = refl
comment_ends l (Open end) n = no_two n
comment_ends l Stopped n = no_two n

pub comment_of : (look : ℕ → ℕ) (cs : List ℕ) (l : Lexer) → Ends l (consume_comment look cs l)
unfolding consume_comment consume_comment_multi
comment_of look cs l =
    by_test (Ends l) (next_is 45 (drop 1 cs)) (λ _. comment_ends l (follow (comment_turn look) (along_by 1 1 (reach_of l)) (drop 1 cs))) (λ _ _. refl)

literal_ends : (l : Lexer) (f : Followed) → Ends l (literal_token l f)
literal_ends l (Closed end) n = refl
literal_ends l (Open end) n = no_two n
literal_ends l Stopped n = no_two n

pub literal_of : (look : ℕ → ℕ) (quote : ℕ) (cs : List ℕ) (l : Lexer) → Ends l (consume_string_literal look quote cs l)
unfolding consume_string_literal
literal_of look quote cs l = literal_ends l (follow (literal_turn look quote) (reach_of l) cs)

raw_ends : (delimiter : ℕ) (l : Lexer) (f : Followed) → Ends l (raw_token delimiter l f)
raw_ends delimiter l (Closed end) n = refl
raw_ends delimiter l (Open end) n = no_two n
raw_ends delimiter l Stopped n = no_two n

pub raw_of : (look : ℕ → ℕ) (delimiter : ℕ) (cs : List ℕ) (l : Lexer) → Ends l (consume_raw_string_contents look delimiter cs l)
unfolding consume_raw_string_contents
raw_of look delimiter cs l = raw_ends delimiter l (follow (raw_turn look delimiter) (reach_of l) cs)
