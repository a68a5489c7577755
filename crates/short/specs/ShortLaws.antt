-- What is found outside a string, by the class of the byte at the lexer's place.
--     class_test, class_byte       what a test says of every byte of a class; which byte it is
--     arm_at                       the arm of `get_next_token` that the class decides
--     by_arm                       what is found of that arm is found of the token
--     feed_at                      the arm of ends of lines, at a line feed
-- Assumes nothing.
use Rattle.std.specs.Prelude.{ℕ, ◌≤◌, ◌<◌, ◌≡◌, refl, Bool, true, ◌&&◌, List, ltb, eqb, length, get_or, drop}
use Rattle.std.proofs.Common.{arith, sym, ap, ◌∙◌, lt-ltb, ltb-true, eq-eqb, eqb-true, ne_eqb}
use Rattle.std.proofs.Math.Bool.{and-eq-true_iff}
use Rattle.base.specs.All.{all_good}
use Rattle.base.specs.CasesLaws.{pick_yes, pick_no}
use Rattle.base.specs.RangeLaws.{is_inside}
use Rattle.position.specs.Place.{line_by}
use Rattle.utf8.specs.Encode.{WellFormed}
use Rattle.property.specs.Table.{properties_at}
use Rattle.fitness.specs.Fit.{FitTable}
use Rattle.token.specs.Kind.{new_line}
use Rattle.text.specs.Bytes.{byte_at}
use Rattle.text.specs.Stands.{chars_from}
use Rattle.state.specs.Lexer.{reach_of, token_to}
use Rattle.state.specs.declared.Lexer.{Lexer}
use Rattle.newlines.specs.ConsumeNewline.{consume_newline}
use Rattle.newlines.specs.TurnLaws.{newline_at}
use Rattle.lexer.specs.GetNextToken.{next_char, in_code}
use Rattle.lexer.specs.NextLaws.{next_ascii}
use Rattle.classes.specs.Classes.{class_of}
use Rattle.classes.specs.ClassesLaws.{means, by_class}
use Rattle.actions.specs.Actions.{action_of, arm}
use Rattle.actions.specs.ActionsLaws.{in_code_by}
use Rattle.found.specs.Found.{Finds}
use Rattle.found.specs.FoundLaws.{finds_same}
use Rattle.found.specs.declared.Found.{Found}
use Rattle.short.specs.Short.{CodeFinds}

-- the byte at a place of the source
pub byte_there : (s : List ℕ) (i : ℕ) → i < length s → byte_at s i ≡ get_or s i 0
byte_there s i h = rw (lt-ltb i (length s) h)

-- ---- by the class

pub class_test : (k : ℕ) (test : ℕ → Bool) → k ≤ 19 → all_good (means k k test) 128 ≡ true → (b : ℕ) → class_of b ≡ k → test b ≡ true
class_test k test h e b q = by_class k k test e h b (is_inside (class_of b) k k (omega (arith, q)) (omega (arith, q)))

pub class_byte : (k d : ℕ) → k ≤ 19 → all_good (means k k (λ b. eqb b d)) 128 ≡ true → (s : List ℕ) (i : ℕ) → i < length s
    → class_of (get_or s i 0) ≡ k → byte_at s i ≡ d
class_byte k d h e s i m q = byte_there s i m ∙ eqb-true (get_or s i 0) d (class_test k (λ b. eqb b d) h e (get_or s i 0) q)

-- an ASCII byte with this action
abbrev pub acts : ℕ → ℕ → Bool
acts n b = ltb b 128 && eqb (action_of b) n

pub arm_at : (k n : ℕ) → k ≤ 19 → all_good (means k k (acts n)) 128 ≡ true → (s table : List ℕ) → FitTable table → (l : Lexer)
    → (reach_of l).byte.0 < length s → class_of (get_or s (reach_of l).byte.0 0) ≡ k
    → arm (properties_at table) (chars_from s (reach_of l)) l n
    ≡ in_code (properties_at table) (next_char (chars_from s (reach_of l))) (chars_from s (reach_of l)) l
arm_at k n h e s table fit l m q =
    let i = (reach_of l).byte.0 in
    let b = get_or s i 0 in
    let look = properties_at table in
    let cs = chars_from s (reach_of l) in
    let both = (and-eq-true_iff (ltb b 128) (eqb (action_of b) n)).0 (class_test k (acts n) h e b q) in
    let low = ltb-true b 128 both.0 in
    sym
    (ap (λ (c : ℕ). in_code look c cs l) (next_ascii s i b (byte_there s i m) low)
    ∙ in_code_by table fit b low cs l
    ∙ ap (arm look cs l) (eqb-true (action_of b) n both.1))

pub by_arm : (k n : ℕ) → k ≤ 19 → all_good (means k k (acts n)) 128 ≡ true → (s table : List ℕ) → FitTable table → (l : Lexer)
    → (reach_of l).byte.0 < length s → class_of (get_or s (reach_of l).byte.0 0) ≡ k
    → {f : Found} → Finds (arm (properties_at table) (chars_from s (reach_of l)) l n) l f → CodeFinds s table l f
by_arm k n h e s table fit l m q g = finds_same (arm_at k n h e s table fit l m q) g

-- ---- the arms

pub feed_at : (s : List ℕ) (l : Lexer) → WellFormed (drop (reach_of l).byte.0 s) → byte_at s (reach_of l).byte.0 ≡ 10
    → consume_newline (chars_from s (reach_of l)) l ≡ token_to new_line (line_by 1 (reach_of l)) l
feed_at s l w e =
    newline_at s l w (reach_of l) refl
    ∙ pick_no _ _ _ _ (ne_eqb (byte_at s (reach_of l).byte.0) 13 (λ f. omega (arith, e, f)))
    (pick_yes _ _ _ _ (eq-eqb (byte_at s (reach_of l).byte.0) 10 e) refl)
