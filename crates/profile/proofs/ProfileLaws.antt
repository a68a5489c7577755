-- Laws of the call.
--     end_room, stuck_room              a scan that is not refused leaves a list with room for its records
--     end_first, stuck_first            the pass over its list finds the first forbidden record
--     profiles_end, profiles_stuck      so it gives the profile's answer
--     profiled_same                     which is the same for tables that scan alike
--     profiles_by                       from a scan's answer: one that is refused is the answer as it is
--     judged_out, judged_in             with a forbidden record, and without
--     one_answer                        no second answer and no second list fits
-- Assumes nothing.
use Rattle.std.specs.Prelude.{ℕ, ◌<◌, ◌≤◌, ◌≡◌, refl, List, Some, Ok, Err, length, get_or}
use Rattle.std.proofs.Common.{arith, sym, subst, ◌∙◌, lt-ltb, le-ltb}
use Rattle.std.proofs.Math.Path.{ap}
use Rattle.property.specs.Table.{properties_at}
use Rattle.fitness.specs.FitLaws.{fit_of}
use Rattle.token.specs.Kind.{error}
use Rattle.token.specs.Token.{token_of}
use Rattle.rows.specs.Row.{room, put_rows, shown_at}
use Rattle.rows.specs.RowLaws.{rows_room, rows_shown}
use Rattle.rows.specs.declared.Row.{Row}
use Rattle.state.specs.Lexer.{start_lexer}
use Rattle.state.specs.State.{start_state}
use Rattle.stepping.specs.InvariantLaws.{start_ok_lem}
use Rattle.reading.specs.Reading.{Stop, row_of}
use Rattle.reading.specs.Scan.{Scanned, reading_of, Scans}
use Rattle.reading.specs.ShownLaws.{reading_shown}
use Rattle.reading.specs.WholeLaws.{ReadWhole, end_whole, stuck_whole}
use Rattle.reading.specs.declared.Scan.{Scan}
use Rattle.reading.specs.declared.Scan.TheVariants.{End, Stuck}
use Rattle.rust.specs.TokenLexer.{new_token_lexer}
use Rattle.rust.proofs.HandsLaws.{reading_hands}
use Rattle.forbidden.specs.Forbidden.{first_forbidden}
use Rattle.profile.specs.Profile.{Profiled, judged, profiled_by, Profiles}
use Rattle.forbidden.specs.Pass.{pass_from}
use Rattle.forbidden.proofs.PassLaws.{pass_is}
use Rattle.profile.specs.declared.ProfileError.TheVariants.{NotInProfile}

module _ (source table : List ℕ) (edition : ℕ) (old new : List ℕ) where
  -- any record: what is read past the end of a list
  some_row : Row
  some_row = row_of (token_of error) start_lexer start_lexer

  -- a source that was read whole, into this list
  module _ (n : ℕ) (stop : Stop) (w : ReadWhole source table edition (room old) n stop) (e : new ≡ put_rows old (reading_of source table edition).rows) where
    abbrev rows : List Row
    rows = (reading_of source table edition).rows

    has_room : n ≤ room new
    has_room =
        let h : length rows ≤ room old = omega (arith, w.counted, w.has_room) in
        omega (arith, w.has_room, ap room e, rows_room old rows h)

    shown : (i : ℕ) → i < length rows → shown_at new i ≡ Some (get_or rows i some_row)
    shown i h =
        ap (λ (l : List ℕ). shown_at l i) e
        ∙ rows_shown old rows i some_row h
        (reading_shown source table edition (fit_of table w.readable.fit) start_state (start_ok_lem source w.readable.short w.readable.well) i some_row h)

    found : pass_from (shown_at new) 0 0 n ≡ first_forbidden source table edition
    unfolding first_forbidden
    found =
        ap (pass_from (shown_at new) 0 0) w.counted
        ∙ pass_is (properties_at table) edition source (reading_of source table edition) new_token_lexer
        (reading_hands source table edition (fit_of table w.readable.fit) w.readable.short w.readable.well) (shown_at new) some_row shown tt

  -- x is the answer of the scan
  module _ {x : Scanned} (p : Scans source table edition old x new) where
    is : {y : Scanned} → x ≡ y → Scans source table edition old y new
    is e = subst (λ (y : Scanned). Scans source table edition old y new) e p

    -- by what is made of it
    pub profiles_by : {y : Scanned} {r : Profiled} → x ≡ y → r ≡ profiled_by (first_forbidden source table edition) y
        → Profiles source table edition old r new
    profiles_by e q = record { answer = q ∙ ap (profiled_by (first_forbidden source table edition)) (sym e ∙ p.answer); words = p.words }

    pub end_room : {n b : ℕ} → x ≡ Ok (End n b) → n ≤ room new
    end_room {n} {b} e = let w = end_whole source table edition old new n b (is e) in has_room n _ w.0 w.1

    pub stuck_room : {n b : ℕ} → x ≡ Ok (Stuck n b) → n ≤ room new
    stuck_room {n} {b} e = let w = stuck_whole source table edition old new n b (is e) in has_room n _ w.0 w.1

    -- the first forbidden record, by the list
    pub end_first : {n b : ℕ} → x ≡ Ok (End n b) → pass_from (shown_at new) 0 0 n ≡ first_forbidden source table edition
    end_first {n} {b} e = let w = end_whole source table edition old new n b (is e) in found n _ w.0 w.1

    pub stuck_first : {n b : ℕ} → x ≡ Ok (Stuck n b) → pass_from (shown_at new) 0 0 n ≡ first_forbidden source table edition
    stuck_first {n} {b} e = let w = stuck_whole source table edition old new n b (is e) in found n _ w.0 w.1

    pub profiles_end : {n b : ℕ} {r : Profiled} → x ≡ Ok (End n b) → r ≡ judged (pass_from (shown_at new) 0 0 n) n (End n b)
        → Profiles source table edition old r new
    profiles_end {n} {b} e q = profiles_by e (q ∙ ap (λ (first : ℕ). judged first n (End n b)) (end_first e))

    pub profiles_stuck : {n b : ℕ} {r : Profiled} → x ≡ Ok (Stuck n b) → r ≡ judged (pass_from (shown_at new) 0 0 n) n (Stuck n b)
        → Profiles source table edition old r new
    profiles_stuck {n} {b} e q = profiles_by e (q ∙ ap (λ (first : ℕ). judged first n (Stuck n b)) (stuck_first e))

-- two tables whose scans of a source are the same have the same answer by the profile
pub profiled_same : (source t u : List ℕ) (edition : ℕ) (old new : List ℕ) (x : Scanned) → Scans source t edition old x new
    → Scans source u edition old x new → profiled_by (first_forbidden source t edition) x ≡ profiled_by (first_forbidden source u edition) x
profiled_same source t u edition old new (Ok (End n b)) p q =
    ap (λ (first : ℕ). judged first n (End n b)) (sym (end_first source t edition old new p refl) ∙ end_first source u edition old new q refl)
profiled_same source t u edition old new (Ok (Stuck n b)) p q =
    ap (λ (first : ℕ). judged first n (Stuck n b)) (sym (stuck_first source t edition old new p refl) ∙ stuck_first source u edition old new q refl)
profiled_same source t u edition old new (Err e) p q = refl

-- ---- how a scan that was not refused is judged

module _ {i first : ℕ} (n : ℕ) (s : Scan) (e : i ≡ first) where
  pub judged_out : i < n → Err (NotInProfile n i) ≡ judged first n s
  judged_out h = rw (sym e, lt-ltb i n h)

  pub judged_in : n ≤ i → Ok s ≡ judged first n s
  judged_in h = rw (sym e, le-ltb i n h)

pub one_answer : (source table : List ℕ) (edition : ℕ) (old : List ℕ) (r q : Profiled) (new other : List ℕ) → Profiles source table edition old r new
    → Profiles source table edition old q other → (r ≡ q) × (new ≡ other)
one_answer source table edition old r q new other a b = (a.answer ∙ sym b.answer, a.words ∙ sym b.words)
