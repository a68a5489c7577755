-- The promise of `Parse`, proved, and that no second answer, counts and rows fit.
--     parse_promise, parse_has_one_answer
-- Assumes nothing.
use Rattle.std.specs.Prelude.{ℕ, ◌≡◌, refl, Bool, true, false, List, Option, Result, Ok, Err}
use Rattle.std.proofs.Common.{arith, sym, ap, subst, ◌∙◌}
use Rattle.base.specs.Pick.{pick}
use Rattle.base.specs.PickLaws.{by_test}
use Rattle.base.specs.Refusal.{bad_utf8, cut_utf8, format_most}
use Rattle.utf8.specs.Meaning.{Arriving, Damaged}
use Rattle.input.specs.Input.{input_check}
use Rattle.input.specs.InputLaws.{is_long, is_none, is_table, is_bad, is_cut, is_fine_lem, fine_of, only_bad, only_cut}
use Rattle.input.specs.declared.Refusal.{Refusal}
use Rattle.pool_rows.specs.Rows.{fit_pool}
use Rattle.pool_rows.specs.declared.Counts.{Counts}
use Rattle.format_options.specs.declared.Options.{Options}
use Rattle.format_options.specs.declared.FormatError.TheVariants as outcome
use Rattle.format_options.specs.declared.FormatError.{FormatError}
use Rattle.parse.specs.Call.{lent, on_outcome, answer_of, answer, parsed, Comes, comes, call, Parses, number_of, value_of}
use Rattle.parse.specs.CallLaws.{called, one_answer, parses_refused, parses_unfit}
use Rattle.parse.specs.declared.After.{After}
use Rattle.parse.specs.declared.Parsed.{Parsed}
use Rattle.parse.specs.declared.ParseError.{ParseError}
use Rattle.parse.specs.declared.ParseError.TheVariants.{BadState}
use Rattle.promises.specs.Said.{Said, says}
use Rattle.promises.specs.Parse.{parse_says, Parsable, ParsePromise}

-- a reading's answer is neither 3 nor 15
abbrev Works : Result Parsed ParseError → Type 0
Works x = (number_of x ≡ bad_utf8 → ⊥) × (number_of x ≡ cut_utf8 → ⊥)

works : (options : Options) (o : Result Unit FormatError) (index : Option ℕ) (full : Bool) → Works (answer_of options o index full)
works options o index full = by_test Works full (λ _. (λ m. omega arith, λ m. omega arith)) (λ _. ends o)
  where
    ends : (o : Result Unit FormatError) → Works (on_outcome o options index)
    ends (Ok u) = (λ m. omega arith, λ m. omega arith)
    ends (Err (outcome.ExpectedNumber c)) = (λ m. omega arith, λ m. omega arith)
    ends (Err (outcome.TooLarge n)) = (λ m. omega arith, λ m. omega arith)
    ends (Err (outcome.UnexpectedToken c)) = (λ m. omega arith, λ m. omega arith)

module _ (format table : List ℕ) (edition : ℕ) (bytes entries : List ℕ) (counts : Counts) where
  abbrev told_number : Comes → ℕ
  told_number c = number_of c.answer

  abbrev told_value : Comes → ℕ
  told_value c = value_of c.answer

  -- what a parse that is not refused before any work comes to
  abbrev worked : Comes
  worked =
      pick (fit_pool bytes entries counts)
      (comes (answer (parsed format table edition (lent bytes entries counts))) (parsed format table edition (lent bytes entries counts)).pool)
      (comes (Err BadState) (lent bytes entries counts))

  fine_worked : Works worked.answer
  fine_worked =
      let r = parsed format table edition (lent bytes entries counts) in
      by_test (λ (c : Comes). Works c.answer) (fit_pool bytes entries counts)
      (λ _. works r.options r.outcome r.pool.index r.pool.full) (λ _. (λ m. omega arith, λ m. omega arith))

  bad_only : told_number (call format table edition (lent bytes entries counts)) ≡ bad_utf8
      → Damaged format (told_value (call format table edition (lent bytes entries counts)))
  unfolding call
  bad_only = only_bad format_most format table edition _ told_number told_value worked (λ x. refl) (λ x. refl) fine_worked.0

  cut_only : told_number (call format table edition (lent bytes entries counts)) ≡ cut_utf8
      → Arriving format (told_value (call format table edition (lent bytes entries counts)))
  unfolding call
  cut_only = only_cut format_most format table edition _ told_number told_value worked (λ x. refl) (λ x. refl) fine_worked.1

  -- the pool stays
  abbrev Kept : List ℕ → List ℕ → After → Type 0
  Kept new_bytes new_entries r = (r.counts ≡ counts) × (new_bytes ≡ bytes) × (new_entries ≡ entries)

  -- a refusal that leaves all as it is
  abbrev refusal : Result Parsed ParseError → After
  refusal x = record { answer = x; counts = counts }

  module _ (new_bytes new_entries : List ℕ) (r : After) (p : Parses format table edition bytes entries counts new_bytes new_entries r) where
    -- what another answer that fits says, this one says
    same : {q : After} → Parses format table edition bytes entries counts bytes entries q → parse_says r ≡ parse_says q
    same v = ap parse_says (one_answer p v).0

    stays : {x : Result Parsed ParseError} → Parses format table edition bytes entries counts bytes entries (refusal x) → Kept new_bytes new_entries r
    stays v = let o = one_answer p v in (ap (λ (y : After). y.counts) o.0, o.1, o.2)

    -- one of refusals 1, 2, 3, 8 is given, or none
    by_pool : (b : Bool) → fit_pool bytes entries counts ≡ b → input_check format_most format table edition ≡ Ok tt
        → (Parsable format table edition bytes entries counts → ⊥) → Kept new_bytes new_entries r
    by_pool true f e none =
        let g = fine_of format_most format table edition e in
        absurd (none (record { short = g.short; known = g.known; fit = g.fit; well = g.well; pool = f }))
    by_pool false f e none = stays (parses_unfit e f)

    by_input_lem : (c : Result (Unit {0}) Refusal) → input_check format_most format table edition ≡ c → (Parsable format table edition bytes entries counts → ⊥) → Kept new_bytes new_entries r
    by_input_lem (Ok _) e none = by_pool (fit_pool bytes entries counts) refl e none
    by_input_lem (Err x) e none = stays (parses_refused e)

    -- none of them is given
    module _ (g : Parsable format table edition bytes entries counts) where
      abbrev came : Comes
      came = comes (answer (parsed format table edition (lent bytes entries counts))) (parsed format table edition (lent bytes entries counts)).pool

      comes_to : call format table edition (lent bytes entries counts) ≡ came
      comes_to = called format table edition bytes entries counts (is_fine_lem format_most format table edition (record { short = g.short; known = g.known; fit = g.fit; well = g.well })) g.pool

      answered : r.answer ≡ came.answer
      answered = p.answer_is ∙ ap (λ (x : Comes). x.answer) comes_to

    -- by how the pass ended
    by_end : (g : Parsable format table edition bytes entries counts) (b : Bool) {o : Result Unit FormatError} → (parsed format table edition (lent bytes entries counts)).pool.full ≡ b
        → (parsed format table edition (lent bytes entries counts)).outcome ≡ o
        → r.answer ≡ answer_of (parsed format table edition (lent bytes entries counts)).options o (parsed format table edition (lent bytes entries counts)).pool.index b
    by_end g b f e =
        answered g
        ∙ ap (λ (x : Bool). answer_of (parsed format table edition (lent bytes entries counts)).options (parsed format table edition (lent bytes entries counts)).outcome
        (parsed format table edition (lent bytes entries counts)).pool.index x) f
        ∙ ap (λ (x : Result Unit FormatError). answer_of (parsed format table edition (lent bytes entries counts)).options x
        (parsed format table edition (lent bytes entries counts)).pool.index b) e

    abbrev told : Result Parsed ParseError → Said
    told x = says (number_of x) (value_of x)

    pub parse_promise : ParsePromise format table edition bytes entries counts new_bytes new_entries r
    parse_promise =
        record {
          too_long_lem = λ h. same (parses_refused (is_long format_most format table edition h));
          bad_edition_lem = λ h k. same (parses_refused (is_none format_most format table edition h k));
          bad_table_lem = λ h k i e. same (parses_refused (is_table format_most format table edition h k i e));
          bad_utf8_lem = λ h k t n w. same (parses_refused (is_bad format_most format table edition h k t n w));
          cut_utf8_lem = λ h k t n w. same (parses_refused (is_cut format_most format table edition h k t n w));
          bad_state_lem = λ h k t w f. same (parses_unfit (is_fine_lem format_most format table edition (record { short = h; known = k; fit = t; well = w })) f);
          only_bad = λ m. subst (λ (x : Result Parsed ParseError). Damaged format (value_of x)) (sym p.answer_is) (bad_only (ap number_of (sym p.answer_is) ∙ m));
          only_cut = λ m. subst (λ (x : Result Parsed ParseError). Arriving format (value_of x)) (sym p.answer_is) (cut_only (ap number_of (sym p.answer_is) ∙ m));
          kept = by_input_lem (input_check format_most format table edition) refl;
          full = λ g f. ap told (by_end g true f refl);
          fine = λ g f e. by_end g false f e;
          no_number_lem = λ g f c e. ap told (by_end g false f e);
          too_large = λ g f n e. ap told (by_end g false f e);
          unexpected = λ g f c e. ap told (by_end g false f e);
          left = λ g. (
            p.counts_left ∙ ap (λ (x : Comes). x.pool.counts) (comes_to g),
            p.bytes_left ∙ ap (λ (x : Comes). x.pool.bytes) (comes_to g),
            p.entries_left ∙ ap (λ (x : Comes). x.pool.entries) (comes_to g),
          );
        }

pub parse_has_one_answer : {format table : List ℕ} {edition : ℕ} {bytes entries new_bytes new_entries newBytes' newEntries' : List ℕ} {counts : Counts} {r q : After}
    → Parses format table edition bytes entries counts new_bytes new_entries r → Parses format table edition bytes entries counts newBytes' newEntries' q
    → (r ≡ q) × (new_bytes ≡ newBytes') × (new_entries ≡ newEntries')
parse_has_one_answer a b = one_answer a b
