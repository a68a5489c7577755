-- Laws of how a parse goes.
--     is_refused, is_unfit, is_read    what `read` answers, by its tests
--     Reads, reads                 what `read` says of a format string that it has read
--     string_is, can_in, can_fit   the string of a fill is a part of the format string, and the pool is fit where it is added
--     adds_nothing, adds_string    a fill that is not added, and one that is
--     can_second                   after the first string, the second can still be added
--     can_plan                     both strings of a plan can be added
--     parses_planned               a call, from its plan and the additions
-- Assumes nothing.
use Rattle.std.specs.Prelude.{ℕ, ◌+◌, ◌-◌, ◌≤◌, ◌≡◌, Bool, true, false, not, List, length, take, drop, Option, Some, None, Result, Ok, Err}
use Rattle.std.proofs.Common.{arith, sym, subst, ◌∙◌}
use Rattle.std.proofs.Math.Path.{refl, ap}
use Rattle.base.specs.Pick.{pick}
use Rattle.base.specs.Refusal.{format_most}
use Rattle.utf8.specs.Encode.{WellFormed}
use Rattle.utf8.specs.CharsLaws.{fine_of_well}
use Rattle.property.specs.Table.{properties_at}
use Rattle.input.specs.Input.{input_check, on_input}
use Rattle.input.specs.InputLaws.{fine_of}
use Rattle.input.specs.declared.Refusal.{Refusal}
use Rattle.pool_rows.specs.Rows.{fit_pool}
use Rattle.pool.specs.Pool.{AddsToFit}
use Rattle.pool.specs.PoolLaws.{adds_fine}
use Rattle.pool_rows.specs.declared.Counts.{Counts}
use Rattle.pool.specs.declared.Added.{Added}
use Rattle.pool.specs.declared.AddError.{AddError}
use Rattle.format.specs.Parse as form
use Rattle.format.specs.Parse.{add_fill}
use Rattle.format.specs.Parse.{PartIn}
use Rattle.format.specs.Read.{add_both}
use Rattle.format.specs.Parse.{add_part, FillIn}
use Rattle.format.specs.ReadLaws.{AddedIn, added_in}
use Rattle.format_options.specs.declared.Part.{Part}
use Rattle.format.specs.declared.FormatRead.{FormatRead}
use Rattle.parse.specs.Call.{Pool, pooled, adding_after, add_to, lent, answer, comes, Parses}
use Rattle.parse.specs.Call as call
use Rattle.parse.specs.CallLaws.{adds_full, adds_after, adds_fit, two_stages, parses_by, parses_refused, parses_unfit, called}
use Rattle.parse.specs.Plan.{read_of, input_of, plan_of, CanAdd, is_adding, fill_string, CanPlan, add_plan, end_by}
use Rattle.parse.specs.declared.Adding.{Adding}
use Rattle.parse.specs.declared.After.{After}
use Rattle.parse.specs.declared.Plan.{Plan}
use Rattle.parse.specs.declared.Parsed.{Parsed}
use Rattle.parse.specs.declared.ParseError.{ParseError}
use Rattle.parse.specs.declared.ParseError.TheVariants as said

-- ---- one fill

not_not : (b c : Bool) → not b ≡ c → b ≡ not c
not_not true c e = ap not e
not_not false c e = ap not e

module _ (format : List ℕ) where
  -- the part of the format string that is lent is the string
  pub string_is : (fill : Option Part) (part : Part) → fill ≡ Some part
      → take (part.place + part.len - part.place) (drop part.place format) ≡ fill_string format fill
  string_is fill part e =
      let n : part.place + part.len - part.place ≡ part.len = omega arith in
      rw (e, n)

  pub part_in : (fill : Option Part) (part : Part) → fill ≡ Some part → FillIn format fill → part.place + part.len ≤ length format
  part_in fill part e v = let p : PartIn format part = subst (FillIn format) e v in p.within

  pub can_in : (p : Pool) (fill : Option Part) → CanAdd format p fill → FillIn format fill
  can_in p (Some part) v = v.0
  can_in p None v = tt

  module _ (a : Adding) (bytes entries : List ℕ) where
    pub can_fit : (fill : Option Part) → CanAdd format (pooled bytes entries a) fill → is_adding fill a ≡ true → fit_pool bytes entries a.counts ≡ true
    can_fit (Some part) v e = v.1
    can_fit None v e = absurd (let z : ◌≡◌ {A = ℕ} 0 1 = cc in omega arith)

    pub adds_nothing : (fill : Option Part) → is_adding fill a ≡ false
        → pooled bytes entries a ≡ add_fill (add_part format add_to) (pooled bytes entries a) fill
    adds_nothing (Some part) e = sym (adds_full (pooled bytes entries a) _ (not_not a.full false e))
    adds_nothing None e = refl

    pub adds_string : (fill : Option Part) → CanAdd format (pooled bytes entries a) fill → is_adding fill a ≡ true
        → {x new_bytes new_entries : List ℕ} {r : Result Added AddError} {b : Adding} → x ≡ fill_string format fill
        → AddsToFit x a.counts bytes entries new_bytes new_entries r → b ≡ adding_after a r
        → pooled new_bytes new_entries b ≡ add_fill (add_part format add_to) (pooled bytes entries a) fill
    adds_string (Some part) v e {x} {new_bytes} {new_entries} {r} y s q =
        let t = subst (λ (z : List ℕ). AddsToFit z a.counts bytes entries new_bytes new_entries r) y s in
        adds_after a _ (not_not a.full true e) (adds_fine _ _ _ _ (fine_of_well 0 _ v.0.well) v.1 t) q
    adds_string None v e y s q = absurd (let z : ◌≡◌ {A = ℕ} 0 1 = cc in omega arith)

  -- after the first string, the second can still be added
  pub can_second : (p : Pool) (first second : Option Part) → CanAdd format p first → CanAdd format p second
      → CanAdd format (add_fill (add_part format add_to) p first) second
  can_second p (Some part) (Some other) v w = (w.0, adds_fit p _ v.1)
  can_second p (Some part) None v w = tt
  can_second p None second v w = w

-- ---- before the pool is written to

-- a format string that `read` has read: it is well formed, this is its reading, and the pool is fit
pub record Reads (format table : List ℕ) (edition : ℕ) (fit : Bool) (r : FormatRead) : Type 0 where
  pub checked : input_check format_most format table edition ≡ Ok tt
  pub well : WellFormed format
  pub is : r ≡ read_of format table edition
  pub is_fit_lem : fit ≡ true

module _ (format table : List ℕ) (edition : ℕ) where
  -- what `input_of` is, by what the checks answer
  abbrev by_input : Result (Unit {0}) Refusal → Bool → Result FormatRead ParseError
  by_input c fit = on_input (λ (x : Refusal). Err (said.Refused x)) c (pick fit (Ok (read_of format table edition)) (Err said.BadState))

  reads_by : {r : FormatRead} (c : Result (Unit {0}) Refusal) (fit : Bool) → input_check format_most format table edition ≡ c → by_input c fit ≡ Ok r → Reads format table edition fit r
  reads_by (Err x) fit w e = absurd (let z : ◌≡◌ {A = ℕ} 0 1 = cc in omega arith)
  reads_by (Ok _) false w e = absurd (let z : ◌≡◌ {A = ℕ} 0 1 = cc in omega arith)
  reads_by (Ok _) true w e = record { checked = w; well = (fine_of format_most format table edition w).well; is = cc; is_fit_lem = refl }

  module _ (fit : Bool) where
    pub is_refused : {x : Refusal} → input_check format_most format table edition ≡ Err x → input_of format table edition fit ≡ Err (said.Refused x)
    unfolding input_of
    is_refused e = rw e

    pub is_unfit : input_check format_most format table edition ≡ Ok tt → fit ≡ false → input_of format table edition fit ≡ Err said.BadState
    unfolding input_of
    is_unfit e f = rw (e, f)

    pub is_read : input_check format_most format table edition ≡ Ok tt → fit ≡ true → {r : FormatRead} → r ≡ read_of format table edition → input_of format table edition fit ≡ Ok r
    unfolding input_of
    is_read e f q = rw (e, f, q)

  pub reads : {fit : Bool} {r : FormatRead} → input_of format table edition fit ≡ Ok r → Reads format table edition fit r
  unfolding input_of
  reads {fit} e = reads_by (input_check format_most format table edition) fit refl e

-- ---- the plan

module _ (format table : List ℕ) (edition : ℕ) (bytes entries : List ℕ) (counts : Counts) where
  abbrev fit : Bool
  fit = fit_pool bytes entries counts

  can_by : (q : Result FormatRead ParseError) → input_of format table edition fit ≡ q → CanPlan format (plan_of q counts) bytes entries
  can_by (Err x) e = record { first = tt; second = tt }
  can_by (Ok r) e =
      let s : Reads format table edition fit r = reads format table edition e in
      let both = subst (λ (x : FormatRead). AddedIn format x.added) (sym s.is) (added_in format (properties_at table) edition s.well) in
      record { first = can r.added.first both.first s.is_fit_lem; second = can r.added.second both.second s.is_fit_lem }
    where
      can : (fill : Option Part) → FillIn format fill → fit ≡ true → CanAdd format (lent bytes entries counts) fill
      can (Some part) v f = (v, f)
      can None v f = tt

  -- what `read` answered, where the pool's fitness was told
  told : {b : Bool} {q : Result FormatRead ParseError} → b ≡ fit → q ≡ input_of format table edition b → q ≡ input_of format table edition fit
  told f e = e ∙ ap (input_of format table edition) f

  pub can_plan : {b : Bool} {q : Result FormatRead ParseError} {plan : Plan} → b ≡ fit → q ≡ input_of format table edition b → plan ≡ plan_of q counts
      → CanPlan format plan bytes entries
  can_plan f e p =
      subst (λ (x : Plan). CanPlan format x bytes entries) (sym (p ∙ ap (λ (x : Result FormatRead ParseError). plan_of x counts) (told f e)))
      (can_by (input_of format table edition fit) refl)

  -- ---- the call

  -- the answer a, with the pool as it was lent
  abbrev Keeps : Result Parsed ParseError → Type 0
  Keeps a = Parses format table edition bytes entries counts bytes entries (record { answer = a; counts = counts })

  -- the same, of what is known before the pool is written to
  abbrev Answered : Result FormatRead ParseError → Type 0
  Answered (Ok r) = Unit {0}
  Answered (Err x) = Keeps (Err x)

  -- what a call comes to that was refused so
  refused : (c : Result (Unit {0}) Refusal) (b : Bool) → input_check format_most format table edition ≡ c → fit ≡ b → (x : ParseError) → by_input format table edition c b ≡ Err x → Keeps (Err x)
  refused (Err x) b w f a e = subst Answered e (parses_refused w)
  refused (Ok _) false w f a e = subst Answered e (parses_unfit w f)
  refused (Ok _) true w f a e = absurd (let z : ◌≡◌ {A = ℕ} 0 1 = cc in omega arith)

  module _ {new_bytes new_entries : List ℕ} {two : Adding} where
    -- the pool is as it was lent
    left : {a : Result Parsed ParseError} → pooled new_bytes new_entries two ≡ lent bytes entries counts → Keeps a
        → Parses format table edition bytes entries counts new_bytes new_entries (record { answer = a; counts = two.counts })
    left {a} v p =
        subst (λ (x : Pool). Parses format table edition bytes entries counts x.bytes x.entries (record { answer = a; counts = x.counts })) (sym v) p

    ended : (q : Result FormatRead ParseError) → input_of format table edition fit ≡ q → pooled new_bytes new_entries two ≡ add_plan format (plan_of q counts) bytes entries
        → Parses format table edition bytes entries counts new_bytes new_entries (end_by q two)
    unfolding input_of
    ended (Err x) e v = left v (refused (input_check format_most format table edition) fit refl refl x e)
    ended (Ok r) e v =
        let s : Reads format table edition fit r = reads format table edition e in
        let whole : call.parsed format table edition (lent bytes entries counts) ≡ record { options = r.options; outcome = r.outcome; pool = pooled new_bytes new_entries two } =
        two_stages format table edition (lent bytes entries counts) s.well
        ∙ ap (λ (x : FormatRead). record {
          options = x.options;
          outcome = x.outcome;
          pool = add_both (add_part format add_to) (lent bytes entries counts) x.added;
        }) (sym s.is)
        ∙ ap (λ (p : Pool). record { options = r.options; outcome = r.outcome; pool = p }) (sym v) in
        parses_by
        {x = comes (end_by (Ok r) two).answer (pooled new_bytes new_entries two)}
        (called format table edition bytes entries counts s.checked s.is_fit_lem ∙ ap (λ (y : form.OnePass Pool). comes (answer y) y.pool) whole) refl refl refl refl

    pub parses_planned : {b : Bool} {q : Result FormatRead ParseError} {plan : Plan} {r : After} → b ≡ fit → q ≡ input_of format table edition b → plan ≡ plan_of q counts
        → pooled new_bytes new_entries two ≡ add_plan format plan bytes entries → r ≡ end_by q two
        → Parses format table edition bytes entries counts new_bytes new_entries r
    parses_planned f e p v a =
        let g = told f e in
        subst (λ (x : After). Parses format table edition bytes entries counts new_bytes new_entries x) (sym (a ∙ ap (λ (x : Result FormatRead ParseError). end_by x two) g))
        (ended (input_of format table edition fit) refl (v ∙ ap (λ (x : Plan). add_plan format x bytes entries) (p ∙ ap (λ (x : Result FormatRead ParseError). plan_of x counts) g)))
