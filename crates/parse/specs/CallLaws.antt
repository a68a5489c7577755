-- Laws of the call.
--     adds_full, adds_after   an addition to the pool of a parse: none where one found no room; else by what `add_string` answers
--     adds_fit                the pool stays fit
--     again                   adding a string twice in a row is adding it once
--     two_stages              the one pass is the reading without a pool, and then its two strings added
--     parses_by               the contract, from what the call comes to
--     parses_refused          a call that refusal 1, 2 or 3 meets
--     parses_unfit            a call that refusal 8 meets
--     called                  what a call comes to that none of them meets
--     one_answer              no second answer, counts and rows fit
-- Assumes nothing.
use Rattle.std.specs.Prelude.{ℕ, ◌≡◌, Bool, true, false, List, Option, Some, Result, Err, Ok}
use Rattle.std.proofs.Common.{arith, sym, ap, ◌∙◌, ne_eqb}
use Rattle.std.proofs.Math.Path.{refl}
use Rattle.base.specs.PickLaws.{by_test}
use Rattle.base.specs.Refusal.{format_most}
use Rattle.utf8.specs.Encode.{WellFormed}
use Rattle.property.specs.Table.{properties_at}
use Rattle.input.specs.Input.{input_check}
use Rattle.input.specs.declared.Refusal.{Refusal}
use Rattle.pool_rows.specs.Rows.{fit_pool}
use Rattle.pool.specs.Pool.{indexed, added, is_new, bytes_after, entries_after, AddsString}
use Rattle.pool.specs.PoolLaws.{old_bytes, old_entries, grows, added_again}
use Rattle.pool_rows.specs.declared.Counts.{Counts}
use Rattle.pool.specs.declared.Added.{Added}
use Rattle.pool.specs.declared.AddError.{AddError}
use Rattle.pool.specs.declared.AddError.TheVariants as pool
use Rattle.format.specs.Read.{add_both}
use Rattle.format.specs.Parse.{add_part}
use Rattle.format.specs.ReadLaws.{parse_two_stages}
use Rattle.parse.specs.Call.{Pool, pooled, adding_after, on_added, add_to, lent, answer, parsed, Comes, comes, call, Parses}
use Rattle.parse.specs.Plan.{read_of}
use Rattle.parse.specs.declared.Adding.{Adding}
use Rattle.parse.specs.declared.After.{After}
use Rattle.parse.specs.declared.Parsed.{Parsed}
use Rattle.parse.specs.declared.ParseError.{ParseError}
use Rattle.parse.specs.declared.ParseError.TheVariants.{Refused, BadState}

-- ---- one addition

-- a pool by its parts
abbrev made : List ℕ → List ℕ → Counts → Option ℕ → Bool → Pool
made bytes entries counts index full = record { bytes = bytes; entries = entries; counts = counts; index = index; full = full }

module _ (p : Pool) (x : List ℕ) where
  pub adds_full : p.full ≡ true → add_to p x ≡ p
  unfolding add_to
  adds_full e = rw e

  adds_by : p.full ≡ false → {a : Result Added AddError} → added x p.bytes p.entries p.counts ≡ a → add_to p x ≡ on_added p x a
  unfolding add_to
  adds_by f e = rw (f, e)

  module _ (f : p.full ≡ false) {new_bytes new_entries : List ℕ} {r : Result Added AddError}
      (a : AddsString x p.counts p.bytes p.entries new_bytes new_entries r) where
    told : {q : Result Added AddError} → r ≡ q → added x p.bytes p.entries p.counts ≡ q
    told e = sym a.answer ∙ e

    bytes_by : {q : Result Added AddError} → r ≡ q → new_bytes ≡ bytes_after x p.counts q p.bytes
    bytes_by e = a.bytes_left ∙ ap (λ (y : Result Added AddError). bytes_after x p.counts y p.bytes) (told e)

    entries_by : {q : Result Added AddError} → r ≡ q → new_entries ≡ entries_after x p.counts q p.entries
    entries_by e = a.entries_left ∙ ap (λ (y : Result Added AddError). entries_after x p.counts y p.entries) (told e)

    adds_index : {i : ℕ} {counts : Counts} → r ≡ indexed i counts → made new_bytes new_entries counts (Some i) false ≡ add_to p x
    adds_index {i} {counts} e =
        ap (λ (b : List ℕ). made b new_entries counts (Some i) false) (bytes_by e)
        ∙ ap (λ (n : List ℕ). made (bytes_after x p.counts (indexed i counts) p.bytes) n counts (Some i) false) (entries_by e)
        ∙ sym (adds_by f (told e))

    -- a refusal writes nothing
    kept : (full : Bool) {q : Result Added AddError} → r ≡ q → ((l : List ℕ) → bytes_after x p.counts q l ≡ l) → ((l : List ℕ) → entries_after x p.counts q l ≡ l)
        → made new_bytes new_entries p.counts p.index full ≡ made p.bytes p.entries p.counts p.index full
    kept full e b n =
        ap (λ (l : List ℕ). made l new_entries p.counts p.index full) (bytes_by e ∙ b p.bytes)
        ∙ ap (λ (l : List ℕ). made p.bytes l p.counts p.index full) (entries_by e ∙ n p.entries)

    adds_none : r ≡ Err pool.PoolFull → made new_bytes new_entries p.counts p.index true ≡ add_to p x
    adds_none e =
        kept true e (old_bytes x p.counts (Err pool.PoolFull) refl) (old_entries x p.counts (Err pool.PoolFull) refl) ∙ sym (adds_by f (told e))

    -- a refusal that leaves all as it is
    adds_nothing : (q : Result Added AddError) → is_new p.counts q ≡ false → on_added p x q ≡ p → r ≡ q
        → made new_bytes new_entries p.counts p.index p.full ≡ add_to p x
    adds_nothing q n o e = kept p.full e (old_bytes x p.counts q n) (old_entries x p.counts q n) ∙ sym (adds_by f (told e) ∙ o)

-- the same, by what the code makes of the answer
adds_after_by : (a : Adding) (x : List ℕ) {bytes entries new_bytes new_entries : List ℕ} (r q : Result Added AddError) → r ≡ q → a.full ≡ false
    → AddsString x a.counts bytes entries new_bytes new_entries r
    → pooled new_bytes new_entries (adding_after a q) ≡ add_to (pooled bytes entries a) x
adds_after_by a x {bytes} {entries} r (Ok q) e f s = adds_index (pooled bytes entries a) x f s {i = q.index} {counts = q.counts} e
adds_after_by a x {bytes} {entries} r (Err pool.PoolFull) e f s = adds_none (pooled bytes entries a) x f s e
adds_after_by a x {bytes} {entries} r (Err (pool.BadUtf8 n)) e f s = adds_nothing (pooled bytes entries a) x f s (Err (pool.BadUtf8 n)) refl refl e
adds_after_by a x {bytes} {entries} r (Err (pool.CutUtf8 n)) e f s = adds_nothing (pooled bytes entries a) x f s (Err (pool.CutUtf8 n)) refl refl e
adds_after_by a x {bytes} {entries} r (Err pool.BadState) e f s = adds_nothing (pooled bytes entries a) x f s (Err pool.BadState) refl refl e

pub adds_after : (a : Adding) (x : List ℕ) {bytes entries new_bytes new_entries : List ℕ} {r : Result Added AddError} {b : Adding} → a.full ≡ false
    → AddsString x a.counts bytes entries new_bytes new_entries r → b ≡ adding_after a r
    → pooled new_bytes new_entries b ≡ add_to (pooled bytes entries a) x
adds_after a x {bytes} {entries} {new_bytes} {new_entries} {r} f s e =
    ap (λ (y : Adding). pooled new_bytes new_entries y) e ∙ adds_after_by a x r r refl f s

-- ---- a fit pool stays fit

module _ (p : Pool) (x : List ℕ) (f : fit_pool p.bytes p.entries p.counts ≡ true) where
  -- the addition that answered so
  abbrev FitAfter : Pool → Type 0
  FitAfter q = fit_pool q.bytes q.entries q.counts ≡ true

  fit_by_lem : (a : Result Added AddError) → added x p.bytes p.entries p.counts ≡ a → FitAfter (on_added p x a)
  fit_by_lem (Ok q) e =
      (grows x p.bytes p.entries p.counts _ _ (Ok q)
      (record {
        answer = sym e;
        bytes_left = ap (λ (y : Result Added AddError). bytes_after x p.counts y p.bytes) (sym e);
        entries_left = ap (λ (y : Result Added AddError). entries_after x p.counts y p.entries) (sym e);
      }) q.index q.counts refl).fit
  fit_by_lem (Err pool.PoolFull) e = f
  fit_by_lem (Err (pool.BadUtf8 n)) e = f
  fit_by_lem (Err (pool.CutUtf8 n)) e = f
  fit_by_lem (Err pool.BadState) e = f

  pub adds_fit : FitAfter (add_to p x)
  unfolding add_to
  adds_fit = by_test FitAfter p.full (λ _. f) (λ _. fit_by_lem (added x p.bytes p.entries p.counts) refl)

-- ---- twice in a row

module _ (p : Pool) (x : List ℕ) where
  after_index : (i : ℕ) (counts : Counts) → added x p.bytes p.entries p.counts ≡ indexed i counts
      → add_to (on_added p x (indexed i counts)) x ≡ on_added p x (indexed i counts)
  after_index i counts e =
      let q : Pool = on_added p x (indexed i counts) in
      let s : AddsString x p.counts p.bytes p.entries q.bytes q.entries (indexed i counts) =
      record {
        answer = sym e;
        bytes_left = ap (λ (y : Result Added AddError). bytes_after x p.counts y p.bytes) (sym e);
        entries_left = ap (λ (y : Result Added AddError). entries_after x p.counts y p.entries) (sym e);
      } in
      let t = added_again x p.bytes p.entries p.counts q.bytes q.entries i counts s in
      let n = ne_eqb i counts.entries (λ z. omega (arith, t.1)) in
      adds_by q x refl t.0
      ∙ ap (λ (b : List ℕ). made b (entries_after x counts (indexed i counts) q.entries) counts (Some i) false)
      (old_bytes x counts (indexed i counts) n q.bytes)
      ∙ ap (λ (l : List ℕ). made q.bytes l counts (Some i) false) (old_entries x counts (indexed i counts) n q.entries)

  by_answer : p.full ≡ false → (a : Result Added AddError) → added x p.bytes p.entries p.counts ≡ a → add_to (add_to p x) x ≡ add_to p x
  by_answer f (Ok q) e =
      ap (λ (q : Pool). add_to q x) (adds_by p x f e) ∙ after_index q.index q.counts e ∙ sym (adds_by p x f e)
  by_answer f (Err pool.PoolFull) e =
      ap (λ (q : Pool). add_to q x) (adds_by p x f e) ∙ adds_full (on_added p x (Err pool.PoolFull)) x refl ∙ sym (adds_by p x f e)
  by_answer f (Err (pool.BadUtf8 n)) e = ap (λ (q : Pool). add_to q x) (adds_by p x f e)
  by_answer f (Err (pool.CutUtf8 n)) e = ap (λ (q : Pool). add_to q x) (adds_by p x f e)
  by_answer f (Err pool.BadState) e = ap (λ (q : Pool). add_to q x) (adds_by p x f e)

  by_full : (b : Bool) → p.full ≡ b → add_to (add_to p x) x ≡ add_to p x
  by_full true f = ap (λ (q : Pool). add_to q x) (adds_full p x f)
  by_full false f = by_answer f (added x p.bytes p.entries p.counts) refl

  pub again : add_to (add_to p x) x ≡ add_to p x
  again = by_full p.full refl

-- ---- the two stages

pub two_stages : (format table : List ℕ) (edition : ℕ) (p : Pool) → WellFormed format
    → parsed format table edition p
    ≡ record {
      options = (read_of format table edition).options;
      outcome = (read_of format table edition).outcome;
      pool = add_both (add_part format add_to) p (read_of format table edition).added;
    }
unfolding parsed
two_stages format table edition p w = parse_two_stages format add_to again (properties_at table) edition p w

-- ---- the call

module _ {format table : List ℕ} {edition : ℕ} {bytes entries : List ℕ} {counts : Counts} where
  -- from what the call comes to
  pub parses_by : {x : Comes} {new_bytes new_entries : List ℕ} {r : After} → call format table edition (lent bytes entries counts) ≡ x → r.answer ≡ x.answer
      → r.counts ≡ x.pool.counts → new_bytes ≡ x.pool.bytes → new_entries ≡ x.pool.entries
      → Parses format table edition bytes entries counts new_bytes new_entries r
  parses_by e a c b n =
      record {
        answer_is = a ∙ ap (λ (y : Comes). y.answer) (sym e);
        counts_left = c ∙ ap (λ (y : Comes). y.pool.counts) (sym e);
        bytes_left = b ∙ ap (λ (y : Comes). y.pool.bytes) (sym e);
        entries_left = n ∙ ap (λ (y : Comes). y.pool.entries) (sym e);
      }

  -- refusals 1, 2, 3
  pub parses_refused : {x : Refusal} → input_check format_most format table edition ≡ Err x
      → Parses format table edition bytes entries counts bytes entries (record { answer = Err (Refused x); counts = counts })
  unfolding call
  parses_refused {x} e =
      let c : call format table edition (lent bytes entries counts) ≡ comes (Err (Refused x)) (lent bytes entries counts) = rw e in
      parses_by {x = comes (Err (Refused x)) (lent bytes entries counts)} c refl refl refl refl

  module _ (e : input_check format_most format table edition ≡ Ok tt) where
    -- refusal 8
    pub parses_unfit : fit_pool bytes entries counts ≡ false
        → Parses format table edition bytes entries counts bytes entries (record { answer = Err BadState; counts = counts })
    unfolding call
    parses_unfit f =
        let c : call format table edition (lent bytes entries counts) ≡ comes (Err BadState) (lent bytes entries counts) = rw (e, f) in
        parses_by {x = comes (Err BadState) (lent bytes entries counts)} c refl refl refl refl

-- none of them
pub called : (format table : List ℕ) (edition : ℕ) (bytes entries : List ℕ) (counts : Counts) → input_check format_most format table edition ≡ Ok tt → fit_pool bytes entries counts ≡ true
    → call format table edition (lent bytes entries counts)
    ≡ comes (answer (parsed format table edition (lent bytes entries counts))) (parsed format table edition (lent bytes entries counts)).pool
unfolding call
called format table edition bytes entries counts e f = rw (e, f)

-- no second answer, counts and rows fit
pub one_answer : {format table : List ℕ} {edition : ℕ} {bytes entries new_bytes new_entries newBytes' newEntries' : List ℕ} {counts : Counts} {r q : After}
    → Parses format table edition bytes entries counts new_bytes new_entries r → Parses format table edition bytes entries counts newBytes' newEntries' q
    → (r ≡ q) × (new_bytes ≡ newBytes') × (new_entries ≡ newEntries')
one_answer {r = r} {q = q} a b = (
  ap (λ (x : Result Parsed ParseError). record { answer = x; counts = r.counts }) (a.answer_is ∙ sym b.answer_is)
      ∙ ap (λ (c : Counts). record { answer = q.answer; counts = c }) (a.counts_left ∙ sym b.counts_left),
  a.bytes_left ∙ sym b.bytes_left,
  a.entries_left ∙ sym b.entries_left,
)
