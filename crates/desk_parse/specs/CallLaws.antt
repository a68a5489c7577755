-- Laws of the call.
--     refused_is, bad_state_is, reads_is      what the call comes to
--     settled_unfit       a return where the desks are unfit
--     Follows, follows    the call for a desk follows the parse in the part of the rows that the desk may fill: b bytes and e entries
--     InPart, in_part       what that says of how much is in use after it
--     settled             a return, from that parse
--     parse_fits, parse_keeps, parse_means_same      a parse, refused or not, leaves a fit state, the other desk, and what an index means
--     one_answer          no second answer fits
-- Assumes nothing.
use Rattle.std.specs.Prelude.{ℕ, ◌*◌, ◌<◌, ◌≤◌, ◌≡◌, Bool, List, ◌++◌, length, take, drop, Result, Err, Ok}
use Rattle.std.proofs.Common.{arith, sym, ap, ◌∙◌, take-append-drop}
use Rattle.std.proofs.Math.Path.{refl, subst}
use Rattle.std.proofs.Math.Bool.{true, false}
use Rattle.base.specs.Pick.{pick}
use Rattle.base.specs.Refusal.{format_most}
use Rattle.utf8.specs.Chars.{chars}
use Rattle.property.specs.Table.{properties_at}
use Rattle.input.specs.Input.{input_check, on_input}
use Rattle.input.specs.declared.Refusal.{Refusal}
use Rattle.pool_rows.specs.Rows.{string_at, byte_room, entry_room, fit_pool}
use Rattle.pool_rows.specs.FitLaws as rows
use Rattle.pool_rows.specs.declared.Counts.{Counts}
use Rattle.pool.specs.Pool.{added, bytes_after, entries_after}
use Rattle.pool.specs.declared.Added.{Added}
use Rattle.pool.specs.declared.AddError.{AddError}
use Rattle.pool.specs.declared.AddError.TheVariants as pool
use Rattle.format.specs.Parse.{string_of}
use Rattle.format_options.specs.declared.Part.{Part}
use Rattle.parse.specs.Call as parse
use Rattle.parse.specs.Plan.{input_of}
use Rattle.parse.specs.declared.After.{After}
use Rattle.parse.specs.declared.Parsed.{Parsed}
use Rattle.parse.specs.declared.ParseError.{ParseError}
use Rattle.parse.specs.declared.ParseError.TheVariants as said
use Rattle.desks.specs.Desks.{Shared, owner_of, desk_of, other, fit_desks, Fits, entries_for, bytes_for}
use Rattle.desks.specs.FitLaws.{fit_of}
use Rattle.desks.specs.declared.Which.{Which}
use Rattle.desks.specs.declared.Which.TheVariants.{First, Second}
use Rattle.desk_add.specs.Add.{added_for, shared_after}
use Rattle.desk_add.specs.PartsLaws.{part_fit}
use Rattle.desk_add.specs.AddLaws.{less_entries, less_bytes, fills_pool, charges_within}
use Rattle.desk_parse.specs.Call.{Pool, lent, on_added, add_to, parsed, Comes, comes, ended, call, ParsesFor}
use Rattle.desk_parse.specs.Own.{owned_up, desks_up, unfit_answer}
use Rattle.desk_parse.specs.MirrorLaws.{mirrors}
use Rattle.desk_parse.specs.BesideLaws.{Beside, beside_at_first, same_answer, bytes_then_lem, entries_then_lem, beside_after}
use Rattle.desk_parse.specs.declared.ParsedFor.{ParsedFor}

module _ (format table : List ℕ) (edition : ℕ) (which : Which) (s : Shared) where
  -- ---- the answer, by what is checked first

  pub refused_is : {x : Refusal} → input_check format_most format table edition ≡ Err x
      → call format table edition which s ≡ comes (Err (said.Refused x)) s
  unfolding call
  refused_is e = rw e

  module _ (e : input_check format_most format table edition ≡ Ok tt) where
    pub bad_state_is : fit_desks s ≡ false → call format table edition which s ≡ comes (Err said.BadState) s
    unfolding call
    bad_state_is f = rw (e, f)

    pub reads_is : fit_desks s ≡ true → call format table edition which s ≡ ended (parsed format table edition which s)
    unfolding call
    reads_is f = rw (e, f)

  -- ---- where the desks are unfit

  unfit_is : fit_desks s ≡ false → call format table edition which s ≡ comes (Err (unfit_answer (input_of format table edition false))) s
  unfolding call input_of
  unfit_is e = rw e (go (input_check format_most format table edition))
    where
      go : (c : Result (Unit {0}) Refusal) → on_input (λ (x : Refusal). comes (Err (said.Refused x)) s) c (comes (Err said.BadState) s)
          ≡ comes (Err (unfit_answer (on_input (λ (x : Refusal). Err (said.Refused x)) c (Err said.BadState)))) s
      go (Ok _) = refl
      go (Err x) = refl

  pub settled_unfit : fit_desks s ≡ false → (r : ParsedFor) → r.answer ≡ Err (unfit_answer (input_of format table edition false)) → r.counts ≡ s.counts
      → r.desks ≡ s.desks → ParsesFor format table edition which s s.bytes s.entries s.owners r
  settled_unfit e r a n d =
      let u = unfit_is e in
      record {
        answer_is = a ∙ sym (ap (λ (k : Comes). k.answer) u);
        counts_left = n ∙ sym (ap (λ (k : Comes). k.state.counts) u);
        desks_left = d ∙ sym (ap (λ (k : Comes). k.state.desks) u);
        bytes_left = sym (ap (λ (k : Comes). k.state.bytes) u);
        entries_left = sym (ap (λ (k : Comes). k.state.entries) u);
        owners_left = sym (ap (λ (k : Comes). k.state.owners) u);
      }

  -- ---- where they are fit

  module _ (b e : ℕ) (ok : fit_desks s ≡ true) (eb : b ≡ bytes_for (byte_room s.bytes) which s.desks)
      (ee : e ≡ entries_for (entry_room s.entries) which s.desks) where
    abbrev part : parse.Pool
    part = parse.lent (take b s.bytes) (take (2 * e) s.entries) s.counts

    -- the pools in the course of the two parses
    record Pooled (p : Pool) (q : parse.Pool) : Type 0 where
      pub beside : Beside which s b e p.state
      pub bytes_are : q.bytes ≡ take b p.state.bytes
      pub entries_are : q.entries ≡ take (2 * e) p.state.entries
      pub counts_are : q.counts ≡ p.state.counts
      pub index_is : p.index ≡ q.index
      pub full_is : p.full ≡ q.full

    at_first : Pooled (lent s) part
    at_first =
        record {
          beside = beside_at_first which s b e ok eb ee;
          bytes_are = refl;
          entries_are = refl;
          counts_are = refl;
          index_is = refl;
          full_is = refl;
        }

    module _ (p : Pool) (q : parse.Pool) (n : Pooled p q) (x : List ℕ) where
      abbrev t : Shared
      t = p.state

      abbrev answered : Result Added AddError
      answered = added x (take b t.bytes) (take (2 * e) t.entries) t.counts

      same : added x q.bytes q.entries q.counts ≡ answered
      same = rw (n.bytes_are, n.entries_are, n.counts_are)

      by_answer : (r : Result Added AddError) → answered ≡ r → Pooled (on_added which p x r) (parse.on_added q x r)
      by_answer (Ok said) a =
          record {
            beside = subst (λ (r : Result Added AddError). Beside which s b e (shared_after which t x r)) a (beside_after which s b e t n.beside x);
            bytes_are =
                rw (n.counts_are, n.bytes_are)
                (subst (λ (r : Result Added AddError). bytes_after x t.counts r (take b t.bytes) ≡ take b (bytes_after x t.counts r t.bytes)) a
                (bytes_then_lem which s b e t n.beside x));
            entries_are =
                rw (n.counts_are, n.entries_are)
                (subst
                (λ (r : Result Added AddError). entries_after x t.counts r (take (2 * e) t.entries) ≡ take (2 * e) (entries_after x t.counts r t.entries)) a
                (entries_then_lem which s b e t n.beside x));
            counts_are = refl;
            index_is = refl;
            full_is = refl;
          }
      by_answer (Err pool.PoolFull) a =
          record {
            beside = n.beside;
            bytes_are = n.bytes_are;
            entries_are = n.entries_are;
            counts_are = n.counts_are;
            index_is = n.index_is;
            full_is = refl;
          }
      by_answer (Err (pool.BadUtf8 i)) a = n
      by_answer (Err (pool.CutUtf8 i)) a = n
      by_answer (Err pool.BadState) a = n

      step : Pooled (add_to which p x) (parse.add_to q x)
      unfolding add_to parse.add_to
      step =
          subst
          (λ (f : Bool). Pooled (pick p.full p (on_added which p x (added_for which t x)))
          (pick f q (parse.on_added q x (added x q.bytes q.entries q.counts))))
          n.full_is
          (rw (same, ← same_answer which s b e t n.beside x) (go p.full))
        where
          go : (f : Bool) → Pooled (pick f p (on_added which p x answered)) (pick f q (parse.on_added q x answered))
          go true = n
          go false = by_answer answered refl

    pub record Follows (c : Comes) (d : parse.Comes) : Type 0 where
      pub answer_is : c.answer ≡ d.answer
      pub beside : Beside which s b e c.state
      pub bytes_are : d.pool.bytes ≡ take b c.state.bytes
      pub entries_are : d.pool.entries ≡ take (2 * e) c.state.entries
      pub counts_are : d.pool.counts ≡ c.state.counts

    following : (a : Result Parsed ParseError) {c : Result Parsed ParseError} {p : Pool} {q : parse.Pool} → c ≡ a → Pooled p q → Follows (comes c p.state) (parse.comes a q)
    following a f n =
        record { answer_is = f; beside = n.beside; bytes_are = n.bytes_are; entries_are = n.entries_are; counts_are = n.counts_are }

    -- the part is fit too
    part_ok : fit_pool (take b s.bytes) (take (2 * e) s.entries) s.counts ≡ true
    part_ok =
        let full = fills_pool s which (fit_of s ok) in
        part_fit s.bytes s.entries s.counts e b (omega (arith, less_entries s which)) (omega (arith, less_bytes s which))
        (record { entries_fit = omega (arith, full.entries_fit); bytes_fit = omega (arith, full.bytes_fit); runs = full.runs })

    read_on : Follows (ended (parsed format table edition which s))
        (parse.comes (parse.answer (parse.parsed format table edition part)) (parse.parsed format table edition part).pool)
    unfolding parsed parse.parsed
    read_on =
        let m =
        mirrors Pooled (λ (p : Pool) (x : Part). add_to which p (string_of format x)) (λ (q : parse.Pool) (x : Part). parse.add_to q (string_of format x))
        (λ p q x n. step p q n (string_of format x)) (properties_at table) edition (lent s) part (chars format) at_first in
        let n = m.pools in
        following _ (rw (m.options, m.outcome, n.index_is, n.full_is)) n

    pub follows : Follows (call format table edition which s) (parse.call format table edition part)
    unfolding call parse.call
    follows = go (input_check format_most format table edition) refl
      where
        go : (c : Result (Unit {0}) Refusal) → input_check format_most format table edition ≡ c
            → Follows (call format table edition which s) (parse.call format table edition part)
        go (Err x) h = rw h (following (Err (said.Refused x)) refl at_first)
        go (Ok _) h = rw (h, ok, part_ok) read_on

    -- how much is in use after the parse in the part, of which this is said
    module _ (new_bytes new_entries : List ℕ) (after : After)
        (p : parse.Parses format table edition (take b s.bytes) (take (2 * e) s.entries) s.counts new_bytes new_entries after) where
      abbrev then : Shared
      then = (call format table edition which s).state

      counts_are : after.counts ≡ then.counts
      counts_are = p.counts_left ∙ follows.counts_are

      pub record InPart : Type 0 where
        pub more_entries : s.counts.entries ≤ after.counts.entries
        pub more_bytes : s.counts.bytes ≤ after.counts.bytes
        pub owned : after.counts.entries ≤ length s.owners
        pub few_entries : (desk_of which s.desks).charged.entries ≤ s.counts.entries
        pub few_bytes : (desk_of which s.desks).charged.bytes ≤ s.counts.bytes

      pub in_part : InPart
      in_part =
          let n = follows.beside in
          let f = fit_of then n.fits in
          let in_use = rows.fit_of then.entries then.counts (entry_room then.entries) (byte_room then.bytes) f.pool_fit in
          let few = charges_within s which (fit_of s ok) which in
          record {
            more_entries = rw counts_are n.more_entries;
            more_bytes = rw counts_are n.more_bytes;
            owned = rw counts_are (omega (arith, in_use.entries_fit, f.owned, n.owners_long));
            few_entries = few.0;
            few_bytes = few.1;
          }

      pub settled : (newOwners : List ℕ) (r : ParsedFor) → r.answer ≡ after.answer → r.counts ≡ after.counts
          → r.desks ≡ desks_up which s.desks s.counts after.counts
          → newOwners ≡ owned_up (owner_of which) s.owners s.counts.entries after.counts.entries
          → ParsesFor format table edition which s (new_bytes ++ drop b s.bytes) (new_entries ++ drop (2 * e) s.entries) newOwners r
      settled newOwners r a c d o =
          let f = follows in
          let n = f.beside in
          record {
            answer_is = a ∙ p.answer_is ∙ sym f.answer_is;
            counts_left = c ∙ counts_are;
            desks_left = d ∙ ap (desks_up which s.desks s.counts) counts_are ∙ sym n.desks_are;
            bytes_left =
                ap (λ (l : List ℕ). l ++ drop b s.bytes) (p.bytes_left ∙ f.bytes_are)
                ∙ ap (λ (l : List ℕ). take b then.bytes ++ l) (sym n.bytes_behind)
                ∙ take-append-drop b then.bytes;
            entries_left =
                ap (λ (l : List ℕ). l ++ drop (2 * e) s.entries) (p.entries_left ∙ f.entries_are)
                ∙ ap (λ (l : List ℕ). take (2 * e) then.entries ++ l) (sym n.entries_behind)
                ∙ take-append-drop (2 * e) then.entries;
            owners_left =
                o
                ∙ ap (λ (k : Counts). owned_up (owner_of which) s.owners s.counts.entries k.entries) counts_are
                ∙ sym n.owners_are;
          }

  -- ---- what a parse leaves

  module _ (fits : Fits s) where
    leaves : Beside which s (bytes_for (byte_room s.bytes) which s.desks) (entries_for (entry_room s.entries) which s.desks)
        (call format table edition which s).state
    leaves = (follows _ _ fits refl refl).beside

    pub parse_fits : Fits (call format table edition which s).state
    parse_fits = leaves.fits

    pub parse_keeps : desk_of (other which) (call format table edition which s).state.desks ≡ desk_of (other which) s.desks
    parse_keeps = ap (desk_of (other which)) leaves.desks_are ∙ go which
      where
        go : (w : Which) → desk_of (other w) (desks_up w s.desks s.counts (call format table edition which s).state.counts) ≡ desk_of (other w) s.desks
        go First = refl
        go Second = refl

    pub parse_means_same : (k : ℕ) → k < s.counts.entries
        → string_at (call format table edition which s).state.bytes (call format table edition which s).state.entries k
        ≡ string_at s.bytes s.entries k
    parse_means_same = leaves.means_same

pub one_answer : {format table new_bytes new_entries newOwners newBytes' newEntries' newOwners' : List ℕ} {edition : ℕ} {which : Which} {s : Shared}
    {r q : ParsedFor} → ParsesFor format table edition which s new_bytes new_entries newOwners r
    → ParsesFor format table edition which s newBytes' newEntries' newOwners' q
    → (r.answer ≡ q.answer) × (r.counts ≡ q.counts) × (r.desks ≡ q.desks) × (new_bytes ≡ newBytes') × (new_entries ≡ newEntries')
    × (newOwners ≡ newOwners')
one_answer v w = (
  v.answer_is ∙ sym w.answer_is,
  v.counts_left ∙ sym w.counts_left,
  v.desks_left ∙ sym w.desks_left,
  v.bytes_left ∙ sym w.bytes_left,
  v.entries_left ∙ sym w.entries_left,
  v.owners_left ∙ sym w.owners_left,
)
