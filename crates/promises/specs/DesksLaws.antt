-- The promises of `Desks`, proved, and that no second answer, no second rows and no second desks fit.
--     desk_add_string_promise, desk_add_string_has_one_answer
--     desk_parse_promise, desk_parse_has_one_answer
--     guarantee           whatever the other desk does, a desk gets its guaranteed room
--     desk_alone          one desk alone is answered as the pool alone answers, so that demand 2's indices hold for it
-- Assumes nothing.
use Rattle.std.specs.Prelude.{ℕ, ◌<◌, ◌≤◌, ◌≡◌, refl, false, List, [], ◌∷◌, length, Err, Result, Ok}
use Rattle.std.proofs.Common.{arith, sym, ap, subst, ◌∙◌, lt-ltb, le-ltb, eq-eqb, ne_eqb}
use Rattle.base.specs.Refusal.{none}
use Rattle.utf8.specs.CharsLaws.{fine_of_well}
use Rattle.utf8.specs.MeaningLaws.{is_check}
use Rattle.utf8.specs.declared.Utf8Error.TheVariants as utf8
use Rattle.pool_rows.specs.Rows.{strings_of, index_of}
use Rattle.pool_rows.specs.declared.Counts.{Counts}
use Rattle.pool.specs.Pool.{one_more, indexed, added, is_new, number_of, added_index, counts_after}
use Rattle.pool.specs.PoolLaws.{old_bytes, old_entries, new_bytes_lem, new_entries_lem}
use Rattle.pool.specs.declared.Added.{Added}
use Rattle.pool.specs.declared.AddError.{AddError}
use Rattle.pool.specs.declared.AddError.TheVariants.{BadState, PoolFull}
use Rattle.parse.specs.declared.ParseError.TheVariants as said
use Rattle.desks.specs.Desks.{Shared, shared, desk_of, other, fit_desks, Fits}
use Rattle.desks.specs.FitLaws.{fit_of, fit_by_lem}
use Rattle.desks.specs.declared.Which.{Which}
use Rattle.desks.specs.declared.Which.TheVariants.{First, Second}
use Rattle.desk_add.specs.Add.{free_entries, free_bytes, in_words, added_for, shared_after, add_for, AddsFor}
use Rattle.desk_add.specs.AddLaws as add
use Rattle.desk_add.specs.PromiseLaws as desk
use Rattle.desk_add.specs.declared.AddedFor.{AddedFor}
use Rattle.desk_parse.specs.Call.{Comes, comes, ended, parsed, call, ParsesFor}
use Rattle.desk_parse.specs.CallLaws as parse
use Rattle.desk_parse.specs.declared.ParsedFor.{ParsedFor}
use Rattle.promises.specs.Pool.{added_says}
use Rattle.promises.specs.PoolLaws.{first_is, none_is}
use Rattle.promises.specs.Desks.{TakenFor, AbsentIn, Stays, DeskAddPromise, DeskParsePromise, Act, Adds, Parses, acted, act_all, Guarantee}

-- ---- an addition for a desk

module _ (string : List ℕ) (which : Which) (s : Shared) where
  abbrev found : ℕ
  found = index_of string (strings_of s.bytes s.entries s.counts.entries)

  -- the answer for a string that is well formed, in a fit state
  taken : TakenFor string s → added_for which s string ≡ in_words (length string) found s.counts (free_entries which s) (free_bytes which s)
  taken t = desk.answer_in_words s (fit_of s t.fit) which string ∙ rw (fine_of_well 0 string t.well)

  is_there : TakenFor string s → found < s.counts.entries → added_for which s string ≡ indexed found s.counts
  is_there t h = taken t ∙ rw (lt-ltb found s.counts.entries h)

  module _ (t : TakenFor string s) (a : AbsentIn string s) where
    absent : s.counts.entries ≤ found
    absent = none_is string s.bytes s.entries s.counts a

    no_entry : free_entries which s < 1 → added_for which s string ≡ Err PoolFull
    no_entry h = taken t ∙ rw (le-ltb found s.counts.entries absent, lt-ltb (free_entries which s) 1 h)

    few_bytes : 1 ≤ free_entries which s → free_bytes which s < length string → added_for which s string ≡ Err PoolFull
    few_bytes h k =
        taken t
        ∙ rw (le-ltb found s.counts.entries absent, le-ltb (free_entries which s) 1 h, lt-ltb (free_bytes which s) (length string) k)

    new_one : 1 ≤ free_entries which s → length string ≤ free_bytes which s
        → added_for which s string ≡ indexed s.counts.entries (one_more s.counts (length string))
    new_one h k =
        taken t
        ∙ rw (le-ltb found s.counts.entries absent, le-ltb (free_entries which s) 1 h, le-ltb (free_bytes which s) (length string) k)

  -- after an answer that hands out no new index nothing is changed
  unchanged : (r : Result Added AddError) → is_new s.counts r ≡ false → counts_after s.counts r ≡ s.counts → Stays s (shared_after which s string r)
  unchanged r e c =
      record {
        bytes = old_bytes string s.counts r e s.bytes;
        entries = old_entries string s.counts r e s.entries;
        owners = rw e;
        counts = c;
        desks = rw e;
      }

  refused : (r : Result Added AddError) → (number_of r ≡ none → ⊥) → Stays s (shared_after which s string r)
  refused (Ok added) h = absurd (h refl)
  refused (Err e) h = unchanged (Err e) refl refl

  unfit_fits : fit_desks s ≡ false → Stays s (add_for which s string)
  unfit_fits e =
      subst (λ (r : Result Added AddError). Stays s (shared_after which s string r)) (sym (add.unfit s which string e))
      (unchanged _ refl refl)

  pub desk_add_string_promise : {new_bytes new_entries newOwners : List ℕ} {r : AddedFor} → AddsFor string which s new_bytes new_entries newOwners r
      → DeskAddPromise string which s (shared new_bytes new_entries newOwners r.counts r.desks) r
  desk_add_string_promise {new_bytes} {new_entries} {newOwners} {r} p =
      subst (λ (t : Shared). DeskAddPromise string which s t r)
      (λ i. shared (sym p.bytes_left i) (sym p.entries_left i) (sym p.owners_left i) (sym p.counts_left i) (sym p.desks_left i))
      promised
    where
      says_so : {a : Result Added AddError} → added_for which s string ≡ a → added_says r.added ≡ added_says a
      says_so e = ap added_says (p.answer ∙ e)

      at_index : (i : ℕ) (after : Counts) → added_for which s string ≡ indexed i after → added_index r.added ≡ i
      at_index i after e = ap added_index (p.answer ∙ e)

      promised : DeskAddPromise string which s (add_for which s string) r
      promised =
          record {
            bad_utf8_lem = λ n w. says_so (add.wrong s which string n (is_check string (Err (utf8.BadAt n)) w));
            cut_utf8_lem = λ n w. says_so (add.cut s which string n (is_check string (Err (utf8.CutAt n)) w));
            bad_state_lem = λ w e. says_so {a = Err BadState} (add.unfit s which string e ∙ rw (fine_of_well 0 string w));
            no_entry = λ t a h. says_so (no_entry t a h);
            few_bytes = λ t a h k. says_so (few_bytes t a h k);
            there =
                λ t k d before.
                let i = first_is string s.bytes s.entries s.counts k d before in
                let e = is_there t (omega (arith, d.in_use)) ∙ ap (λ (j : ℕ). indexed j s.counts) i in
                let old = ne_eqb k s.counts.entries (λ z. omega (arith, d.in_use)) in (
                  says_so e,
                  at_index k s.counts e,
                  subst (λ (a : Result Added AddError). Stays s (shared_after which s string a)) (sym e) (unchanged (indexed k s.counts) old refl),
                );
            new =
                λ t a h k.
                let e = new_one t a h k in
                let fresh = ap (is_new s.counts) e ∙ eq-eqb s.counts.entries s.counts.entries refl in (
                  says_so e,
                  at_index _ _ e,
                  ap (counts_after s.counts) e,
                  new_bytes_lem string s.counts (added_for which s string) fresh s.bytes,
                  new_entries_lem string s.counts (added_for which s string) fresh s.entries,
                  rw fresh,
                  rw fresh,
                );
            kept = λ h. refused (added_for which s string) (λ n. h (ap number_of p.answer ∙ n));
            fits = λ f. fit_by_lem (add_for which s string) (desk.fit_kept which s string (fit_of s f));
            others = desk.other_kept which s string;
            means_same = λ f. desk.means_same which s string (fit_of s f);
          }

pub desk_add_string_has_one_answer : {string new_bytes new_entries newOwners newBytes' newEntries' newOwners' : List ℕ} {which : Which} {s : Shared}
    {r q : AddedFor} → AddsFor string which s new_bytes new_entries newOwners r → AddsFor string which s newBytes' newEntries' newOwners' q
    → (r.added ≡ q.added) × (r.counts ≡ q.counts) × (r.desks ≡ q.desks) × (new_bytes ≡ newBytes') × (new_entries ≡ newEntries')
    × (newOwners ≡ newOwners')
desk_add_string_has_one_answer v w = add.one_answer v w

-- ---- a parse for a desk

pub desk_parse_promise : (format table : List ℕ) (edition : ℕ) (which : Which) (s : Shared) {new_bytes new_entries newOwners : List ℕ} {r : ParsedFor}
    → ParsesFor format table edition which s new_bytes new_entries newOwners r
    → DeskParsePromise format table edition which s (shared new_bytes new_entries newOwners r.counts r.desks) r
desk_parse_promise format table edition which s {new_bytes} {new_entries} {newOwners} {r} p =
    subst (λ (t : Shared). DeskParsePromise format table edition which s t r)
    (λ i. shared (sym p.bytes_left i) (sym p.entries_left i) (sym p.owners_left i) (sym p.counts_left i) (sym p.desks_left i))
    (record {
      refused = λ x e. comes_to (comes (Err (said.Refused x)) s) (parse.refused_is format table edition which s e);
      bad_state_lem = λ e f. comes_to (comes (Err said.BadState) s) (parse.bad_state_is format table edition which s e f);
      reads = λ e f. comes_to (ended (parsed format table edition which s)) (parse.reads_is format table edition which s e f);
      fits = parse.parse_fits format table edition which s;
      others = parse.parse_keeps format table edition which s;
      means_same = parse.parse_means_same format table edition which s;
    })
  where
    comes_to : (c : Comes) → call format table edition which s ≡ c
        → (r.answer ≡ c.answer) × Stays c.state (call format table edition which s).state
    comes_to c e = (
      p.answer_is ∙ ap (λ (k : Comes). k.answer) e,
      record {
        bytes = ap (λ (k : Comes). k.state.bytes) e;
        entries = ap (λ (k : Comes). k.state.entries) e;
        owners = ap (λ (k : Comes). k.state.owners) e;
        counts = ap (λ (k : Comes). k.state.counts) e;
        desks = ap (λ (k : Comes). k.state.desks) e;
      },
    )

pub desk_parse_has_one_answer : {format table new_bytes new_entries newOwners newBytes' newEntries' newOwners' : List ℕ} {edition : ℕ} {which : Which}
    {s : Shared} {r q : ParsedFor} → ParsesFor format table edition which s new_bytes new_entries newOwners r
    → ParsesFor format table edition which s newBytes' newEntries' newOwners' q
    → (r.answer ≡ q.answer) × (r.counts ≡ q.counts) × (r.desks ≡ q.desks) × (new_bytes ≡ newBytes') × (new_entries ≡ newEntries')
    × (newOwners ≡ newOwners')
desk_parse_has_one_answer v w = parse.one_answer v w

-- ---- the guarantee

back : (w : Which) → other (other w) ≡ w
back First = refl
back Second = refl

-- what the other desk does leaves a fit state, and what a desk is guaranteed and charged
act_kept : (which : Which) (s : Shared) (act : Act) → Fits s
    → Fits (acted (other which) s act) × (desk_of which (acted (other which) s act).desks ≡ desk_of which s.desks)
act_kept which s (Adds string) f =
    (fit_by_lem (add_for (other which) s string) (desk.fit_kept (other which) s string (fit_of s f)), rw (back which) at (desk.other_kept (other which) s string))
act_kept which s (Parses format table edition) f =
    (parse.parse_fits format table edition (other which) s f, rw (back which) at (parse.parse_keeps format table edition (other which) s f))

all_kept : (which : Which) (acts : List Act) (s : Shared) → Fits s
    → Fits (act_all (other which) s acts) × (desk_of which (act_all (other which) s acts).desks ≡ desk_of which s.desks)
unfolding act_all
all_kept which [] s f = (f, refl)
all_kept which (act ∷ acts) s f =
    let one = act_kept which s act f in
    let all = all_kept which acts (acted (other which) s act) one.0 in
    (all.0, all.1 ∙ one.1)

pub guarantee : Guarantee
guarantee which s f acts string h k =
    let r = all_kept which acts s f in
    let t = act_all (other which) s acts in
    desk.within_guarantee t (fit_of t r.0) which string (rw r.1 h) (rw r.1 k)

pub desk_alone : (which : Which) (s : Shared) (string : List ℕ) → Fits s → (desk_of (other which) s.desks).guaranteed.entries ≡ 0
    → (desk_of (other which) s.desks).guaranteed.bytes ≡ 0 → added_for which s string ≡ added string s.bytes s.entries s.counts
desk_alone = desk.alone
