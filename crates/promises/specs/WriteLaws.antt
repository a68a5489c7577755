-- The promise of `Write`, proved, and that no second answer and no second buffer fit.
--     write_promise, write_has_one_answer
--     one_format              no second string is the first
--     read_with_empty_pool    what is read back, the public call `parse` answers with an empty pool that has room
--     read_by_call            and with every fit pool in which no addition of this parse finds no room
--     call_reads              what it answers as options, with any pool, is read back
-- Assumes nothing.
use Rattle.std.specs.Prelude.{ℕ, ◌+◌, ◌*◌, ◌<◌, ◌≤◌, Bool, ltb, length, take, drop, Result, Ok, Err, Option}
use Rattle.std.proofs.Common.{arith, subst, ◌∙◌, lt-ltb, le-ltb, ltb-false}
use Rattle.std.proofs.Math.Path.{◌≡◌, refl, sym, ap}
use Rattle.std.proofs.Math.Bool.{true, false}
use mathlib.Core.List.{List, []}
use Rattle.std.proofs.Math.Seq.{take-append_seam}
use Rattle.base.specs.Pick.{pick}
use Rattle.base.specs.Refusal.{none, no_such_format, no_room, format_most}
use Rattle.utf8.specs.Encode.{encode_all}
use Rattle.utf8.specs.Chars.{chars}
use Rattle.property.specs.Table.{properties_at}
use Rattle.fitness.specs.Fit.{table_check}
use Rattle.input.specs.Input as input
use Rattle.input.specs.Input.{is_edition, input_check, on_input}
use Rattle.input.specs.InputLaws.{is_none, is_table, is_fine_lem, fine_of}
use Rattle.input.specs.declared.Refusal.{Refusal}
use Rattle.input.specs.declared.Refusal.TheVariants as refusal
use Rattle.pool.specs.Pool.{written}
use Rattle.pool_rows.specs.Rows.{byte_room, entry_room, fit_pool}
use Rattle.format.specs.Parse.{OnePass, parse, string_of}
use Rattle.format.specs.ParseLaws.{parse_adds}
use Rattle.format_options.specs.declared.Options.{Options}
use Rattle.format_options.specs.declared.FormatError.TheVariants.{ExpectedNumber, TooLarge, UnexpectedToken}
use Rattle.format_options.specs.declared.Part.{Part}
use Rattle.format_options.specs.declared.FormatError.{FormatError}
use Rattle.parse.specs.Call.{Pool, add_to, lent, on_outcome, parsed, call}
use Rattle.parse.specs.declared.Parsed.{Parsed}
use Rattle.parse.specs.declared.ParseError.{ParseError}
use Rattle.parse.specs.declared.ParseError.TheVariants as wrong
use Rattle.wanted.specs.Wanted.{Asked, asked_of, ReadsBack, First, NoSuch}
use Rattle.wanted.specs.Candidate.{can_write}
use Rattle.wanted.proofs.WriteLaws.{first, no_such, one_first}
use Rattle.writer.specs.Call.{answer_if, buffer_after, format_for, Writes, number_of, len_of}
use Rattle.writer.specs.CallLaws.{one_answer, kept}
use Rattle.writer.specs.declared.WriteError.{WriteError}
use Rattle.writer.specs.declared.WriteError.TheVariants.{Refused, NoRoom}
use Rattle.promises.specs.Said.{says}
use Rattle.promises.specs.RoomLaws.{nothing_used, Free, parse_has_room, empty_is_fit}
use Rattle.promises.specs.Write.{write_says, ReadByCall, asked, WritePromise}

-- ---- what is asked first, with no bytes

module _ (table : List ℕ) (edition : ℕ) where
  abbrev first_check : Result (Unit {0}) Refusal
  first_check = input_check 0 [] table edition

  fine_check : is_edition edition ≡ true → table_check table ≡ Ok tt → first_check ≡ Ok tt
  unfolding encode_all
  fine_check k f = is_fine_lem 0 [] table edition (record { short = omega arith; known = k; fit = f; well = record { points = []; scalars = tt; same = refl } })

-- ---- reading back, by the public call

module _ (table : List ℕ) (edition : ℕ) (p : Pool) (s : List ℕ) where
  -- what a parse that read so answers
  abbrev read : Options → Option ℕ → Result Parsed ParseError
  read options index = Ok (record { options = options; index = index })

  -- the options of an answer, and others where it has none
  abbrev options_in : Options → Result Parsed ParseError → Options
  options_in o (Ok r) = r.options
  options_in o (Err x) = o

  abbrev look : ℕ → ℕ
  look = properties_at table

  -- the options and the outcome do not depend on the pool
  same_parse : ((parsed s table edition p).options ≡ (parse look edition (chars s)).options)
      × ((parsed s table edition p).outcome ≡ (parse look edition (chars s)).outcome)
  unfolding parsed
  same_parse =
      let e = parse_adds (λ (q : Pool) (part : Part). add_to q (string_of s part)) look edition p (chars s) in
      (ap (λ (r : OnePass Pool). r.options) e, ap (λ (r : OnePass Pool). r.outcome) e)

  module _ (fit : fit_pool p.bytes p.entries p.counts ≡ true) (room : (parsed s table edition p).pool.full ≡ false) where
    -- where no check refuses
    called : input_check format_most s table edition ≡ Ok tt
        → (call s table edition p).answer ≡ on_outcome (parse look edition (chars s)).outcome (parse look edition (chars s)).options (parsed s table edition p).pool.index
    unfolding call
    called e =
        rw (e, fit, room)
        (λ i. on_outcome (same_parse.1 i) (same_parse.0 i) (parsed s table edition p).pool.index)

    pub read_by_call : is_edition edition ≡ true → table_check table ≡ Ok tt → (a : Asked) → ReadsBack look edition a s → ReadByCall table edition p a s
    read_by_call k f a v =
        let e = is_fine_lem format_most s table edition (record { short = v.small; known = k; fit = f; well = v.well }) in
        record {
          options = (parse look edition (chars s)).options;
          index = (parsed s table edition p).pool.index;
          answer =
              called e
              ∙ ap (λ (x : Result Unit FormatError). on_outcome x (parse look edition (chars s)).options (parsed s table edition p).pool.index) v.fine;
          same = v.same;
        }

  -- the other way round, whatever the pool
  pub call_reads : (a : Asked) → ReadByCall table edition p a s → ReadsBack look edition a s
  unfolding call
  call_reads a v =
      go (input_check format_most s table edition) refl (fit_pool p.bytes p.entries p.counts) refl (parsed s table edition p).pool.full refl
      (parsed s table edition p).outcome refl
    where
      go : (c : Result (Unit {0}) Refusal) → input_check format_most s table edition ≡ c → (t : Bool) → fit_pool p.bytes p.entries p.counts ≡ t
          → (u : Bool) → (parsed s table edition p).pool.full ≡ u → (x : Result Unit FormatError) → (parsed s table edition p).outcome ≡ x → ReadsBack look edition a s
      go (Err y) e t f u g x h =
          let w : Err (wrong.Refused y) ≡ read v.options v.index = rw e at v.answer in
          absurd (let z : ◌≡◌ {A = ℕ} 0 1 = cc in omega arith)
      go (Ok _) e false f u g x h =
          let w : Err wrong.BadState ≡ read v.options v.index = rw (e, f) at v.answer in
          absurd (let z : ◌≡◌ {A = ℕ} 0 1 = cc in omega arith)
      go (Ok _) e true f true g x h =
          let w : Err wrong.PoolFull ≡ read v.options v.index = rw (e, f, g) at v.answer in
          absurd (let z : ◌≡◌ {A = ℕ} 0 1 = cc in omega arith)
      go (Ok _) e true f false g (Ok u) h =
          let w : read (parsed s table edition p).options (parsed s table edition p).pool.index ≡ read v.options v.index = rw (e, f, g, h) at v.answer in
          let q : (parsed s table edition p).options ≡ v.options = ap (options_in v.options) w in
          let b = fine_of format_most s table edition e in
          record {
            small = b.short;
            well = b.well;
            fine = sym same_parse.1 ∙ h;
            same = ap (asked_of s) (sym same_parse.0 ∙ q) ∙ v.same;
          }
      go (Ok _) e true f false g (Err (ExpectedNumber c)) h =
          let w : Err (wrong.ExpectedNumber c) ≡ read v.options v.index = rw (e, f, g, h) at v.answer in
          absurd (let z : ◌≡◌ {A = ℕ} 0 1 = cc in omega arith)
      go (Ok _) e true f false g (Err (TooLarge n)) h =
          let w : Err (wrong.FormatNumberIsTooLarge n) ≡ read v.options v.index = rw (e, f, g, h) at v.answer in
          absurd (let z : ◌≡◌ {A = ℕ} 0 1 = cc in omega arith)
      go (Ok _) e true f false g (Err (UnexpectedToken c)) h =
          let w : Err (wrong.UnexpectedToken c) ≡ read v.options v.index = rw (e, f, g, h) at v.answer in
          absurd (let z : ◌≡◌ {A = ℕ} 0 1 = cc in omega arith)

-- with an empty pool that has room: two entries, and twice as many bytes as the string has
pub read_with_empty_pool : (table : List ℕ) (edition : ℕ) (bytes entries s : List ℕ) (a : Asked) → is_edition edition ≡ true → table_check table ≡ Ok tt
    → 2 ≤ entry_room entries → 2 * length s ≤ byte_room bytes → ReadsBack (properties_at table) edition a s
    → ReadByCall table edition (lent bytes entries nothing_used) a s
read_with_empty_pool table edition bytes entries s a k f n b v =
    let p = lent bytes entries nothing_used in
    let free : Free 2 (2 * length s) p = record { not_full = refl; entries_free = omega arith; bytes_free = omega arith } in
    read_by_call table edition p s (empty_is_fit bytes entries) (parse_has_room s table edition v.well p free) k f a v

-- ---- the promise

pub one_format : (look : ℕ → ℕ) (edition : ℕ) (a : Asked) (s t : List ℕ) → First look edition a s → First look edition a t → s ≡ t
one_format look edition a s t u v = one_first look edition a s t u v

module _ (alignment width precision representation : ℕ) (given : Bool) (fill table : List ℕ) (edition : ℕ) where
  abbrev lookup : ℕ → ℕ
  lookup = properties_at table

  abbrev a : Asked
  a = asked alignment width precision representation given fill table edition

  abbrev format : List ℕ
  format = format_for alignment width precision representation given fill table edition

  -- whether a string is written, by whether there is one
  none_can : NoSuch lookup edition a → can_write lookup edition a ≡ false
  none_can h = go (can_write lookup edition a) refl
    where
      go : (t : Bool) → can_write lookup edition a ≡ t → can_write lookup edition a ≡ false
      go true e = absurd (h format (first lookup edition a e).reads_back)
      go false e = e

  some_can : (s : List ℕ) → First lookup edition a s → (can_write lookup edition a ≡ true) × (format ≡ s)
  some_can s v = go (can_write lookup edition a) refl
    where
      go : (t : Bool) → can_write lookup edition a ≡ t → (can_write lookup edition a ≡ true) × (format ≡ s)
      go true e = (e, one_first lookup edition a format s (first lookup edition a e) v)
      go false e = absurd (no_such lookup edition a e s v.reads_back)

  module _ (old new : List ℕ) (r : Result ℕ WriteError) (p : Writes alignment width precision representation given fill table edition old new r) where
    answered : {c : Result (Unit {0}) Refusal} → first_check table edition ≡ c → {t : Bool} → can_write lookup edition a ≡ t → r ≡ on_input (λ (y : Refusal). Err (Refused y)) c (answer_if t (length old) format)
    answered e f = p.answer ∙ (λ i. on_input (λ (y : Refusal). Err (Refused y)) (e i) (answer_if (f i) (length old) format))

    left : {x : Result ℕ WriteError} → r ≡ x → new ≡ buffer_after x format old
    left e = p.contents ∙ ap (λ (y : Result ℕ WriteError). buffer_after y format old) (sym p.answer ∙ e)

    full_room : (s : List ℕ) → format ≡ s → length s ≤ length old → r ≡ answer_if true (length old) format
        → (write_says r ≡ says none 0) × (len_of r ≡ length s) × (new ≡ written old 0 s)
    full_room s q h e =
        let d = ap length q in
        let w : r ≡ Ok (length format) = e ∙ rw (le-ltb (length old) (length format) (omega arith)) refl in
        (ap write_says w, ap len_of w ∙ d, left w ∙ ap (written old 0) q)

    too_short : (s : List ℕ) → format ≡ s → length old < length s → r ≡ answer_if true (length old) format → write_says r ≡ says no_room 0
    too_short s q h e =
        let d = ap length q in
        let w : r ≡ Err NoRoom = e ∙ rw (lt-ltb (length old) (length format) (omega arith)) refl in
        ap write_says w

    -- 1, 17, 2, 3 and 15 are neither 0 nor 18
    not_first : (x : Refusal) → (input.number_of x ≡ none → ⊥) × (input.number_of x ≡ no_such_format → ⊥)
    not_first refusal.TooLong = (λ e. omega arith, λ e. omega arith)
    not_first refusal.BadEdition = (λ e. omega arith, λ e. omega arith)
    not_first (refusal.BadTable i) = (λ e. omega arith, λ e. omega arith)
    not_first (refusal.BadUtf8 i) = (λ e. omega arith, λ e. omega arith)
    not_first (refusal.CutUtf8 i) = (λ e. omega arith, λ e. omega arith)

    in_room_lem : (t : Bool) → ltb (length old) (length format) ≡ t → number_of (answer_if true (length old) format) ≡ none → ltb (length old) (length format) ≡ false
    in_room_lem true e n = absurd (let m : no_room ≡ none = rw e at n in omega arith)
    in_room_lem false e n = e

    only_first : number_of r ≡ none → First lookup edition a (take (len_of r) new)
    only_first n = go (first_check table edition) refl (can_write lookup edition a) refl
      where
        go : (c : Result (Unit {0}) Refusal) → first_check table edition ≡ c → (t : Bool) → can_write lookup edition a ≡ t → First lookup edition a (take (len_of r) new)
        go (Err x) e t f = absurd ((not_first x).0 (sym (ap number_of (answered e f)) ∙ n))
        go (Ok _) e false f =
            let m : no_such_format ≡ none = sym (ap number_of (answered e f)) ∙ n in
            absurd (omega arith)
        go (Ok _) e true f =
            let b = in_room_lem (ltb (length old) (length format)) refl (sym (ap number_of (answered e f)) ∙ n) in
            let w = full_room format refl (ltb-false (length old) (length format) b) (answered e f) in
            let q : take (len_of r) new ≡ format =
            (λ i. take (w.1 i) (w.2 i)) ∙ take-append_seam format (drop (0 + length format) old) in
            subst (First lookup edition a) (sym q) (first lookup edition a f)

    only_none : number_of r ≡ no_such_format → NoSuch lookup edition a
    only_none n = go (first_check table edition) refl (can_write lookup edition a) refl
      where
        room : (t : Bool) → number_of (pick t (Err NoRoom) (Ok (length format))) ≡ no_such_format → ⊥
        room true m = omega arith
        room false m = omega arith

        go : (c : Result (Unit {0}) Refusal) → first_check table edition ≡ c → (t : Bool) → can_write lookup edition a ≡ t → NoSuch lookup edition a
        go (Err x) e t f = absurd ((not_first x).1 (sym (ap number_of (answered e f)) ∙ n))
        go (Ok _) e true f = absurd (room (ltb (length old) (length format)) (sym (ap number_of (answered e f)) ∙ n))
        go (Ok _) e false f = no_such lookup edition a f

    pub write_promise : WritePromise alignment width precision representation given fill table edition old new r
    write_promise =
        record {
          bad_edition_lem = λ k. ap write_says (answered (is_none 0 [] table edition (omega arith) k) refl);
          bad_table_lem = λ k i e. ap write_says (answered (is_table 0 [] table edition (omega arith) k i e) refl);
          no_such = λ k f h. ap write_says (answered (fine_check table edition k f) (none_can h));
          no_room_lem = λ k f s v h. let q = some_can s v in too_short s q.1 h (answered (fine_check table edition k f) q.0);
          writes = λ k f s v h. let q = some_can s v in full_room s q.1 h (answered (fine_check table edition k f) q.0);
          only_none = only_none;
          only_first = only_first;
          kept = kept alignment width precision representation given fill table edition old p;
        }

  pub write_has_one_answer :
      (old new new' : List ℕ) (r q : Result ℕ WriteError) → Writes alignment width precision representation given fill table edition old new r
      → Writes alignment width precision representation given fill table edition old new' q → (r ≡ q) × (new ≡ new')
  write_has_one_answer old new new' r q v w = one_answer alignment width precision representation given fill table edition old v w
