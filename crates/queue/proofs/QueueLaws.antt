-- A cursor says what the Rust's lexer says, call by call, over a list that shows rows which stand for the lexer's stream.
--     start_mirrors            the cursor of a scan's answer stands for a new lexer
--     next_agrees, peek_agrees, look_agrees, call_agrees    a call that is not refused answers the same token, or none, and leads on
--     calls_agree, calls_mirror    so does every sequence of such calls
--     far_underflows           refusal 6 is given exactly where the Rust's subtraction underflows
--     full_queued              refusal 7 only where 65,535 tokens are queued
-- Assumes nothing.
use Prim.Native.Nat.{ℕ, zero, suc, ◌+◌, ◌-◌, ◌≤◌, ◌<◌}
use native.Mathlib.Omega.{arith}
use Rattle.std.specs.Prelude.{◌≡◌, true, false, Option, Some, None, Ok}
use Rattle.std.proofs.Math.Path.{refl, sym, ap, subst}
use Rattle.std.proofs.Common.{◌∙◌}
use mathlib.Core.List.{List, [], ◌∷◌}
use Rattle.std.proofs.Math.ListN.{length, length-append}
use borrow.Author.Tests.{ltb-true, ltb-false, leb-true, lt-ltb, le-ltb, le-leb}
use Rattle.base.specs.PickLaws.{by_lt, split_lt}
use Rattle.base.specs.Refusal.{none, peek_too_far, queue_full}
use Rattle.rows.specs.declared.Row.{Row}
use Rattle.cursor.specs.Cursor.{queue_most, fit_by, is_fit, start_cursor, record_at, ahead, moved_on, has_more, must_queue, queued_one, there_of, there, queued_for, queueing}
use Rattle.cursor.specs.CursorLaws.{record_at_lem, last_most, held_plus, same_plus, moved_fits, queued_fits, queued_there, must_both, fits_of, there_end, queued_for_lem}
use Rattle.lookahead.specs.Next.{next_of, Given, handed}
use Rattle.lookahead.specs.Peek as ofPeek
use Rattle.lookahead.specs.Peek.{queued_at, peek_of, Peeked}
use Rattle.lookahead.specs.LookAhead.{look_ahead_of}
use Rattle.lookahead.specs.AnswerLaws.{peek_far}
use Rattle.cursor.specs.declared.Status.{Status}
use Rattle.cursor.specs.declared.Status.TheVariants.{End, Stuck}
use Rattle.cursor.specs.declared.Cursor.{Cursor}
use Rattle.queue.specs.Queue.{KotoLexer, new_lexer, Stream, get, rust_next}
use Rattle.queue.specs.Queue.{max_of, tokens_to_add, underflows, push_back, add_tokens, rust_peek, lacking, comment_look}
use Rattle.queue.specs.Calls.{Call, next, peek, look_ahead, of_given, of_peeked, call, after_calls, tokens_of, Unrefused, Shows}
use Rattle.queue.specs.Calls.{rust_call, rust_after, rust_tokens, Streams, Mirrors, Agrees}
use Rattle.queue.specs.StreamLaws.{get_past, get_some, get_front, get_last, by_next, by_queued, by_peek, by_look}

pub start_mirrors : (room : ℕ) (rows : List Row) (status : Status) → is_fit room (start_cursor (length rows) status) ≡ true
    → Mirrors room rows status (start_cursor (length rows) status) new_lexer
start_mirrors room rows status f =
    record { counted = refl; ends = refl; fit = f; long = refl; queue = λ i h. absurd (omega arith); position = refl }

-- ---- `next` in the Rust

-- the lexer that was called once more
abbrev called : KotoLexer → KotoLexer
called k = record { lexer = k.lexer + 1; token_queue = k.token_queue }

module _ (stream : Stream) (k : KotoLexer) where
  pop_empty : {o : Option Row} → k.token_queue ≡ [] → stream k.lexer ≡ o → rust_next stream k ≡ record { token = o; after = called k }
  unfolding rust_next
  pop_empty e f = rw (e, f) (search refl)

  pop_front_lem : {t : Row} {queue : List Row} → k.token_queue ≡ t ∷ queue
      → rust_next stream k ≡ record { token = Some t; after = record { lexer = k.lexer; token_queue = queue } }
  unfolding rust_next
  pop_front_lem e = rw e

-- how many tokens the loop is to add: one for a look at the queue or right after it, none for a look one further
tokens_one : (n len : ℕ) → n ≤ len → tokens_to_add n len ≡ 1
tokens_one n len h = let low : max_of n len ≡ len = rw (le-ltb len n h) in omega arith

tokens_none : (n len : ℕ) → n ≡ len + 1 → tokens_to_add n len ≡ 0
tokens_none n len h = let high : max_of n len ≡ n = rw (lt-ltb len n (omega arith)) in omega arith

-- ---- what a cursor that stands for the lexer knows of it

module _ (room : ℕ) (stream : Stream) (rows : List Row) (status : Status) (v : Streams stream rows status) (c : Cursor) (k : KotoLexer)
    (m : Mirrors room rows status c k) where
  -- the row that a place means
  abbrev here : ℕ → ℕ
  here = record_at c.count c.status

  -- the token that the lexer hands out next is the one after the queue
  lexer_token : stream k.lexer ≡ get rows (ahead c c.queued)
  lexer_token =
      v k.lexer
      ∙ ap (λ (n : ℕ). get rows (record_at n status k.lexer)) (sym m.counted)
      ∙ ap (λ (s : Status). get rows (record_at c.count s k.lexer)) (sym m.ends)
      ∙ ap (get rows) m.position

  -- and a call past the last place answers none, and stays there
  called_past : c.count ≤ ahead c c.queued → Mirrors room rows status c (called k)
  called_past h =
      record {
        counted = m.counted;
        ends = m.ends;
        fit = m.fit;
        long = m.long;
        queue = m.queue;
        position = same_plus c.count c.status k.lexer (c.taken + c.queued) 1 m.position
            ∙ omega (
              arith,
              record_at_lem c.count c.status (c.taken + c.queued),
              record_at_lem c.count c.status (c.taken + c.queued + 1),
              last_most c.count c.status,
            );
      }

  -- ---- a token is handed out

  -- with nothing queued the lexer hands it out
  moved_lexer : c.queued ≡ 0 → Mirrors room rows status (moved_on c) (called k)
  unfolding moved_on
  moved_lexer e =
      let p : c.taken + c.queued + 1 ≡ c.taken + 1 + (c.queued - 1) = omega arith in
      record {
        counted = m.counted;
        ends = m.ends;
        fit = moved_fits room c m.fit;
        long = omega (arith, m.long);
        queue = λ i h. absurd (omega arith);
        position = same_plus c.count c.status k.lexer (c.taken + c.queued) 1 m.position
            ∙ ap here p
            ∙ sym (held_plus c.count c.status (c.taken + 1) (c.queued - 1));
      }

  -- or else the queue does
  moved_queue : (t : Row) (queue : List Row) → k.token_queue ≡ t ∷ queue
      → Mirrors room rows status (moved_on c) (record { lexer = k.lexer; token_queue = queue })
  unfolding moved_on get
  moved_queue t queue e =
      let n : suc (length queue) ≡ c.queued = sym (ap length e) ∙ m.long in
      let p : c.taken + c.queued ≡ c.taken + 1 + (c.queued - 1) = omega arith in
      record {
        counted = m.counted;
        ends = m.ends;
        fit = moved_fits room c m.fit;
        long = omega arith;
        queue = λ i h. let q : c.taken + suc i ≡ c.taken + 1 + i = omega arith in
            ap (λ (l : List Row). get l (suc i)) (sym e)
            ∙ m.queue (suc i) (omega arith)
            ∙ ap (λ (j : ℕ). get rows (here j)) q
            ∙ sym (ap (get rows) (held_plus c.count c.status (c.taken + 1) i));
        position = m.position ∙ ap here p ∙ sym (held_plus c.count c.status (c.taken + 1) (c.queued - 1));
      }

  -- by what the queue is
  give_agrees : (row : Row) → get rows (ahead c 0) ≡ Some row → (queue : List Row) → k.token_queue ≡ queue
      → Agrees room rows status (of_given c (handed row (moved_on c))) (rust_next stream k)
  unfolding get
  give_agrees row s [] e =
      let z : c.queued ≡ 0 = sym m.long ∙ ap length e in
      let t : stream k.lexer ≡ Some row = lexer_token ∙ ap (λ (i : ℕ). get rows (ahead c i)) z ∙ s in
      subst (Agrees room rows status (of_given c (handed row (moved_on c)))) (sym (pop_empty stream k e t))
      (record { token = refl; mirrors = moved_lexer z })
  give_agrees row s (t ∷ queue) e =
      let n : suc (length queue) ≡ c.queued = sym (ap length e) ∙ m.long in
      subst (Agrees room rows status (of_given c (handed row (moved_on c)))) (sym (pop_front_lem stream k e))
      (record { token = ap (λ (l : List Row). get l 0) (sym e) ∙ m.queue 0 (omega arith) ∙ s; mirrors = moved_queue t queue e })

  none_agrees : c.count ≤ ahead c 0 → (queue : List Row) → k.token_queue ≡ queue
      → Agrees room rows status (of_given c (Ok None)) (rust_next stream k)
  none_agrees h [] e =
      let z : c.queued ≡ 0 = sym m.long ∙ ap length e in
      let t : stream k.lexer ≡ None =
      lexer_token ∙ ap (λ (i : ℕ). get rows (ahead c i)) z ∙ get_past rows (ahead c 0) (omega (arith, m.counted)) in
      subst (Agrees room rows status (of_given c (Ok None))) (sym (pop_empty stream k e t)) (record { token = refl; mirrors = called_past (subst (λ (i : ℕ). c.count ≤ ahead c i) (sym z) h) })
  none_agrees h (t ∷ queue) e =
      let n : suc (length queue) ≡ c.queued = sym (ap length e) ∙ m.long in
      absurd (omega (arith, queued_there room c m.fit 0 (omega arith)))

  -- ---- a token is queued

  -- one more
  pushed : has_more c ≡ true → (c.queued ≡ queue_most → ⊥) → (t : Row) → get rows (ahead c c.queued) ≡ Some t
      → Mirrors room rows status (queued_one c) (push_back (called k) t)
  unfolding queued_one
  pushed h n t e =
      let p : c.taken + c.queued + 1 ≡ c.taken + (c.queued + 1) = omega arith in
      record {
        counted = m.counted;
        ends = m.ends;
        fit = queued_fits room c m.fit h n;
        long = length-append k.token_queue (t ∷ []) ∙ ap (λ (i : ℕ). i + 1) m.long;
        queue = λ i lt. split_lt i c.queued
            (λ before. get_front k.token_queue (t ∷ []) i (omega (arith, m.long)) ∙ m.queue i before)
            (λ after. let last : i ≡ c.queued = omega arith in
            get_last k.token_queue t i (last ∙ sym m.long) ∙ sym e ∙ ap (λ (j : ℕ). get rows (ahead c j)) (sym last));
        position = same_plus c.count c.status k.lexer (c.taken + c.queued) 1 m.position ∙ ap here p;
      }

  one_added : (n : ℕ) → n ≤ c.queued → (t : Row) → get rows (ahead c c.queued) ≡ Some t
      → add_tokens stream (tokens_to_add n (length k.token_queue)) k ≡ push_back (called k) t
  unfolding add_tokens
  one_added n le t e =
      let one : tokens_to_add n (length k.token_queue) ≡ 1 = tokens_one n (length k.token_queue) (omega (arith, m.long)) in
      rw (one, lexer_token ∙ e)

  -- none is added: the loop has no turn, or the lexer has no token
  pub record Unchanged (n : ℕ) : Type 0 where
    pub after : KotoLexer
    pub loop : add_tokens stream (tokens_to_add n (length k.token_queue)) k ≡ after
    pub mirrors : Mirrors room rows status c after

  none_added : (n : ℕ) → must_queue c n ≡ false → n ≤ c.queued + 1 → Unchanged n
  unfolding add_tokens must_queue
  none_added n f near =
      split_lt c.queued n
      (λ h. let no : tokens_to_add n (length k.token_queue) ≡ 0 =
      tokens_none n (length k.token_queue) (omega (arith, m.long)) in record { after = k; loop = rw no; mirrors = m })
      (λ h. let one : tokens_to_add n (length k.token_queue) ≡ 1 =
      tokens_one n (length k.token_queue) (omega (arith, m.long)) in
      let past : c.count ≤ ahead c c.queued = ltb-false (ahead c c.queued) c.count (rw (le-leb n c.queued h) at f) in
      record {
        after = called k;
        loop = rw (one, lexer_token ∙ get_past rows (ahead c c.queued) (omega (arith, m.counted)));
        mirrors = called_past past;
      })

-- ---- tokens are added one by one, as many as there are

-- how many are queued after a loop that is to add m
abbrev filled : Cursor → ℕ → ℕ
filled c m = there c (c.queued + m)

module _ (room : ℕ) (c : Cursor) (f : is_fit room c ≡ true) where
  -- none
  fill_none : filled c 0 ≡ c.queued
  fill_none = go c.status (fits_of room c f).by_status_lem
    where
      go : (s : Status) → fit_by c s ≡ true → there_of (c.count - c.taken) s (c.queued + 0) ≡ c.queued
      go End b = omega (arith, there_end (c.count - c.taken) (c.queued + 0), leb-true c.queued (c.count - c.taken) b)
      go Stuck b = omega arith

  -- none either where there is no token past the queued ones
  fill_past : (m : ℕ) → c.count ≤ ahead c c.queued → filled c m ≡ c.queued
  fill_past m = go c.status (fits_of room c f).by_status_lem
    where
      go : (s : Status) → fit_by c s ≡ true → c.count ≤ record_at c.count s (c.taken + c.queued) → there_of (c.count - c.taken) s (c.queued + m) ≡ c.queued
      go End b h =
          omega (
            arith,
            there_end (c.count - c.taken) (c.queued + m),
            leb-true c.queued (c.count - c.taken) b,
            record_at_lem c.count End (c.taken + c.queued),
          )
      go Stuck b h = absurd (omega (arith, ltb-true c.taken c.count b, record_at_lem c.count Stuck (c.taken + c.queued)))

  -- and else one at least
  fill_more : (m : ℕ) → ahead c c.queued < c.count → c.queued < filled c (suc m)
  fill_more m = go c.status
    where
      go : (s : Status) → record_at c.count s (c.taken + c.queued) < c.count → c.queued < there_of (c.count - c.taken) s (c.queued + suc m)
      go End h = omega (arith, there_end (c.count - c.taken) (c.queued + suc m), record_at_lem c.count End (c.taken + c.queued))
      go Stuck h = omega arith

-- what is lacking for a look at place n: the smaller of what is left and of the larger is the larger of both smaller ones
fill_end : (left q n : ℕ) → q ≤ left → there_of left End (q + lacking n q) ≡ q + (there_of left End (n + 1) - q)
fill_end left q n h =
    split_lt (n + 1) q
    (λ k. let z : q + lacking n q ≡ q = omega arith in
    ap (there_of left End) z ∙ omega (arith, there_end left q, there_end left (n + 1)))
    (λ k. let z : q + lacking n q ≡ n + 1 = omega arith in
    ap (there_of left End) z ∙ omega (arith, there_end left (n + 1)))

fill_look : (room : ℕ) (c : Cursor) (n : ℕ) → is_fit room c ≡ true → filled c (lacking n c.queued) ≡ queued_for c n
fill_look room c n f = go c.status refl (fits_of room c f).by_status_lem
  where
    go : (s : Status) → c.status ≡ s → fit_by c s ≡ true
        → there_of (c.count - c.taken) s (c.queued + lacking n c.queued) ≡ queued_for c n
    go End e b = fill_end (c.count - c.taken) c.queued n (leb-true c.queued (c.count - c.taken) b) ∙ sym (queued_for_lem c n e)
    go Stuck e b = omega (arith, queued_for_lem c n e)

module _ (room : ℕ) (stream : Stream) (rows : List Row) (status : Status) (v : Streams stream rows status) where
  adds_one : (c : Cursor) (k : KotoLexer) → Mirrors room rows status c k → (m : ℕ) (t : Row) → get rows (ahead c c.queued) ≡ Some t
      → add_tokens stream (suc m) k ≡ add_tokens stream m (push_back (called k) t)
  unfolding add_tokens
  adds_one c k w m t e = rw (lexer_token room stream rows status v c k w ∙ e)

  adds_none : (c : Cursor) (k : KotoLexer) → Mirrors room rows status c k → (m : ℕ) → get rows (ahead c c.queued) ≡ None
      → add_tokens stream (suc m) k ≡ called k
  unfolding add_tokens
  adds_none c k w m e = rw (lexer_token room stream rows status v c k w ∙ e)

  -- the cursor that has queued as many stands for the lexer after the loop
  adds : (m : ℕ) (c : Cursor) (k : KotoLexer) → Mirrors room rows status c k → filled c m ≤ queue_most
      → Mirrors room rows status (queueing c (filled c m)) (add_tokens stream m k)
  unfolding add_tokens queued_one
  adds zero c k w h = subst (λ (q : ℕ). Mirrors room rows status (queueing c q) k) (sym (fill_none room c w.fit)) w
  adds (suc m) c k w h =
      split_lt (ahead c c.queued) c.count
      (λ more.
      let t = get_some rows (ahead c c.queued) (omega (arith, w.counted)) in
      let n = fill_more room c w.fit m more in
      let one = pushed room stream rows status v c k w (lt-ltb _ _ more) (λ q. omega arith) t.0 t.1 in
      let p : c.queued + 1 + m ≡ c.queued + suc m = omega arith in
      subst (Mirrors room rows status (queueing c (filled c (suc m)))) (sym (adds_one c k w m t.0 t.1))
      (subst (λ (q : ℕ). Mirrors room rows status (queueing c (there c q)) (add_tokens stream m (push_back (called k) t.0))) p
      (adds m (queued_one c) (push_back (called k) t.0) one (subst (λ (q : ℕ). there c q ≤ queue_most) (sym p) h))))
      (λ past.
      let none_left = get_past rows (ahead c c.queued) (omega (arith, w.counted)) in
      subst (Mirrors room rows status (queueing c (filled c (suc m)))) (sym (adds_none c k w m none_left))
      (subst (λ (q : ℕ). Mirrors room rows status (queueing c q) (called k)) (sym (fill_past room c w.fit (suc m) past))
      (called_past room stream rows status v c k w past)))

-- ---- `peek` in the Rust

rust_peek_is : (stream : Stream) (k : KotoLexer) (n : ℕ) {after : KotoLexer}
    → add_tokens stream (tokens_to_add n (length k.token_queue)) k ≡ after
    → rust_peek stream k n ≡ record { token = get after.token_queue n; after = after }
unfolding rust_peek
rust_peek_is stream k n e = rw e

-- the greater of the two
max_most : (n len most : ℕ) → n ≤ most → len ≤ most → max_of n len ≤ most
max_most n len most h k = by_lt (λ (x : ℕ). x ≤ most) len n (λ _. h) (λ _. k)

-- ---- over a list that shows the rows

module _ (room : ℕ) (shown : ℕ → Option Row) (stream : Stream) (rows : List Row) (status : Status) (w : Shows shown rows)
    (v : Streams stream rows status) where
  -- queued token n, of a cursor and a queue
  queued_agrees : (c : Cursor) (k : KotoLexer) → Mirrors room rows status c k → (old : Cursor) (n : ℕ)
      → Agrees room rows status (of_peeked old (queued_at shown c n)) (record { token = get k.token_queue n; after = k })
  queued_agrees c k m old n =
      by_queued room shown rows w c m.fit m.counted
      (λ (r : Peeked). Agrees room rows status (of_peeked old r) (record { token = get k.token_queue n; after = k })) n
      (λ row h e. record { token = m.queue n h ∙ e; mirrors = m })
      (λ h. record { token = get_past k.token_queue n (omega (arith, m.long)); mirrors = m })

  module _ (c : Cursor) (k : KotoLexer) (m : Mirrors room rows status c k) where
    pub next_agrees : Agrees room rows status (of_given c (next_of room shown c)) (rust_next stream k)
    next_agrees =
        by_next room shown rows w c m.fit m.counted (λ (r : Given). Agrees room rows status (of_given c r) (rust_next stream k))
        (λ row e. give_agrees room stream rows status v c k m row e k.token_queue refl)
        (λ h. none_agrees room stream rows status v c k m h k.token_queue refl)

    -- what is to be shown of an answer of `peek`
    abbrev PeekAgrees : ℕ → Peeked → Type 0
    PeekAgrees n r = ofPeek.number_of r ≡ none → Agrees room rows status (of_peeked c r) (rust_peek stream k n)

    -- from a cursor that stands for the lexer after the loop
    after_loop : (n : ℕ) (d : Cursor) (after : KotoLexer) → add_tokens stream (tokens_to_add n (length k.token_queue)) k ≡ after
        → Mirrors room rows status d after → PeekAgrees n (queued_at shown d n)
    after_loop n d after e x z =
        subst (Agrees room rows status (of_peeked c (queued_at shown d n))) (sym (rust_peek_is stream k n e)) (queued_agrees d after x c n)

    -- the row that is queued next
    next_row : has_more c ≡ true → (row : Row) × (get rows (ahead c c.queued) ≡ Some row)
    next_row h = get_some rows (ahead c c.queued) (omega (arith, ltb-true (ahead c c.queued) c.count h, m.counted))

    pub peek_agrees : (n : ℕ) → PeekAgrees n (peek_of room shown c n)
    peek_agrees n =
        by_peek room shown c m.fit (PeekAgrees n) n (λ far z. absurd (omega arith)) (λ e q z. absurd (omega arith))
        (λ e q. let both = must_both c n e in let t = next_row both.1 in
        after_loop n (queued_one c) _ (one_added room stream rows status v c k m n both.0 t.0 t.1)
        (pushed room stream rows status v c k m both.1 q t.0 t.1))
        (λ e h. let u = none_added room stream rows status v c k m n e h in after_loop n c u.after u.loop u.mirrors)

    comment_look_is : (n : ℕ) {after : KotoLexer} → add_tokens stream (lacking n (length k.token_queue)) k ≡ after
        → comment_look stream k n ≡ record { token = get after.token_queue n; after = after }
    unfolding comment_look
    comment_look_is n e = rw e

    pub look_agrees : (n : ℕ) → ofPeek.number_of (look_ahead_of room shown c n) ≡ none
        → Agrees room rows status (of_peeked c (look_ahead_of room shown c n)) (comment_look stream k n)
    look_agrees n =
        by_look room shown c m.fit
        (λ (r : Peeked). ofPeek.number_of r ≡ none → Agrees room rows status (of_peeked c r) (comment_look stream k n)) n
        (λ h z. absurd (omega arith))
        (λ h z.
        let e = fill_look room c n m.fit in
        let lacks : lacking n (length k.token_queue) ≡ lacking n c.queued = ap (lacking n) m.long in
        let w : Mirrors room rows status (queueing c (queued_for c n)) (add_tokens stream (lacking n c.queued) k) =
        subst (λ (q : ℕ). Mirrors room rows status (queueing c q) (add_tokens stream (lacking n c.queued) k)) e
        (adds room stream rows status v (lacking n c.queued) c k m (omega arith)) in
        subst (Agrees room rows status (of_peeked c (queued_at shown (queueing c (queued_for c n)) n)))
        (sym (comment_look_is n (ap (λ (j : ℕ). add_tokens stream j k) lacks)))
        (queued_agrees (queueing c (queued_for c n)) (add_tokens stream (lacking n c.queued) k) w c n))

    pub call_agrees : (x : Call) → (call room shown c x).number ≡ none → Agrees room rows status (call room shown c x) (rust_call stream k x)
    call_agrees next = λ _. next_agrees
    call_agrees (peek n) = peek_agrees n
    call_agrees (look_ahead n) = look_agrees n

    -- ---- the refusals that the Rust does not have

    module _ (n : ℕ) where
      -- 6 is given to a look that is too far, and 7 where the queue is full
      abbrev Told : Peeked → Type 0
      Told r = (ofPeek.number_of r ≡ peek_too_far → c.queued + 1 < n) × (ofPeek.number_of r ≡ queue_full → c.queued ≡ queue_most)

      -- a look at the queue is neither
      queued_told : (d : Cursor) → is_fit room d ≡ true → d.count ≡ length rows → Told (queued_at shown d n)
      queued_told d f e =
          by_queued room shown rows w d f e Told n (λ row h t. (λ z. absurd (omega arith), λ z. absurd (omega arith)))
          (λ h. (λ z. absurd (omega arith), λ z. absurd (omega arith)))

      told : Told (peek_of room shown c n)
      unfolding queued_one
      told =
          by_peek room shown c m.fit Told n (λ far. (λ z. far, λ z. absurd (omega arith))) (λ e q. (λ z. absurd (omega arith), λ z. q))
          (λ e q. queued_told (queued_one c) (queued_fits room c m.fit (must_both c n e).1 q) m.counted)
          (λ e h. queued_told c m.fit m.counted)

      abbrev len : ℕ
      len = length k.token_queue

      pub far_underflows :
          (ofPeek.number_of (peek_of room shown c n) ≡ peek_too_far → underflows n len ≡ true)
          × (underflows n len ≡ true → ofPeek.number_of (peek_of room shown c n) ≡ peek_too_far)
      far_underflows = (
        λ z. let far = told.0 z in
            rw (m.long, lt-ltb c.queued n (omega arith)) (lt-ltb (c.queued + 1) n far),
        λ z. split_lt (c.queued + 1) n (λ far. sym (ap ofPeek.number_of (peek_far room shown c n m.fit far)))
            (λ near. absurd (omega (arith, ltb-true (len + 1) (max_of n len) z, max_most n len (len + 1) (omega (arith, m.long)) (omega arith)))),
      )

      pub full_queued : ofPeek.number_of (peek_of room shown c n) ≡ queue_full → length k.token_queue ≡ queue_most
      full_queued z = m.long ∙ told.1 z

  -- every sequence of calls of which none is refused
  pub calls_agree : (c : Cursor) (k : KotoLexer) → Mirrors room rows status c k → (calls : List Call) → Unrefused room shown c calls
      → rust_tokens stream k calls ≡ tokens_of room shown c calls
  unfolding Unrefused rust_tokens tokens_of
  calls_agree c k m [] u = refl
  calls_agree c k m (x ∷ calls) u =
      let a = call_agrees c k m x u.0 in
      rw (a.token, calls_agree (call room shown c x).cursor (rust_call stream k x).after a.mirrors calls u.1)

  pub calls_mirror : (c : Cursor) (k : KotoLexer) → Mirrors room rows status c k → (calls : List Call) → Unrefused room shown c calls
      → Mirrors room rows status (after_calls room shown c calls) (rust_after stream k calls)
  unfolding Unrefused after_calls rust_after
  calls_mirror c k m [] u = m
  calls_mirror c k m (x ∷ calls) u =
      calls_mirror (call room shown c x).cursor (rust_call stream k x).after (call_agrees c k m x u.0).mirrors calls u.1
