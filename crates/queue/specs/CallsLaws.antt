-- What no sequence of calls can break: over rows that are shown a fit cursor stays fit, no call gets refusal 8 or 9, and `next` hands out
-- the tokens in order.
--     call_leaves                 what one call leaves
--     start_stands, call_stands, calls_stand    where the cursor stands at the start, after a call, and after a sequence of calls
--     never_refused               no call gets 8 or 9
--     next_token_lem                  `next` hands out the token of its place
-- Assumes nothing.
use Rattle.std.specs.Prelude.{ℕ, ◌+◌, ◌≤◌, ◌≡◌, true, length, Option, Some, None}
use Rattle.std.proofs.Common.{add-zero, sym, ap, ◌∙◌}
use native.Mathlib.Omega.{arith}
use Rattle.std.proofs.Math.Path.{refl, subst}
use mathlib.Core.List.{List, [], ◌∷◌}
use Rattle.base.specs.Refusal.{none, peek_too_far, queue_full, bad_state, bad_record}
use Rattle.rows.specs.declared.Row.{Row}
use Rattle.cursor.specs.Cursor.{is_fit, start_cursor, record_at, ahead, moved_on, queued_one, queued_for, queueing}
use Rattle.cursor.specs.CursorLaws.{record_at_lem, held_plus, last_most, taken_held, moved_fits, queued_fits, queueing_fits, must_both}
use Rattle.lookahead.specs.Next.{next_of, Given}
use Rattle.lookahead.specs.Peek.{queued_at, peek_of, Peeked}
use Rattle.lookahead.specs.LookAhead.{look_ahead_of}
use Rattle.cursor.specs.declared.Status.{Status}
use Rattle.cursor.specs.declared.Cursor.{Cursor}
use Rattle.queue.specs.Queue.{get}
use Rattle.queue.specs.Calls.{Call, next, peek, look_ahead, Outcome, of_given, of_peeked, call, after_calls, is_next, nexts, Shows, Stands}
use Rattle.queue.specs.StreamLaws.{get_past, by_next, by_queued, by_peek, by_look}

-- what a call leaves: the cursor is fit for the same records, m places on, and no refusal 8 or 9 was given
pub record Leaves (room : ℕ) (c : Cursor) (m : ℕ) (o : Outcome) : Type 0 where
  pub fine : o.number ≡ bad_state → ⊥
  pub readable : o.number ≡ bad_record → ⊥
  pub fit : is_fit room o.cursor ≡ true
  pub counted : o.cursor.count ≡ c.count
  pub ends : o.cursor.status ≡ c.status
  pub place : o.cursor.taken ≡ record_at c.count c.status (c.taken + m)

module _ (room : ℕ) (shown : ℕ → Option Row) (rows : List Row) (w : Shows shown rows) where
  module _ (c : Cursor) (f : is_fit room c ≡ true) (counted : c.count ≡ length rows) where
    -- a cursor that does not move stands where it stood
    stays : record_at c.count c.status (c.taken + 0) ≡ c.taken
    stays = ap (record_at c.count c.status) (add-zero c.taken) ∙ taken_held room c f

    -- and so does one that has all tokens behind it
    all_taken : c.count ≤ ahead c 0 → c.taken ≡ record_at c.count c.status (c.taken + 1)
    all_taken h =
        omega (
          arith,
          stays,
          record_at_lem c.count c.status (c.taken + 0),
          record_at_lem c.count c.status (c.taken + 1),
          last_most c.count c.status,
        )

    -- ---- `next`

    next_leaves : Leaves room c 1 (of_given c (next_of room shown c))
    unfolding moved_on
    next_leaves =
        by_next room shown rows w c f counted (λ (r : Given). Leaves room c 1 (of_given c r))
        (λ row e. record {
          fine = λ z. omega arith;
          readable = λ z. omega arith;
          fit = moved_fits room c f;
          counted = refl;
          ends = refl;
          place = refl;
        })
        (λ h. record { fine = λ z. omega arith; readable = λ z. omega arith; fit = f; counted = refl; ends = refl; place = all_taken h })

    -- the token that it hands out
    next_is_token : ((call room shown c next).number ≡ none) × ((call room shown c next).token ≡ get rows (ahead c 0))
    next_is_token =
        by_next room shown rows w c f counted (λ (r : Given). ((of_given c r).number ≡ none) × ((of_given c r).token ≡ get rows (ahead c 0)))
        (λ row e. (refl, sym e)) (λ h. (refl, sym (get_past rows (ahead c 0) (omega arith))))

    -- ---- `peek`

    -- a cursor d that is this one, but for what is queued, and an answer that is no refusal 8 or 9
    module _ (d : Cursor) (g : is_fit room d ≡ true) (a : d.count ≡ c.count) (b : d.status ≡ c.status) (e : d.taken ≡ c.taken) where
      same_place : (number : ℕ) (token : Option Row) → (number ≡ bad_state → ⊥) → (number ≡ bad_record → ⊥)
          → Leaves room c 0 (record { number = number; token = token; cursor = d })
      same_place number token x y = record { fine = x; readable = y; fit = g; counted = a; ends = b; place = e ∙ sym stays }

      queued_leaves : (n : ℕ) → Leaves room c 0 (of_peeked c (queued_at shown d n))
      queued_leaves n =
          by_queued room shown rows w d g (a ∙ counted) (λ (r : Peeked). Leaves room c 0 (of_peeked c r)) n
          (λ row h t. same_place none (Some row) (λ z. omega arith) (λ z. omega arith))
          (λ h. same_place none None (λ z. omega arith) (λ z. omega arith))

    -- refusals 6 and 7 leave the cursor
    peek_leaves : (n : ℕ) → Leaves room c 0 (of_peeked c (peek_of room shown c n))
    unfolding queued_one
    peek_leaves n =
        by_peek room shown c f (λ (r : Peeked). Leaves room c 0 (of_peeked c r)) n
        (λ far. same_place c f refl refl refl peek_too_far None (λ z. omega arith) (λ z. omega arith))
        (λ m q. same_place c f refl refl refl queue_full None (λ z. omega arith) (λ z. omega arith))
        (λ m q. queued_leaves (queued_one c) (queued_fits room c f (must_both c n m).1 q) refl refl refl n)
        (λ m h. queued_leaves c f refl refl refl n)

    -- and so does 7 of a look ahead
    look_leaves : (n : ℕ) → Leaves room c 0 (of_peeked c (look_ahead_of room shown c n))
    look_leaves n =
        by_look room shown c f (λ (r : Peeked). Leaves room c 0 (of_peeked c r)) n
        (λ h. same_place c f refl refl refl queue_full None (λ z. omega arith) (λ z. omega arith))
        (λ h. queued_leaves (queueing c (queued_for c n)) (queueing_fits room c n f h) refl refl refl n)

    pub call_leaves : (x : Call) → Leaves room c (is_next x) (call room shown c x)
    call_leaves next = next_leaves
    call_leaves (peek n) = peek_leaves n
    call_leaves (look_ahead n) = look_leaves n

-- ---- where the cursor stands

pub start_stands : (room count : ℕ) (status : Status) → is_fit room (start_cursor count status) ≡ true
    → Stands room count status 0 (start_cursor count status)
start_stands room count status f =
    record { fit = f; counted = refl; ends = refl; place = sym (taken_held room (start_cursor count status) f) }

module _ (room : ℕ) (shown : ℕ → Option Row) (rows : List Row) (status : Status) (w : Shows shown rows) where
  pub call_stands : (i : ℕ) (c : Cursor) → Stands room (length rows) status i c → (x : Call)
      → Stands room (length rows) status (i + is_next x) (call room shown c x).cursor
  call_stands i c s x =
      let l = call_leaves room shown rows w c s.fit s.counted x in
      record {
        fit = l.fit;
        counted = l.counted ∙ s.counted;
        ends = l.ends ∙ s.ends;
        place = l.place
            ∙ ap (λ (n : ℕ). record_at n c.status (c.taken + is_next x)) s.counted
            ∙ ap (λ (t : Status). record_at (length rows) t (c.taken + is_next x)) s.ends
            ∙ ap (λ (n : ℕ). record_at (length rows) status (n + is_next x)) s.place
            ∙ held_plus (length rows) status i (is_next x);
      }

  pub calls_stand : (i : ℕ) (c : Cursor) → Stands room (length rows) status i c → (calls : List Call)
      → Stands room (length rows) status (i + nexts calls) (after_calls room shown c calls)
  unfolding after_calls nexts
  calls_stand i c s [] = subst (λ (n : ℕ). Stands room (length rows) status n c) (sym (add-zero i)) s
  calls_stand i c s (x ∷ calls) =
      let e : i + is_next x + nexts calls ≡ i + (is_next x + nexts calls) = omega arith in
      subst (λ (n : ℕ). Stands room (length rows) status n (after_calls room shown (call room shown c x).cursor calls)) e
      (calls_stand (i + is_next x) (call room shown c x).cursor (call_stands i c s x) calls)

  module _ (i : ℕ) (c : Cursor) (s : Stands room (length rows) status i c) where
    pub never_refused : (x : Call) → ((call room shown c x).number ≡ bad_state → ⊥) × ((call room shown c x).number ≡ bad_record → ⊥)
    never_refused x = let l = call_leaves room shown rows w c s.fit s.counted x in (l.fine, l.readable)

    pub next_token_lem : ((call room shown c next).number ≡ none) × ((call room shown c next).token ≡ get rows (record_at (length rows) status i))
    next_token_lem =
        let t = next_is_token room shown rows w c s.fit s.counted in
        (t.0, t.1 ∙ ap (get rows) (stays room shown rows w c s.fit s.counted ∙ s.place))
