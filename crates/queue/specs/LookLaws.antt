-- What `look_ahead` leaves to `next`, over any list.
--     same_nexts       every sequence of `next` answers the same from a cursor that differs in what is queued alone
--     ahead_by_nexts   after n calls of `next`, of which none is refused, what comes next is what was n places on
--     look_fits        a look that is not refused leaves a fit cursor, and it differs in what is queued alone
--     look_token       it shows what the (n+1)th following `next` hands out, and nothing where that hands out nothing
-- Assumes nothing.
use Prim.Native.Nat.{ℕ, zero, suc, ◌+◌, ◌-◌, ◌≤◌, ◌<◌}
use native.Mathlib.Omega.{arith}
use Rattle.std.proofs.Math.Path.{◌≡◌, refl, ap, subst}
use Rattle.std.proofs.Common.{sym, ◌∙◌}
use Rattle.std.specs.Prelude.{Bool, List, replicate, Option, Some, None, Result, Ok, Err}
use Rattle.std.proofs.Math.Bool.{true, false}
use Rattle.std.proofs.Math.Dec.{ltb}
use borrow.Author.Tests.{ltb-false, lt-ltb}
use Rattle.base.specs.PickLaws.{split_lt}
use Rattle.base.specs.Refusal.{none}
use Rattle.rows.specs.declared.Row.{Row}
use Rattle.cursor.specs.Cursor.{queue_most, is_fit, record_at, ahead, moved_on, queued_for, queueing}
use Rattle.cursor.specs.CursorLaws.{record_at_lem, held_plus, last_most, moved_fits, queueing_fits}
use Rattle.lookahead.specs.Seen.{seen_at}
use Rattle.lookahead.specs.Next.{given_by, next_of, Given, handed}
use Rattle.lookahead.specs.Peek as ofPeek
use Rattle.lookahead.specs.Peek.{shown_by}
use Rattle.lookahead.specs.LookAhead.{look_ahead_of}
use Rattle.lookahead.specs.declared.NextError.TheVariants as given
use Rattle.cursor.specs.declared.Cursor.{Cursor}
use Rattle.queue.specs.Calls.{Call, next, Outcome, given_token, peeked_token, peeked_cursor, of_given, call, after_calls, Unrefused}

module _ (room : ℕ) (shown : ℕ → Option Row) where
  -- what `next` answers a cursor that is fit
  next_seen : (c : Cursor) → is_fit room c ≡ true → next_of room shown c ≡ given_by c (seen_at shown c 0)
  unfolding next_of
  next_seen c f = rw f

  -- so many calls of `next`
  abbrev nexts : ℕ → List Call
  nexts m = replicate m next

  -- two outcomes that tell the same
  pub record Alike (o p : Outcome) : Type 0 where
    pub number : o.number ≡ p.number
    pub token : o.token ≡ p.token

  -- one call, and then the others
  after_next : (m : ℕ) (c : Cursor) {g : Given} → next_of room shown c ≡ g
      → after_calls room shown c (nexts (suc m)) ≡ after_calls room shown (of_given c g).cursor (nexts m)
  unfolding after_calls
  after_next m c e = ap (λ (x : Given). after_calls room shown (of_given c x).cursor (nexts m)) e

  alike_by : {c d c₁ d₁ : Cursor} → d ≡ d₁ → c ≡ c₁ → Alike (call room shown d₁ next) (call room shown c₁ next)
      → Alike (call room shown d next) (call room shown c next)
  alike_by {c} {d} {c₁} {d₁} p q w =
      subst (λ (x : Cursor). Alike (call room shown x next) (call room shown c next)) (sym p)
      (subst (λ (x : Cursor). Alike (call room shown d₁ next) (call room shown x next)) (sym q) w)

  -- ---- what is queued does not matter to `next`

  -- call m + 1 of `next` tells the same from a cursor with so many queued
  abbrev Same : ℕ → Cursor → ℕ → Type 0
  Same m c q =
      Alike (call room shown (after_calls room shown (queueing c q) (nexts m)) next) (call room shown (after_calls room shown c (nexts m)) next)

  module _ (c : Cursor) (q : ℕ) (f : is_fit room c ≡ true) (g : is_fit room (queueing c q) ≡ true) where
    told : {s : Result (Option Row) ℕ} → seen_at shown c 0 ≡ s → next_of room shown c ≡ given_by c s
    told e = next_seen c f ∙ ap (given_by c) e

    told_queueing : {s : Result (Option Row) ℕ} → seen_at shown c 0 ≡ s → next_of room shown (queueing c q) ≡ given_by (queueing c q) s
    unfolding seen_at
    told_queueing e = next_seen (queueing c q) g ∙ ap (given_by (queueing c q)) e

    first_same : (s : Result (Option Row) ℕ) → seen_at shown c 0 ≡ s → Same 0 c q
    unfolding after_calls
    first_same (Ok (Some row)) e = rw (told e, told_queueing e) (record { number = refl; token = refl })
    first_same (Ok None) e = rw (told e, told_queueing e) (record { number = refl; token = refl })
    first_same (Err i) e = rw (told e, told_queueing e) (record { number = refl; token = refl })

    -- the first call moves both cursors on, or leaves both
    then_same : (m : ℕ) (s : Result (Option Row) ℕ) → seen_at shown c 0 ≡ s → Same m (moved_on c) (q - 1) → Same m c q → Same (suc m) c q
    unfolding moved_on
    then_same m (Ok (Some row)) e on as_is = alike_by (after_next m (queueing c q) (told_queueing e)) (after_next m c (told e)) on
    then_same m (Ok None) e on as_is = alike_by (after_next m (queueing c q) (told_queueing e)) (after_next m c (told e)) as_is
    then_same m (Err i) e on as_is = alike_by (after_next m (queueing c q) (told_queueing e)) (after_next m c (told e)) as_is

  pub same_nexts : (m : ℕ) (c : Cursor) (q : ℕ) → is_fit room c ≡ true → is_fit room (queueing c q) ≡ true → Same m c q
  unfolding moved_on
  same_nexts zero c q f g = first_same c q f g (seen_at shown c 0) refl
  same_nexts (suc m) c q f g =
      then_same c q f g m (seen_at shown c 0) refl
      (same_nexts m (moved_on c) (q - 1) (moved_fits room c f) (moved_fits room (queueing c q) g)) (same_nexts m c q f g)

  -- ---- what the (n+1)th `next` hands out

  -- a cursor d of the same records, whose next is what is n places on from c
  pub record On (n : ℕ) (c d : Cursor) : Type 0 where
    pub counted : d.count ≡ c.count
    pub place : ahead d 0 ≡ ahead c n
    pub fit : is_fit room d ≡ true

  -- after a token was handed out, and where there was none
  on_token : (c : Cursor) (n : ℕ) (d : Cursor) → On n (moved_on c) d → On (suc n) c d
  unfolding moved_on
  on_token c n d w =
      let p : c.taken + 1 + n ≡ c.taken + suc n = omega arith in
      record {
        counted = w.counted;
        place = w.place ∙ held_plus c.count c.status (c.taken + 1) n ∙ ap (record_at c.count c.status) p;
        fit = w.fit;
      }

  on_none : (c : Cursor) (n : ℕ) (d : Cursor) → c.count ≤ ahead c 0 → On n c d → On (suc n) c d
  on_none c n d h w =
      record {
        counted = w.counted;
        place = w.place
            ∙ omega (
              arith,
              record_at_lem c.count c.status (c.taken + 0),
              record_at_lem c.count c.status (c.taken + n),
              record_at_lem c.count c.status (c.taken + suc n),
              last_most c.count c.status,
            );
        fit = w.fit;
      }

  -- nothing is seen only past the last record
  seen_none : (c : Cursor) → seen_at shown c 0 ≡ Ok None → c.count ≤ ahead c 0
  unfolding seen_at
  seen_none c e = split_lt (ahead c 0) c.count (λ h. absurd (by_row (shown (ahead c 0)) refl h)) (λ h. h)
    where
      by_row : (r : Option Row) → shown (ahead c 0) ≡ r → ahead c 0 < c.count → ⊥
      by_row (Some row) t h = let k = lt-ltb (ahead c 0) c.count h in let z : ◌≡◌ {A = ℕ} 0 1 = cc in omega arith
      by_row None t h = let k = lt-ltb (ahead c 0) c.count h in let z : ◌≡◌ {A = ℕ} 0 1 = cc in omega arith

  -- of calls of which none is refused
  first_unrefused : (n : ℕ) (c : Cursor) {g : Given} → next_of room shown c ≡ g → Unrefused room shown c (nexts (suc n)) → (of_given c g).number ≡ none
  unfolding Unrefused
  first_unrefused n c e u = subst (λ (x : Given). (of_given c x).number ≡ none) e u.0

  rest_unrefused : (n : ℕ) (c : Cursor) {g : Given} → next_of room shown c ≡ g → Unrefused room shown c (nexts (suc n))
      → Unrefused room shown (of_given c g).cursor (nexts n)
  unfolding Unrefused
  rest_unrefused n c e u = subst (λ (x : Given). Unrefused room shown (of_given c x).cursor (nexts n)) e u.1

  on_step : (n : ℕ) (c : Cursor) → is_fit room c ≡ true → (s : Result (Option Row) ℕ) → seen_at shown c 0 ≡ s
      → ((d : Cursor) → is_fit room d ≡ true → Unrefused room shown d (nexts n) → On n d (after_calls room shown d (nexts n)))
      → Unrefused room shown c (nexts (suc n)) → On (suc n) c (after_calls room shown c (nexts (suc n)))
  on_step n c f (Ok (Some row)) e more u =
      let t : next_of room shown c ≡ handed row (moved_on c) = next_seen c f ∙ ap (given_by c) e in
      subst (On (suc n) c) (sym (after_next n c t)) (on_token c n _ (more (moved_on c) (moved_fits room c f) (rest_unrefused n c t u)))
  on_step n c f (Ok None) e more u =
      let t : next_of room shown c ≡ Ok None = next_seen c f ∙ ap (given_by c) e in
      subst (On (suc n) c) (sym (after_next n c t)) (on_none c n _ (seen_none c e) (more c f (rest_unrefused n c t u)))
  on_step n c f (Err i) e more u =
      let t : next_of room shown c ≡ Err (given.BadRecord i) = next_seen c f ∙ ap (given_by c) e in absurd (omega (arith, first_unrefused n c t u))

  pub ahead_by_nexts : (n : ℕ) (c : Cursor) → is_fit room c ≡ true → Unrefused room shown c (nexts n) → On n c (after_calls room shown c (nexts n))
  unfolding after_calls
  ahead_by_nexts zero c f u = record { counted = refl; place = refl; fit = f }
  ahead_by_nexts (suc n) c f u = on_step n c f (seen_at shown c 0) refl (λ d g. ahead_by_nexts n d g) u

  -- two cursors that see the same record next
  seen_on : (n : ℕ) (c d : Cursor) → On n c d → seen_at shown d 0 ≡ seen_at shown c n
  unfolding seen_at
  seen_on n c d w = rw (w.place, w.counted)

  -- ---- a look that is not refused

  -- what it answers
  look_shows : (c : Cursor) (n : ℕ) → is_fit room c ≡ true → ofPeek.number_of (look_ahead_of room shown c n) ≡ none
      → (queued_for c n ≤ queue_most) × (look_ahead_of room shown c n ≡ shown_by (queueing c (queued_for c n)) (seen_at shown c n))
  unfolding look_ahead_of
  look_shows c n f = go (ltb queue_most (queued_for c n)) refl
    where
      go : (t : Bool) → ltb queue_most (queued_for c n) ≡ t → ofPeek.number_of (look_ahead_of room shown c n) ≡ none
          → (queued_for c n ≤ queue_most) × (look_ahead_of room shown c n ≡ shown_by (queueing c (queued_for c n)) (seen_at shown c n))
      go true e z = absurd (omega (arith, rw (f, e) at z))
      go false e z = (ltb-false _ _ e, rw (f, e))

  module _ (c : Cursor) (n : ℕ) (f : is_fit room c ≡ true) (z : ofPeek.number_of (look_ahead_of room shown c n) ≡ none) where
    abbrev after : Cursor
    after = queueing c (queued_for c n)

    by_seen : (s : Result (Option Row) ℕ) → ofPeek.number_of (shown_by after s) ≡ none → peeked_cursor c (shown_by after s) ≡ after
    by_seen (Ok (Some row)) e = refl
    by_seen (Ok None) e = refl
    by_seen (Err i) e = absurd (omega arith)

    pub look_fits : (is_fit room after ≡ true) × (peeked_cursor c (look_ahead_of room shown c n) ≡ after)
    look_fits =
        let l = look_shows c n f z in (
          queueing_fits room c n f l.0,
          ap (peeked_cursor c) l.1 ∙ by_seen (seen_at shown c n) (ap ofPeek.number_of (sym l.1) ∙ z),
        )

    token_by : (s : Result (Option Row) ℕ) (d : Cursor) → peeked_token (shown_by after s) ≡ given_token (given_by d s)
    token_by (Ok (Some row)) d = refl
    token_by (Ok None) d = refl
    token_by (Err i) d = refl

    pub look_token : Unrefused room shown c (nexts n)
        → peeked_token (look_ahead_of room shown c n) ≡ (call room shown (after_calls room shown c (nexts n)) next).token
    look_token u =
        let w = ahead_by_nexts n c f u in
        let d = after_calls room shown c (nexts n) in
        ap peeked_token (look_shows c n f z).1
        ∙ token_by (seen_at shown c n) d
        ∙ ap (λ (s : Result (Option Row) ℕ). given_token (given_by d s)) (sym (seen_on n c d w))
        ∙ ap given_token (sym (next_seen d w.fit))
