-- At most one reading is what a machine hands out from a state: `hands_one`. So `Hands` leaves nothing open.
-- Assumes nothing.
use Rattle.std.specs.Prelude.{ℕ, zero, suc, ◌≤◌, ◌<◌, ◌≡◌, refl, List, [], ◌∷◌, length, Option, Some, None}
use Rattle.std.proofs.Common.{arith, sym, ap, ◌∙◌}
use Rattle.base.specs.PickLaws.{split_lt}
use Rattle.rows.specs.declared.Row.{Row}
use Rattle.reading.specs.Reading.{Stop, Reading}
use Rattle.reading.specs.Reading as stop
use Rattle.queue.specs.Queue.{get}
use Rattle.rust.specs.TokenLexer.{TokenLexer}
use Rattle.rust.specs.Hands.{Hands}

-- a record of a list is one
none_past : (rows : List Row) (i : ℕ) → get rows i ≡ None → length rows ≤ i
unfolding get
none_past [] i e = omega arith
none_past (t ∷ rows) zero e = absurd (let z : ◌≡◌ {A = ℕ} 0 1 = cc in omega arith)
none_past (t ∷ rows) (suc i) e = omega (arith, none_past rows i e)

some_row : (t u : Row) → ◌≡◌ {A = Option Row} (Some t) (Some u) → t ≡ u
some_row t u e = cc

rows_same : (a b : List Row) → length a ≡ length b → ((i : ℕ) → i < length a → get a i ≡ get b i) → a ≡ b
unfolding get
rows_same [] [] e f = refl
rows_same [] (u ∷ b) e f = absurd (omega arith)
rows_same (t ∷ a) [] e f = absurd (omega arith)
rows_same (t ∷ a) (u ∷ b) e f =
    ap (λ (v : Row). v ∷ a) (some_row t u (f 0 (omega arith))) ∙ ap (λ (l : List Row). u ∷ l) (rows_same a b (omega arith) (λ i h. f (suc i) (omega arith)))

module _ (look : ℕ → ℕ) (edition : ℕ) (s : List ℕ) (x : TokenLexer) where
  -- a reading that stops is not gone on with
  not_shorter : (r q : Reading) → Hands look edition s r x → Hands look edition s q x → (why : Stop) → r.stop ≡ why
      → length r.rows < length q.rows → ⊥
  not_shorter r q a b stop.ended e h =
      omega (
        arith,
        none_past q.rows (length r.rows) (sym (b.each (length r.rows) h) ∙ a.ended e (length r.rows) (omega arith)),
      )
  not_shorter r q a b stop.stuck e h =
      let k = a.stuck e in
      omega (arith, k.size, (b.goes k.last (omega (arith, k.size)) k.stands).1)
  not_shorter r q a b stop.deep e h =
      let o = a.deep e in
      omega (arith, o.over, b.room (suc (length r.rows)) (omega arith))

  module _ (r q : Reading) (a : Hands look edition s r x) (b : Hands look edition s q x) where
    same_length : length r.rows ≡ length q.rows
    same_length =
        split_lt (length r.rows) (length q.rows) (λ h. absurd (not_shorter r q a b r.stop refl h))
        (λ h. split_lt (length q.rows) (length r.rows) (λ k. absurd (not_shorter q r b a q.stop refl k)) (λ k. omega arith))

    all_same : r.rows ≡ q.rows
    all_same =
        rows_same r.rows q.rows same_length (λ i h. sym (a.each i h) ∙ b.each i (omega (arith, same_length)))

  -- one is stuck where the other is
  both_stuck : (r q : Reading) → Hands look edition s r x → Hands look edition s q x → q.stop ≡ stop.stuck → r.stop ≡ stop.stuck
  both_stuck r q a b e =
      let k = b.stuck e in
      (a.goes k.last (omega (arith, k.size, same_length r q a b)) k.stands).0

  -- the end is not where a 65th mode is pushed
  not_both : (r q : Reading) → Hands look edition s r x → Hands look edition s q x → r.stop ≡ stop.ended → q.stop ≡ stop.deep → ⊥
  not_both r q a b e f =
      let o = b.deep f in
      let n = a.ended e (length q.rows) (omega (arith, same_length r q a b)) in
      let z : ◌≡◌ {A = ℕ} 0 1 = absurd_of (sym n ∙ o.some_token) in omega arith
    where
      absurd_of : {row : Row} → ◌≡◌ {A = Option Row} None (Some row) → ◌≡◌ {A = ℕ} 0 1
      absurd_of p = cc

  stops_same : (r q : Reading) → Hands look edition s r x → Hands look edition s q x → (v w : Stop) → r.stop ≡ v → q.stop ≡ w → v ≡ w
  stops_same r q a b stop.stuck stop.stuck e f = refl
  stops_same r q a b stop.ended stop.stuck e f = sym e ∙ both_stuck r q a b f
  stops_same r q a b stop.deep stop.stuck e f = sym e ∙ both_stuck r q a b f
  stops_same r q a b stop.stuck stop.ended e f = sym (both_stuck q r b a e) ∙ f
  stops_same r q a b stop.stuck stop.deep e f = sym (both_stuck q r b a e) ∙ f
  stops_same r q a b stop.ended stop.ended e f = refl
  stops_same r q a b stop.deep stop.deep e f = refl
  stops_same r q a b stop.ended stop.deep e f = absurd (not_both r q a b e f)
  stops_same r q a b stop.deep stop.ended e f = absurd (not_both q r b a f e)

  pub hands_one : (r q : Reading) → Hands look edition s r x → Hands look edition s q x → r ≡ q
  hands_one r q a b =
      ap (λ (l : List Row). record { rows = l; stop = r.stop }) (all_same r q a b)
      ∙ ap (λ (w : Stop). record { rows = q.rows; stop = w }) (stops_same r q a b r.stop q.stop refl refl)
