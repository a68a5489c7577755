-- The loop that counts the hashes after a quote of a raw string, and the turn that its count makes.
--     Counting, counting, counts_on, short, full     the count by itself: where it begins, one more, and its ways out
--     AtQuote, begins_count, counts_more             the same inside the loop over the contents: what it keeps, where it begins, one more
--     short_turn, full_turn, other_turn              the turn where a hash is missing, where all are there, and where there is no quote
-- Assumes nothing.
use Prim.Native.Nat.{ℕ, suc, ◌+◌, ◌-◌, ◌≤◌, ◌<◌}
use native.Mathlib.Omega.{arith}
use native.Mathlib.Nat.{add-zero}
use mathlib.Core.Path.{◌≡◌, refl, sym, ap, subst, ◌∙◌}
use mathlib.Core.List.{List}
use lib.ListN.{length, drop}
use borrow.Author.Tests.{eq-eqb, ne_eqb}
use Rattle.base.specs.CasesLaws.{pick_yes, pick_no}
use Rattle.position.specs.Place.{along_by}
use Rattle.position.specs.declared.Reach.{Reach}
use Rattle.utf8.specs.Encode.{WellFormed}
use Rattle.utf8.specs.Chars.{chars}
use Rattle.text.specs.Bytes.{byte_at}
use Rattle.text.specs.Tests.{hash}
use Rattle.text.specs.CountLaws.{skip_one}
use Rattle.text.specs.Follow.{turn_at}
use Rattle.text.specs.Stands.{Going}
use Rattle.text.specs.FollowLaws.{byte_within}
use Rattle.text.specs.declared.Turn.{Turn}
use Rattle.text.specs.declared.Turn.TheVariants.{Pass, Close}
use Rattle.state.specs.Modes.{quote_of, hash_count_of}
use Rattle.newlines.specs.PlainTurn.{plain_turn}
use Rattle.strings.specs.ConsumeRawString.{hashes, quote_turn, raw_turn}
use Rattle.strings.specs.TurnLaws.{quote_ascii, raw_at}
use Rattle.strings.specs.HashLaws.{hash_more, hash_none, hash_zero}
use Rattle.strings.specs.SafeLaws.{raw_safe}
use Rattle.newlines.proofs.Loops.{going_well, Turns}

-- k hashes were seen after the quote at i, of at most so many
pub record Counting (s : List ℕ) (most i k : ℕ) : Type 0 where
  pub less : k ≤ most
  pub well : WellFormed (drop (i + 1 + k) s)
  pub inside : i + 1 + k ≤ length s
  pub run : k + hashes (most - k) (chars (drop (i + 1 + k) s)) ≡ hashes most (chars (drop (i + 1) s))

module _ (s : List ℕ) (most i : ℕ) where
  counting : (q : ℕ) → byte_at s i ≡ q → q < 128 → WellFormed (drop i s) → Counting s most i 0
  counting q e h w =
      let a : i + 1 ≡ i + 1 + 0 = omega arith in
      let b : most - 0 ≡ most = omega arith in
      record {
        less = omega arith;
        well = subst (λ (j : ℕ). WellFormed (drop j s)) a (skip_one s i q w e h).well;
        inside = omega (arith, byte_within s i q e (omega arith));
        run = rw (← a, b) (omega arith);
      }

  module _ (k : ℕ) (g : Counting s most i k) where
    counts_on : k < most → byte_at s (i + 1 + k) ≡ hash → Counting s most i (k + 1)
    counts_on h e =
        let a : i + 1 + k + 1 ≡ i + 1 + (k + 1) = omega arith in
        let b : most - k ≡ suc (most - (k + 1)) = omega arith in
        let more : hashes (most - k) (chars (drop (i + 1 + k) s)) ≡ suc (hashes (most - (k + 1)) (chars (drop (i + 1 + (k + 1)) s))) =
        ap (λ (m : ℕ). hashes m (chars (drop (i + 1 + k) s))) b
        ∙ hash_more s (most - (k + 1)) (i + 1 + k) e
        ∙ ap (λ (j : ℕ). suc (hashes (most - (k + 1)) (chars (drop j s)))) a in
        record {
          less = omega arith;
          well = subst (λ (j : ℕ). WellFormed (drop j s)) a (skip_one s (i + 1 + k) hash g.well e (omega arith)).well;
          inside = omega (arith, byte_within s (i + 1 + k) hash e (omega arith));
          run = omega (arith, more, g.run);
        }

    short : (byte_at s (i + 1 + k) ≡ hash → ⊥) → hashes most (chars (drop (i + 1) s)) ≡ k
    short n = omega (arith, hash_none s (most - k) (i + 1 + k) g.well n, g.run)

    full : most ≤ k → hashes most (chars (drop (i + 1) s)) ≡ most
    full h =
        let z : most - k ≡ 0 = omega arith in
        omega (arith, ap (λ (m : ℕ). hashes m (chars (drop (i + 1 + k) s))) z ∙ hash_zero (chars (drop (i + 1 + k) s)), g.run)

-- ---- the loop around it

-- the loop over the contents stands at i, where a quote is, and k hashes were seen after it
pub record AtQuote (look : ℕ → ℕ) (delimiter quote most : ℕ) (s : List ℕ) (start : Reach) (i₀ : ℕ) (r : Reach) (i k : ℕ) : Type 0 where
  pub going : Going (raw_turn look delimiter) s start r i
  pub at : i ≡ i₀
  pub quote_is : quote ≡ quote_of delimiter
  pub most_is : most ≡ hash_count_of delimiter
  pub quoted : byte_at s i ≡ quote
  pub counted : Counting s most i k

module _ (look : ℕ → ℕ) (s : List ℕ) (delimiter i : ℕ) (w : WellFormed (drop i s)) (h : i < length s) where
  abbrev turn : Turn
  turn = turn_at (raw_turn look delimiter) (chars (drop i s))

  -- the turn at a quote with n hashes after it
  at_quote : (quote most n : ℕ) → quote ≡ quote_of delimiter → most ≡ hash_count_of delimiter → byte_at s i ≡ quote
      → hashes most (chars (drop (i + 1) s)) ≡ n → quote_turn most n ≡ turn
  at_quote quote most n q m e f =
      sym
      (raw_at s i w h look delimiter
      ∙ pick_yes _ _ _ _ (eq-eqb _ _ (e ∙ q)) (rw (← m) (ap (quote_turn most) f)))

  at_other : {t : Turn} → (byte_at s i ≡ quote_of delimiter → ⊥) → t ≡ turn_at (plain_turn look) (chars (drop i s)) → t ≡ turn
  at_other n e = e ∙ sym (raw_at s i w h look delimiter ∙ pick_no _ _ _ _ (ne_eqb _ _ n) refl)

pub begins_count : {look : ℕ → ℕ} {delimiter quote most : ℕ} {s : List ℕ} {start r : Reach} {i : ℕ} → Going (raw_turn look delimiter) s start r i
    → quote ≡ quote_of delimiter → most ≡ hash_count_of delimiter → byte_at s i ≡ quote → AtQuote look delimiter quote most s start i r i 0
begins_count {look} {delimiter} {quote} {most} {s} {start} {r} {i} g q m e =
    record {
      going = g;
      at = refl;
      quote_is = q;
      most_is = m;
      quoted = e;
      counted = counting s most i quote e (rw q (quote_ascii delimiter)) (going_well g);
    }

module _ {look : ℕ → ℕ} {delimiter quote most : ℕ} {s : List ℕ} {start : Reach} {i₀ : ℕ} {r : Reach} {i k : ℕ}
    (g : AtQuote look delimiter quote most s start i₀ r i k) where
  pub counts_more : k < most → byte_at s (i + 1 + k) ≡ hash → AtQuote look delimiter quote most s start i₀ r i (k + 1)
  counts_more h e =
      record {
        going = g.going;
        at = g.at;
        quote_is = g.quote_is;
        most_is = g.most_is;
        quoted = g.quoted;
        counted = counts_on s most i k g.counted h e;
      }

  inside : i < length s
  inside = omega (arith, g.counted.inside)

  -- a hash is missing
  pub short_turn : k < most → (byte_at s (i + 1 + k) ≡ hash → ⊥) → Turns (raw_turn look delimiter) s start r i (Pass (1 + k) (1 + k))
  unfolding quote_turn
  short_turn h n =
      record {
        safe = raw_safe look delimiter s;
        going = g.going;
        within = inside;
        is = sym (pick_no _ _ _ _ (ne_eqb k most (λ q. omega arith)) refl)
            ∙ at_quote look s delimiter i (going_well g.going) inside quote most k g.quote_is g.most_is g.quoted
            (short s most i k g.counted n);
      }

  -- all are there
  pub full_turn : most ≤ k → Turns (raw_turn look delimiter) s start r i (Close 0 0)
  unfolding quote_turn
  full_turn h =
      record {
        safe = raw_safe look delimiter s;
        going = g.going;
        within = inside;
        is = sym (pick_yes _ _ _ _ (eq-eqb most most refl) refl)
            ∙ at_quote look s delimiter i (going_well g.going) inside quote most most g.quote_is g.most_is g.quoted
            (full s most i k g.counted h);
      }

-- no quote
pub other_turn : (look : ℕ → ℕ) (delimiter : ℕ) {s : List ℕ} {start r : Reach} {i : ℕ} {t : Turn} → Going (raw_turn look delimiter) s start r i
    → i < length s → (byte_at s i ≡ quote_of delimiter → ⊥) → t ≡ turn_at (plain_turn look) (chars (drop i s))
    → Turns (raw_turn look delimiter) s start r i t
other_turn look delimiter {s} {start} {r} {i} g h n e =
    record { safe = raw_safe look delimiter s; going = g; within = h; is = at_other look s delimiter i (going_well g) h n e }

-- closed where it stands
pub along_none : (r : Reach) → r ≡ along_by 0 0 r
along_none r = simp add-zero
