-- Laws of places in a source, and of what a definition over characters asks there, by the bytes that the code reads.
--     place_of_lem                 where reading stands is a place
--     token_fits, bytes_read, read_place    what a token of ASCII characters asks of the lexer, how many there are, and where it ends
--     next_place, two_places   one ASCII byte on, and two
--     run_end, run_place        past a run of characters that pass a test which only ASCII passes
--     next_passes_lem              a peek at a character that passes an ASCII test is a test of the byte
--     skip_next, skip_two      so many ASCII characters on is so many bytes on
--     tests, bytes             the rules for a return of code that reads bytes
-- Assumes nothing.
use Rattle.std.specs.Prelude.{ℕ, ◌+◌, ◌-◌, ◌≤◌, ◌<◌, ◌≡◌, Bool, true, false, List, length, drop}
use Rattle.std.proofs.Common.{arith, subst, ◌∙◌}
use Rattle.std.proofs.Math.Path.{refl, sym, ap}
use borrow.Author.Tests.{le-ltb, eq-eqb, eqb-true}
use Rattle.base.specs.PickLaws.{split_lt}
use Rattle.base.specs.CasesLaws.{pick_yes, pick_no, or_yes, or_no, and_yes, and_no, told_yes, told_no, told_not, told_is}
use Rattle.base.specs.Refusal.{source_most}
use Rattle.position.specs.Position.{column_most}
use Rattle.position.specs.declared.Reach.{Reach}
use Rattle.utf8.specs.Answer.{code_of}
use Rattle.utf8.specs.Chars.{chars}
use Rattle.text.specs.Bytes.{byte_at}
use Rattle.text.specs.Tests.{is_digit}
use Rattle.text.specs.Count.{count_while}
use Rattle.text.specs.Stands.{Stands, chars_from}
use Rattle.text.specs.FollowLaws.{here, chars_end, byte_within, ascii_read, head_is}
use Rattle.text.specs.CountLaws.{Skips, skip_one, skip_both, count_within}
use Rattle.numbers.specs.Places.{PlaceIn}
use Rattle.numbers.specs.ConsumeNumber.{next_passes}

-- a test that was called on a byte that was read
pub told_digit : (t : Bool) (b m : ℕ) (v : Bool) → t ≡ is_digit b → b ≡ m → t ≡ v → is_digit m ≡ v
told_digit t b m v e f g = ap is_digit (sym f) ∙ sym e ∙ g

-- each test is of a byte that was read
pub ruleset tests = (or_yes, or_no, and_yes, and_no, told_yes, told_no, told_digit)

-- and so it is where a value is picked
pub ruleset bytes = (pick_yes, pick_no, or_yes, or_no, and_yes, and_no, told_yes, told_no, told_not, told_is, sym)

pub place_of_lem : {s : List ℕ} {r : Reach} → Stands s r → PlaceIn s r.byte.0
place_of_lem o = record { small = o.small; inside = o.inside; well = o.well }

-- a token of ASCII characters that ends at a place of the source
pub token_fits : {s : List ℕ} {r : Reach} {end : ℕ} (at : ℕ) → Stands s r → PlaceIn s end
    → ((r.byte.0 ≤ source_most) × (end - at ≤ source_most)) × (r.position.column.0 ≤ column_most)
token_fits at o p = omega (arith, o.small, o.inside, o.columns, p.inside)

-- the bytes that were read from q on, which is r
pub bytes_read : (f : List ℕ → ℕ) (s : List ℕ) {q r : Reach} {end : ℕ} → q ≡ r → end ≡ q.byte.0 + f (chars_from s q)
    → end - q.byte.0 ≡ f (chars_from s r)
bytes_read f s {q} {r} {end} e h =
    let k : end - q.byte.0 ≡ f (chars_from s q) = omega (arith, h) in
    k ∙ ap (λ (x : Reach). f (chars_from s x)) e

pub read_place : (f : List ℕ → ℕ) {s : List ℕ} {q r : Reach} {end : ℕ} → q ≡ r → end ≡ q.byte.0 + f (chars_from s q)
    → PlaceIn s (r.byte.0 + f (chars_from s r)) → PlaceIn s end
read_place f {s} {q} {r} e h p = subst (PlaceIn s) (sym (h ∙ ap (λ (x : Reach). x.byte.0 + f (chars_from s x)) e)) p

-- the byte after the run of characters from i on that pass a test
abbrev pub run_end : (ℕ → Bool) → List ℕ → ℕ → ℕ
run_end test s i = i + count_while test (chars (drop i s))

module _ {s : List ℕ} {i : ℕ} (p : PlaceIn s i) where
  pub skip_next : byte_at s i < 128 → Skips s i 1
  skip_next h = skip_one s i (byte_at s i) p.well refl h

  pub next_place : byte_at s i < 128 → PlaceIn s (i + 1)
  next_place h =
      record {
        small = p.small;
        inside = omega (arith, byte_within s i (byte_at s i) refl (omega arith));
        well = (skip_next h).well;
      }

  pub run_place : {test : ℕ → Bool} → ((c : ℕ) → test c ≡ true → c < 128) → PlaceIn s (run_end test s i)
  run_place ascii =
      let e = count_within ascii s i p.well in
      record { small = p.small; inside = e.within p.inside; well = e.well }

module _ {s : List ℕ} {i : ℕ} (p : PlaceIn s i) where
  pub skip_two : byte_at s i < 128 → byte_at s (i + 1) < 128 → Skips s i 2
  skip_two h g = skip_both s i 1 1 (skip_next p h) (skip_next (next_place p h) g)

  pub two_places : byte_at s i < 128 → byte_at s (i + 1) < 128 → PlaceIn s (i + 2)
  two_places h g =
      record {
        small = p.small;
        inside = omega (arith, (next_place (next_place p h) g).inside);
        well = (skip_two h g).well;
      }

-- ---- tests that only ASCII characters pass

module _ (f : ℕ → Bool) (ascii : (c : ℕ) → f c ≡ true → c < 128) where
  passes_not : (c : ℕ) → 128 ≤ c → f c ≡ false
  passes_not c h = go (f c) refl
    where
      go : (b : Bool) → f c ≡ b → f c ≡ false
      go true e = absurd (omega (arith, ascii c e))
      go false e = e

  pub next_passes_lem : {s : List ℕ} {i : ℕ} → PlaceIn s i → next_passes f (chars (drop i s)) ≡ f (byte_at s i)
  unfolding next_passes
  next_passes_lem {s} {i} p =
      split_lt i (length s)
      (λ k. let c = here s i p.well k in
      rw c.at.step
      (split_lt c.code 128
      (λ a. ap f (sym (eqb-true _ _ (sym (head_is s i c.code c.len c.code c.read k a) ∙ eq-eqb c.code _ refl))))
      (λ a. passes_not c.code a
      ∙ sym
      (passes_not (byte_at s i)
      (split_lt (byte_at s i) 128
      (λ b. let g : c.code ≡ byte_at s i = ap code_of (sym c.read ∙ ascii_read s i (byte_at s i) refl b) in
      omega arith)
      (λ b. b))))))
      (λ k. rw (chars_end s i k, le-ltb i (length s) k) (sym (passes_not 256 (omega arith))))
