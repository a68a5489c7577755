-- A turn stays within the source: what it passes are whole characters of it, with no more columns than their bytes allow.
--     plain_safe     what `FollowLaws` asks of a loop's turn, of the arms in common
--     two, pair      two ASCII characters that are passed
-- Assumes nothing.
use Rattle.std.specs.Prelude.{ℕ, ◌+◌, ◌<◌, ◌≡◌, refl, true, List, length, drop}
use Rattle.std.proofs.Common.{arith, sym, subst, eqb-true}
use Rattle.base.specs.PickLaws.{by_eq}
use Rattle.utf8.specs.Encode.{WellFormed}
use Rattle.text.specs.Bytes.{byte_at}
use Rattle.text.specs.Tests.{cr, lf}
use Rattle.text.specs.CountLaws.{width_most_lem}
use Rattle.text.specs.Stands.{Passes, Within, Safe}
use Rattle.text.specs.FollowLaws.{here, one_char, one_more_lem, one_ascii}
use Rattle.newlines.specs.PlainTurn.{plain_turn}
use Rattle.newlines.specs.TurnLaws.{is_pair, both, len_one, arms_at}

pub plain_safe : (look : ℕ → ℕ) (s : List ℕ) → Safe (plain_turn look) s
unfolding plain_turn
plain_safe look s i h w =
    let c = here s i w h in
    let p = one_char s i c.code c.len c.at c.well in
    let one : c.code < 128 → Passes s i 1 = λ k. subst (Passes s i) (len_one c.at k) p in
    subst (Within s i) (sym (arms_at look s i (plain_turn look) (λ _ rest. search refl) c.code c.len c.at c.well))
    (by_eq (Within s i) c.code cr
    (λ e. by_eq (Within s i) (byte_at s (i + 1)) lf (λ f. one_more_lem s i 1 lf (one (omega arith)) f (omega arith)) (λ _. tt))
    (λ _. by_eq (Within s i) c.code lf (λ e. one (omega arith)) (λ _. (p, omega (arith, width_most_lem (look c.code), p.some)))))

module _ (s : List ℕ) (i : ℕ) (h : i < length s) (w : WellFormed (drop i s)) where
  -- two ASCII characters
  pub two : (d e : ℕ) → byte_at s i ≡ d → d < 128 → byte_at s (i + 1) ≡ e → e < 128 → Passes s i 2
  two d e f k g l = one_more_lem s i 1 e (one_ascii s i d w f k) g l

  pub pair : (d e : ℕ) → d < 128 → e < 128 → is_pair s i d e ≡ true → Passes s i 2
  pair d e k l t = let b = both _ _ t in two d e (eqb-true _ _ b.0) k (eqb-true _ _ b.1) l
