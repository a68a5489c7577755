-- Details that may be shown, and how great they are.
--     none_allowed, normal_allowed, raw_allowed    every detail that a token can have may be shown
--     plain_fits, raw_fits                         so may every token of these kinds
--     allowed_most                                 a detail that may be shown is at most `detail_most`
-- Assumes nothing.
use Rattle.std.specs.Prelude.{◌≡◌, refl, Bool, true, ℕ, ◌+◌, ◌*◌, ◌≤◌, ◌<◌, leb}
use Rattle.std.proofs.Math.Bool.{and-eq-true_iff}
use Rattle.std.proofs.Common.{arith, leb-true, eqb-true, le-leb}
use Rattle.base.specs.PickLaws.{by_eq}
use Rattle.token.specs.Kind.{string_start, kind_most}
use Rattle.token.specs.Detail.{double_quote, hashes_most, normal_detail, raw_detail, detail_most, detail_allowed, fits}

pub none_allowed : (kind : ℕ) → detail_allowed kind 0 ≡ true
none_allowed kind = by_eq (λ (b : Bool). b ≡ true) kind string_start (λ _. refl) (λ _. refl)

pub normal_allowed : (quote : ℕ) → detail_allowed string_start (normal_detail quote) ≡ true
normal_allowed quote = by_eq (λ (d : ℕ). leb d detail_most ≡ true) quote double_quote (λ _. refl) (λ _. refl)

pub raw_allowed : (quote hashes : ℕ) → hashes ≤ hashes_most → detail_allowed string_start (raw_detail quote hashes) ≡ true
raw_allowed quote hashes h =
    by_eq (λ (d : ℕ). leb d detail_most ≡ true) quote double_quote (λ _. le-leb (2 + 2 * hashes) detail_most (omega arith))
    (λ _. le-leb (3 + 2 * hashes) detail_most (omega arith))

pub plain_fits : (kind : ℕ) → kind ≤ kind_most → fits kind 0 ≡ true
plain_fits kind h = (and-eq-true_iff (leb kind kind_most) (detail_allowed kind 0)).1 (le-leb kind kind_most h, none_allowed kind)

-- the start of a raw string, by its delimiter: twice the hash count, and 1 more for a single quote
pub raw_fits : (delimiter : ℕ) → delimiter < 512 → fits string_start (2 + delimiter) ≡ true
raw_fits delimiter h = le-leb (2 + delimiter) detail_most (omega arith)

pub allowed_most : (kind detail : ℕ) → detail_allowed kind detail ≡ true → detail ≤ detail_most
allowed_most kind detail =
    by_eq (λ (b : Bool). b ≡ true → detail ≤ detail_most) kind string_start (λ _ e. leb-true _ _ e) (λ _ e. omega (arith, eqb-true detail 0 e))
