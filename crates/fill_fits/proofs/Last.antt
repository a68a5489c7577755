-- What the loop of `last_code` keeps: the last character from here on, after the one before, is the fill's last.
--     Last: last_start, last_more, last_all    it holds at the start, after one more character, and what it gives at the end
-- Assumes nothing.
use Rattle.std.specs.Prelude.{Ok}
use Prim.Native.Nat.{ℕ, ◌+◌, ◌<◌, ◌≤◌}
use native.Mathlib.Omega.{arith}
use mathlib.Core.Path.{◌≡◌, refl, sym, ap, ◌∙◌}
use mathlib.Core.List.{List}
use lib.ListN.{length, drop}
use Rattle.utf8.specs.Read.{read_at}
use Rattle.utf8.specs.Chars.{chars}
use Rattle.utf8.specs.CharsLaws.{Stops, at_char}
use Rattle.format_number.specs.PeekLaws.{none_left}
use Rattle.fill_fits.specs.Apart.{last_of}

pub record Last (fill : List ℕ) (at last : ℕ) : Type 0 where
  pub within : at ≤ length fill
  pub same : last_of last (chars (drop at fill)) ≡ last_of 0 (chars fill)

module _ (fill : List ℕ) where
  pub last_start : Last fill 0 0
  last_start = record { within = omega arith; same = refl }

  module _ (at last : ℕ) (v : Last fill at last) where
    -- one character more
    pub last_more : (code len : ℕ) → read_at fill at ≡ Ok (code, len) → (0 < len) × Last fill (at + len) code
    last_more code len e =
        let a = at_char fill at code len e in
        (a.some, record { within = a.fits; same = sym (ap (last_of last) a.step) ∙ v.same })

    pub last_all : Stops (read_at fill at) → last ≡ last_of 0 (chars fill)
    last_all s = sym (ap (last_of last) (none_left fill at s)) ∙ v.same
