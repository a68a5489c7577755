-- More than 255 hashes open no raw string. Assumes nothing.
use Prim.Native.Nat.{ℕ, ◌-◌, ◌<◌}
use mathlib.Core.Path.{◌≡◌, refl, ◌∙◌}
use mathlib.Core.List.{List}
use lib.ListN.{drop}
use borrow.Author.Tests.{lt-ltb}
use Rattle.std.specs.Prelude.{None}
use Rattle.utf8.specs.Chars.{chars}
use Rattle.text.specs.Tests.{is_hash}
use Rattle.numbers.specs.Places.{PlaceIn}
use Rattle.numbers.specs.PlaceLaws.{run_end}
use Rattle.names.specs.ConsumeIdOrKeyword.{parse_raw_string_start}
use Rattle.names.specs.NameLaws.{raw_start_at}

pub too_many : (s : List ℕ) (i : ℕ) → PlaceIn s i → 255 < run_end is_hash s i - i → parse_raw_string_start (chars (drop i s)) ≡ None
too_many s i p h = raw_start_at p refl ∙ rw (lt-ltb 255 (run_end is_hash s i - i) h) refl
