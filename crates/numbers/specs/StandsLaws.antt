-- Where the definitions of whitespace and numbers lead, whatever code there is: the reach after the token stands in the source again, and at
-- least one byte further on.
--     along_goes                      so many ASCII characters on
--     whitespace_goes, number_goes    of each public function
-- Assumes nothing.
use Rattle.std.specs.Prelude.{ℕ, ◌+◌, ◌≤◌, ◌<◌, ◌≡◌, refl, true, List, length, drop}
use Rattle.std.proofs.Common.{arith, lt-ltb}
use Rattle.position.specs.Place.{along_by}
use Rattle.position.specs.declared.Reach.{Reach}
use Rattle.utf8.specs.Chars.{chars}
use Rattle.text.specs.Bytes.{byte_at}
use Rattle.text.specs.Tests.{is_whitespace}
use Rattle.text.specs.Count.{count_while}
use Rattle.text.specs.Stands.{Stands, chars_from}
use Rattle.text.specs.FollowLaws.{byte_within}
use Rattle.text.specs.CountLaws.{count_more, whitespace_ascii}
use Rattle.state.specs.Lexer.{reach_of}
use Rattle.state.specs.declared.Lexer.{Lexer}
use Rattle.numbers.specs.Places.{PlaceIn, GoesOn}
use Rattle.numbers.specs.PlaceLaws.{place_of_lem, run_place}
use Rattle.numbers.specs.ConsumeWhitespace.{consume_whitespace}
use Rattle.numbers.specs.ConsumeNumber.{number_bytes, consume_number}
use Rattle.numbers.specs.NumberLaws.{number_place}

-- so many ASCII characters on
pub along_goes : {s : List ℕ} {r : Reach} (n : ℕ) → Stands s r → PlaceIn s (r.byte.0 + n) → 0 < n → GoesOn s r (along_by n n r)
along_goes n o p h =
    record {
      stands = record {
        small = o.small;
        inside = p.inside;
        well = p.well;
        lines = omega (arith, o.lines);
        columns = omega (arith, o.columns);
      };
      on = omega arith;
    }

-- ---- whitespace and numbers

pub whitespace_goes : (s : List ℕ) (l : Lexer) → Stands s (reach_of l) → is_whitespace (byte_at s (reach_of l).byte.0) ≡ true
    → GoesOn s (reach_of l) (reach_of (consume_whitespace (chars_from s (reach_of l)) l).lexer)
whitespace_goes s l o h =
    let i = (reach_of l).byte.0 in
    let k : i < length s = byte_within s i (byte_at s i) refl (omega (arith, whitespace_ascii (byte_at s i) h)) in
    let m = count_more is_whitespace whitespace_ascii s i o.well k (rw (lt-ltb i (length s) k) at h) in
    along_goes (count_while is_whitespace (chars (drop i s))) o (run_place (place_of_lem o) whitespace_ascii) (omega (arith, m.0))

pub number_goes : (s : List ℕ) (l : Lexer) → Stands s (reach_of l)
    → (48 ≤ byte_at s (reach_of l).byte.0) × (byte_at s (reach_of l).byte.0 ≤ 57)
    → GoesOn s (reach_of l) (reach_of (consume_number (chars_from s (reach_of l)) l).lexer)
unfolding number_bytes
number_goes s l o h = along_goes (number_bytes (chars_from s (reach_of l))) o (number_place (place_of_lem o) (omega (arith, h))) (omega arith)
