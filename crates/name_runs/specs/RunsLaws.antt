-- Laws of runs with their numbers at hand, and of the characters of a name.
--     run_is, run_has          the run of a number; and of a code point that it has
--     keeps_has                a run that has the code point by its own numbers
--     point_is                 a character with the properties of the run that has it
--     part_once                a part of a name passes at once
--     name_over                the run is over where an ASCII character stands that is no part
-- Assumes nothing.
use Rattle.std.specs.Prelude.{ℕ, ◌+◌, ◌≤◌, ◌<◌, ◌≡◌, true, false, List, length, get_or, drop}
use Rattle.std.proofs.Common.{arith, sym, ap, subst, ◌∙◌, lt-ltb, ne_eqb}
use Rattle.position.specs.declared.Reach.{Reach}
use Rattle.utf8.specs.Encode.{WellFormed}
use Rattle.utf8.specs.Chars.{chars}
use Rattle.utf8.specs.CharsLaws.{at_char, rest_at}
use Rattle.property.specs.Table.{properties_at, start_at, HasRun, Rises}
use Rattle.property.specs.TableLaws.{run_properties, in_run}
use Rattle.fitness.specs.Fit.{FitTable}
use Rattle.fitness.specs.Ascii.{is_name_part}
use Rattle.fitness.specs.SmallLaws.{ascii_continue}
use Rattle.text.specs.Bytes.{byte_at}
use Rattle.text.specs.Chars.{CharIs}
use Rattle.text.specs.Tests.{id_continue, test_utf8_of}
use Rattle.text.specs.Count.{run_test}
use Rattle.text.specs.CountLaws.{run_stop, Once, id_continue_once}
use Rattle.text.specs.Stands.{chars_from}
use Rattle.text.specs.FollowLaws.{byte_within, ascii_head}
use Rattle.text.specs.declared.Char.{Char}
use Rattle.name_runs.specs.Runs.{over_at, run_at, RunIs, RunHas, PointIs}
use Rattle.name_runs.specs.declared.Point.{Point}
use Rattle.name_runs.specs.declared.Run.{Run}

-- ---- runs

module _ (table : List ℕ) (rises : Rises table) (k : ℕ) (h : k < length table) where
  before_next : (c : ℕ) → c < over_at table k → k + 1 < length table → c < start_at table (k + 1)
  unfolding over_at
  before_next c l m = rw (ne_eqb (k + 1) (length table) (λ e. omega arith)) at l

  pub run_is : {r : Run} → r ≡ run_at table k → RunIs table r
  run_is {r} e =
      subst (RunIs table) (sym e)
      (record { same = λ c low l. sym (run_properties table c k (in_run table c k rises h low (before_next c l))) })

  pub run_has : {r : Run} (code : ℕ) → r ≡ run_at table k → HasRun table code k → RunHas table code r
  run_has {r} code e d =
      record { runs = run_is e; has = ap (λ (x : Run). x.properties) e ∙ sym (run_properties table code k d) }

pub keeps_has : {table : List ℕ} {r : Run} (code : ℕ) → RunIs table r → r.low ≤ code → code < r.over → RunHas table code r
keeps_has code d low h = record { runs = d; has = d.same code low h }

-- ---- characters

-- the character by its parts
abbrev pub char_by : Point → Run → Char
char_by p r = record { code = p.code; len = p.len; properties = r.properties }

pub point_is : {s table : List ℕ} {i : ℕ} → WellFormed (drop i s) → {p : Point} {r : Run} → PointIs s i p → RunHas table p.code r
    → CharIs s table i (char_by p r)
point_is {s} {table} {i} w {p} e d =
    record { at = at_char s i p.code p.len e; properties = d.has; well = rest_at s i p.code p.len w e }

-- ---- the parts of a name

pub part_once : (table : List ℕ) → FitTable table → (x : ℕ) → is_name_part x ≡ true → Once table id_continue x
part_once = id_continue_once.passes

pub name_over : (table s : List ℕ) → FitTable table → (r : Reach) {j b : ℕ} → j ≡ r.byte.0 → b ≡ byte_at s j → b < 128
    → (j < length s → is_name_part (get_or s j 0) ≡ false) → r ≡ run_test (properties_at table) id_continue r (chars_from s r)
unfolding id_continue
name_over table s fit r {j} {b} at e h over =
    let look = properties_at table in
    let k : j < length s = byte_within s j b (sym e) (omega arith) in
    let g : b ≡ get_or s j 0 = e ∙ rw (lt-ltb j (length s) k) in
    let stops : test_utf8_of look id_continue b ≡ false = ascii_continue table fit b h ∙ ap is_name_part g ∙ over k in
    sym
    (ap (λ (i : ℕ). run_test look id_continue r (chars (drop i s))) (sym at)
    ∙ run_stop look (test_utf8_of look id_continue) r s j b 1 (ascii_head s j b (sym e) h) stops)
