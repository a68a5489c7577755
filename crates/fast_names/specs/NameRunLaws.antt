-- What passing the parts of a name at once does to its end.
--     runs_on, runs_count   a run behind others that were passed, and one that ends in a block
--     part_once             a part of a name passes at once
--     name_over             the run is over where an ASCII character stands that is no part
--     name_reach            a name of ASCII characters reaches to where its parts end
-- Assumes nothing.
use Rattle.std.specs.Prelude.{ℕ, ◌+◌, ◌-◌, ◌≤◌, ◌<◌, ◌≡◌, refl, List, length, get_or}
use Rattle.std.proofs.Common.{arith, sym, ◌∙◌, lt-ltb}
use Rattle.position.specs.Place.{along_by}
use Rattle.position.specs.declared.Reach.{Reach}
use Rattle.property.specs.Table.{properties_at}
use Rattle.fitness.specs.Fit.{FitTable}
use Rattle.fitness.specs.Ascii.{is_name_part}
use Rattle.text.specs.Bytes.{byte_at}
use Rattle.text.specs.Chars.{LenIs}
use Rattle.text.specs.CountLaws.{along_stands, id_continue_once}
use Rattle.text.specs.Stands.{Stands, chars_from}
use Rattle.state.specs.Lexer.{reach_of}
use Rattle.state.specs.declared.Lexer.{Lexer}
use Rattle.names.specs.ConsumeIdOrKeyword.{name_end}
use Rattle.names.specs.NameLaws.{ascii_len, name_end_at}
pub use Rattle.name_runs.specs.RunsLaws.{part_once, name_over}
use Rattle.skip.specs.Skip.{Passed, Counts}
use Rattle.skip.specs.SkipLaws.{passes_on, passes_count}
use Rattle.skip.specs.PastLaws.{past_end, past_from, past_ran}
use Rattle.fast_names.specs.NameRun.{NameRun}

pub runs_on : {s : List ℕ} {i j k : ℕ} → Passed is_name_part s i j → NameRun s j k → NameRun s i k
runs_on p r = record { passed = passes_on p r.passed; over = r.over }

pub runs_count : {s : List ℕ} {i most n : ℕ} → i + most ≤ length s → Counts is_name_part s i most most n → n < most → NameRun s i (i + n)
runs_count h c l = record { passed = passes_count h c; over = λ _. c.out l }

-- ---- a name of ASCII characters, which its parts are from i on and before j

module _ (table s : List ℕ) (fit : FitTable table) (l : Lexer) (o : Stands s (reach_of l)) {j : ℕ} (run : NameRun s (reach_of l).byte.0 j)
    (some : (reach_of l).byte.0 < j) (low : byte_at s j < 128) where
  abbrev first : Reach
  first = along_by 1 1 (reach_of l)

  starts : byte_at s (reach_of l).byte.0 < 128
  starts =
      let i = (reach_of l).byte.0 in
      let h : i < length s = omega (arith, run.passed.within) in
      rw (lt-ltb i (length s) h) (id_continue_once.ascii (get_or s i 0) (run.passed.stays i (omega arith) some))

  letter : LenIs s (reach_of l).byte.0 1
  letter = ascii_len (byte_at s (reach_of l).byte.0) o.well refl starts

  -- behind the first character
  behind : Stands s first
  behind = along_stands _ _ _ _ _ o letter.at letter.well (omega arith)

  -- past the others
  rest : Passed is_name_part s first.byte.0 j
  rest =
      record {
        on = omega arith;
        within = run.passed.within;
        stays = λ k a b. run.passed.stays k (omega arith) b;
      }

  abbrev end : Reach
  end = along_by (j - first.byte.0) (j - first.byte.0) first

  whole : end ≡ along_by (j - (reach_of l).byte.0) (j - (reach_of l).byte.0) (reach_of l)
  whole =
      let n : (reach_of l).byte.0 + 1 + (j - ((reach_of l).byte.0 + 1)) ≡ (reach_of l).byte.0 + (j - (reach_of l).byte.0) = omega arith in
      let m : (reach_of l).position.column.0 + 1 + (j - ((reach_of l).byte.0 + 1)) ≡ (reach_of l).position.column.0 + (j - (reach_of l).byte.0) = omega arith in
      rw (n, m)

  pub name_reach : name_end (properties_at table) (chars_from s (reach_of l)) l ≡ along_by (j - (reach_of l).byte.0) (j - (reach_of l).byte.0) (reach_of l)
  name_reach =
      sym
      (name_over table s fit end (past_end first rest refl) refl low run.over
      ∙ (past_ran s table fit id_continue_once (λ x e. e) behind (past_from rest refl)).same
      ∙ name_end_at (properties_at table) s l {r = first} refl letter.at refl)
      ∙ whole
