-- What a wrong answer is: a call for C with all that goes in, and all that some program might return and write for it. It is shut out where
-- no such numbers meet the call's contract; `TableLaws` proves that of each in `Table`. An edit of the code shows one program that is
-- refused; this shuts the answer out for all of them.
-- Assumes nothing.
use Rattle.std.specs.Prelude.{ℕ, List, [], ◌∷◌}
use Rattle.pool_rows.specs.declared.Counts.{Counts}
use Rattle.pool_lent.specs.declared.Entry.{Entry}
use Rattle.koto_text.specs.Bytes.{ReadCharIs, CheckUtf8Is}
use Rattle.koto_text.specs.Tables.{CheckTableIs, ReadTableIs}
use Rattle.koto_text.specs.Clusters.{FirstClusterIs}
use Rattle.koto_lexer.specs.Scans.{ScanIs}
use Rattle.koto_half.specs.Halves.{ScanHalfIs}
use Rattle.koto_fast.specs.Fast.{ScanFastIs}
use Rattle.koto_profile.specs.Profiles.{ScanProfileIs}
use Rattle.cursor_numbers.specs.Cursors.{NextIs, PeekIs, LookAheadIs}
use Rattle.koto_check.specs.Checks.{CheckListIs}
use Rattle.koto_rescan.specs.Rescans.{edit_of, RescanIs}
use Rattle.koto_pool.specs.Pools.{AddStringIs}
use Rattle.koto_pool.specs.Formats.{ParseIs}
use Rattle.koto_desks.specs.Words.{lent_by}
use Rattle.koto_desks.specs.Strings as strings
use Rattle.koto_desks.specs.Formats as formats
use Rattle.koto_desks.specs.Compacts.{CompactIs}
use Rattle.koto_pad.specs.Pads.{PadIs}
use Rattle.koto_writer.specs.Writes.{WriteIs}

-- what goes in, then what comes out: the words that are left, and last the number that is returned
pub data Wrong : Type 0 where
  -- bytes, place; code point, length
  read_char : (bytes : List ℕ) (at code len r : ℕ) → Wrong
  -- bytes; place
  check_utf8 : (bytes : List ℕ) (place r : ℕ) → Wrong
  -- table; place
  check_table : (table : List ℕ) (place r : ℕ) → Wrong
  -- file, row; row, count, place
  read_table : (bytes old new : List ℕ) (count place r : ℕ) → Wrong
  -- source, table, edition; length, place
  first_cluster : (source table : List ℕ) (edition len place r : ℕ) → Wrong
  -- source, table, edition, list; list, status, count, byte
  scan : (source table : List ℕ) (edition : ℕ) (old new : List ℕ) (status count byte r : ℕ) → Wrong
  scan_half : (source table : List ℕ) (edition : ℕ) (old new : List ℕ) (status count byte r : ℕ) → Wrong
  scan_fast : (source table : List ℕ) (edition : ℕ) (old new : List ℕ) (status count byte r : ℕ) → Wrong
  scan_profile : (source table : List ℕ) (edition : ℕ) (old new : List ℕ) (status count byte r : ℕ) → Wrong
  -- list, the cursor's four numbers; taken, queued, shown, record, place
  next : (list : List ℕ) (taken queued count status newTaken newQueued shown : ℕ) (words : List ℕ) (place r : ℕ) → Wrong
  -- list, the cursor's four numbers, position; queued, shown, record, place
  peek : (list : List ℕ) (taken queued count status n newQueued shown : ℕ) (words : List ℕ) (place r : ℕ) → Wrong
  look_ahead : (list : List ℕ) (taken queued count status n newQueued shown : ℕ) (words : List ℕ) (place r : ℕ) → Wrong
  -- source, table, edition, list, its count and status; same, the index that is named, place
  check_list : (source table : List ℕ) (edition : ℕ) (list : List ℕ) (count status same differs place r : ℕ) → Wrong
  -- old source, its list and count, the edit's three numbers, new source, table, edition, list; list, status, count, byte
  rescan : (source from : List ℕ) (oldCount place removed put_in : ℕ) (new-source table : List ℕ) (edition : ℕ) (old new : List ℕ)
      (status count byte r : ℕ) → Wrong
  -- string, pool; pool, index, place
  add_string : (string bytes : List ℕ) (entries : List Entry) (counts : Counts) (new_bytes : List ℕ) (new_entries : List Entry)
      (newCounts : Counts) (index place r : ℕ) → Wrong
  -- format string, table, edition, pool; pool, options, value
  parse : (format table : List ℕ) (edition : ℕ) (bytes : List ℕ) (entries : List Entry) (counts : Counts) (new_bytes : List ℕ)
      (new_entries : List Entry) (newCounts : Counts) (options : List ℕ) (value r : ℕ) → Wrong
  -- desk, string, pool, owners, counts, desks; what is left of the rows, index, place
  desk_add : (desk : ℕ) (string bytes entries owners counts desks new_bytes new_entries newOwners newCounts newDesks : List ℕ) (index place r : ℕ) → Wrong
  -- desk, format string, table, edition, pool, owners, counts, desks; what is left of the rows, options, value
  desk_parse : (desk : ℕ) (format table : List ℕ) (edition : ℕ) (bytes entries owners counts desks new_bytes new_entries newOwners newCounts
      newDesks options : List ℕ) (value r : ℕ) → Wrong
  -- marks of both desks, pool, owners, counts, desks, translation row; what is left of the rows
  compact : (first second bytes entries owners counts desks moved new_bytes new_entries newOwners newCounts newDesks newMoved : List ℕ) (r : ℕ) → Wrong
  -- text, alignment, width, whether a fill is given, fill, table, edition, buffer; buffer, length, place
  pad : (text : List ℕ) (alignment width filled : ℕ) (fill table : List ℕ) (edition : ℕ) (old new : List ℕ) (len place r : ℕ) → Wrong
  -- alignment, width, precision, representation, whether a fill is given, fill, table, edition, buffer; buffer, length, place
  write_format : (alignment width precision representation filled : ℕ) (fill table : List ℕ) (edition : ℕ) (old new : List ℕ)
      (len place r : ℕ) → Wrong

-- it meets the call's contract
abbrev pub Meets : Wrong → Type 0
Meets (read_char bytes at code len r) = ReadCharIs bytes at code len r
Meets (check_utf8 bytes place r) = CheckUtf8Is bytes place r
Meets (check_table table place r) = CheckTableIs table place r
Meets (read_table bytes old new count place r) = ReadTableIs bytes old new count place r
Meets (first_cluster source table edition len place r) = FirstClusterIs source table edition len place r
Meets (scan source table edition old new status count byte r) = ScanIs source table edition old new status count byte r
Meets (scan_half source table edition old new status count byte r) = ScanHalfIs source table edition old new status count byte r
Meets (scan_fast source table edition old new status count byte r) = ScanFastIs source table edition old new status count byte r
Meets (scan_profile source table edition old new status count byte r) = ScanProfileIs source table edition old new status count byte r
Meets (next list taken queued count status newTaken newQueued shown words place r) =
    NextIs list taken queued count status newTaken newQueued shown words place r
Meets (peek list taken queued count status n newQueued shown words place r) = PeekIs list taken queued count status n newQueued shown words place r
Meets (look_ahead list taken queued count status n newQueued shown words place r) =
    LookAheadIs list taken queued count status n newQueued shown words place r
Meets (check_list source table edition list count status same differs place r) =
    CheckListIs source table edition list count status same differs place r
Meets (rescan source from oldCount place removed put_in new-source table edition old new status count byte r) =
    RescanIs source from oldCount (edit_of place removed put_in) new-source table edition old new status count byte r
Meets (add_string string bytes entries counts new_bytes new_entries newCounts index place r) =
    AddStringIs string bytes entries counts new_bytes new_entries newCounts index place r
Meets (parse format table edition bytes entries counts new_bytes new_entries newCounts options value r) =
    ParseIs format table edition bytes entries counts new_bytes new_entries newCounts options value r
Meets (desk_add desk string bytes entries owners counts desks new_bytes new_entries newOwners newCounts newDesks index place r) =
    strings.AddStringIs desk string (lent_by bytes entries owners counts desks) new_bytes new_entries newOwners newCounts newDesks index place r
Meets (desk_parse desk format table edition bytes entries owners counts desks new_bytes new_entries newOwners newCounts newDesks options value r) =
    formats.ParseIs desk format table edition (lent_by bytes entries owners counts desks) new_bytes new_entries newOwners newCounts newDesks options
    value r
Meets (compact first second bytes entries owners counts desks moved new_bytes new_entries newOwners newCounts newDesks newMoved r) =
    CompactIs first second (lent_by bytes entries owners counts desks) moved new_bytes new_entries newOwners newCounts newDesks newMoved r
Meets (pad text alignment width filled fill table edition old new len place r) =
    PadIs text alignment width filled fill table edition old new len place r
Meets (write_format alignment width precision representation filled fill table edition old new len place r) =
    WriteIs alignment width precision representation filled fill table edition old new len place r

-- and so no program gives it
abbrev pub ShutOut : Wrong → Type 0
ShutOut w = Meets w → ⊥

-- of all of some
abbrev pub AllShutOut : List Wrong → Type 0
AllShutOut [] = Unit {0}
AllShutOut (w ∷ ws) = ShutOut w × AllShutOut ws
