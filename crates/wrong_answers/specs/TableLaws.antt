-- The contracts shut out every wrong answer of the table. Each contract determines all numbers of an answer; `told` computes them, and they
-- are not those of the wrong one.
--     shut_out                               where they differ, no answer with the wrong ones meets the contract
--     bytes_shut_out, tables_shut_out, ..    the table, call by call
-- Assumes nothing.
use Rattle.std.specs.Prelude.{ℕ, ◌≡◌, refl, List, [], ◌∷◌, ◌++◌, Bool, true, false, ◌&&◌, not, length, Result}
use Rattle.std.proofs.Common.{arith, sym, ap, ◌∙◌, eq-eqb}
use Rattle.std.proofs.lemmas.Bool.{not-true}
use Rattle.base.specs.AllLaws.{and_left, and_right}
use Rattle.fitness.specs.Fit as fit
use Rattle.fitness.specs.Fit.{table_check}
use Rattle.table_file.specs.File as file
use Rattle.utf8.specs.Read.{read_at}
use Rattle.utf8.specs.Lengths as lengths
use Rattle.utf8.specs.Chars.{check_from}
use Rattle.utf8.specs.Answer as utf8
use Rattle.cluster.specs.Call as cluster
use Rattle.rows.specs.First as first
use Rattle.rows.specs.Row as rows
use Rattle.half_rows.specs.Half as half
use Rattle.reading.specs.Scan as reading
use Rattle.reading.specs.Status.{status_of, half_status_of}
use Rattle.rust.specs.TokenLexer.{state_at, handed}
use Rattle.forbidden.specs.Forbidden.{has_template, first_forbidden}
use Rattle.profile.specs.Profile as profile
use Rattle.koto_profile.specs.Profiles as profiles
use Rattle.cursor.specs.Cursor.{is_fit, record_at, moved_on, must_queue, queued_one, queued_for}
use Rattle.lookahead.specs.Told.{record_numbers, given_told, peeked_told}
use Rattle.lookahead.specs.Seen.{seen_at}
use Rattle.lookahead.specs.Next as next
use Rattle.lookahead.specs.Peek as peek
use Rattle.lookahead.specs.LookAhead.{look_ahead_of}
use Rattle.lookahead.specs.Peek.{Peeked}
use Rattle.held.specs.Held as held
use Rattle.foreign.specs.Check as check
use Rattle.edit.specs.Edit.{edit_fits}
use Rattle.keep.specs.Keep as keep
use Rattle.rescan.specs.Rescan as rescan
use Rattle.koto_rescan.specs.Rescans.{edit_of, answer_for}
use Rattle.pool.specs.Pool as pool
use Rattle.pool.specs.declared.Added.{Added}
use Rattle.pool.specs.declared.AddError.{AddError}
use Rattle.pool_rows.specs.Rows.{same}
use Rattle.pool_rows.specs.declared.Counts.{Counts}
use Rattle.pool_lent.specs.Entries.{numbers_of}
use Rattle.parse.specs.Call as parse
use Rattle.parse.specs.Numbers as numbers
use Rattle.cursor_numbers.specs.Cursors.{next_by, peek_by, look_by}
use Rattle.koto_pool.specs.Formats.{parsed}
use Rattle.desks.specs.Desks.{Shared, held_by, shared_out, fit_desks}
use Rattle.desk_add.specs.Add.{added_for}
use Rattle.desk_parse.specs.Call as desk_parse
use Rattle.slide.specs.Slide as slide
use Rattle.marks.specs.Marks as marks
use Rattle.compact.specs.Compact as compact
use Rattle.koto_desks.specs.Words.{count_words, desk_words, lent_by}
use Rattle.koto_desks.specs.Strings.{added_from, add_from}
use Rattle.koto_desks.specs.Formats.{parsed_from}
use Rattle.fills.specs.Pad.{is_width}
use Rattle.pad_input.specs.Check.{long_fill, pad_check}
use Rattle.pad.specs.Call as pad
use Rattle.koto_pad.specs.Pads as pads
use Rattle.decimal.specs.Decimal.{digits_in}
use Rattle.asked.specs.Fields as asked
use Rattle.wanted.specs.Candidate.{writable, can_write}
use Rattle.writer.specs.Call as writer
use Rattle.koto_writer.specs.Writes as writes
use Rattle.promises.specs.CasesLaws.{formats_computed}
use Rattle.wrong_answers.specs.Wrong as wrong
use Rattle.wrong_answers.specs.Wrong.{Wrong, Meets, ShutOut, AllShutOut}
use Rattle.wrong_answers.specs.Table.{of_bytes, of_tables, of_clusters, of_scans, of_tokens, of_half_scans, of_fast_scans, of_profiles, of_cursors, of_checks, of_rescans, of_pools, of_desks, of_pads, of_formats}

-- ---- the numbers of an answer

-- all that comes out, in one row
abbrev tells : Wrong → List ℕ
tells (wrong.read_char bytes at code len r) = r ∷ code ∷ len ∷ []
tells (wrong.check_utf8 bytes place r) = r ∷ place ∷ []
tells (wrong.check_table table place r) = r ∷ place ∷ []
tells (wrong.read_table bytes old new count place r) = r ∷ count ∷ place ∷ new
tells (wrong.first_cluster source table edition len place r) = r ∷ len ∷ place ∷ []
tells (wrong.scan source table edition old new status count byte r) = r ∷ status ∷ count ∷ byte ∷ new
tells (wrong.scan_half source table edition old new status count byte r) = r ∷ status ∷ count ∷ byte ∷ new
tells (wrong.scan_fast source table edition old new status count byte r) = r ∷ status ∷ count ∷ byte ∷ new
tells (wrong.scan_profile source table edition old new status count byte r) = r ∷ status ∷ count ∷ byte ∷ new
tells (wrong.next list taken queued count status newTaken newQueued shown words place r) = r ∷ newTaken ∷ newQueued ∷ shown ∷ place ∷ words
tells (wrong.peek list taken queued count status n newQueued shown words place r) = r ∷ newQueued ∷ shown ∷ place ∷ words
tells (wrong.look_ahead list taken queued count status n newQueued shown words place r) = r ∷ newQueued ∷ shown ∷ place ∷ words
tells (wrong.check_list source table edition list count status same differs place r) = r ∷ same ∷ differs ∷ place ∷ []
tells (wrong.rescan source from oldCount place removed put_in new-source table edition old new status count byte r) = r ∷ status ∷ count ∷ byte ∷ new
tells (wrong.add_string string bytes entries counts new_bytes new_entries newCounts index place r) =
    r ∷ index ∷ place ∷ newCounts.entries ∷ newCounts.bytes ∷ new_bytes ++ numbers_of new_entries
tells (wrong.parse format table edition bytes entries counts new_bytes new_entries newCounts options value r) =
    r ∷ value ∷ newCounts.entries ∷ newCounts.bytes ∷ options ++ new_bytes ++ numbers_of new_entries
tells (wrong.desk_add desk string bytes entries owners counts desks new_bytes new_entries newOwners newCounts newDesks index place r) =
    r ∷ index ∷ place ∷ new_bytes ++ new_entries ++ newOwners ++ newCounts ++ newDesks
tells (wrong.desk_parse desk format table edition bytes entries owners counts desks new_bytes new_entries newOwners newCounts newDesks options value r) =
    r ∷ value ∷ options ++ new_bytes ++ new_entries ++ newOwners ++ newCounts ++ newDesks
tells (wrong.compact first second bytes entries owners counts desks moved new_bytes new_entries newOwners newCounts newDesks newMoved r) =
    r ∷ newMoved ++ new_bytes ++ new_entries ++ newOwners ++ newCounts ++ newDesks
tells (wrong.pad text alignment width filled fill table edition old new len place r) = r ∷ len ∷ place ∷ new
tells (wrong.write_format alignment width precision representation filled fill table edition old new len place r) = r ∷ len ∷ place ∷ new

-- a look's
abbrev look_told : Peeked → ℕ → ℕ → List ℕ
look_told looked taken queued =
    peek.number_of looked ∷ (peeked_told looked taken queued).queued ∷ (peeked_told looked taken queued).shown ∷ peek.place_of looked
    ∷ record_numbers (peeked_told looked taken queued).row

-- an addition's, which left these rows
abbrev added_told : Result Added AddError → Counts → List ℕ → List ℕ → List ℕ
added_told r counts bytes entries =
    pool.number_of r ∷ pool.added_index r ∷ pool.place_of r ∷ (pool.counts_after counts r).entries ∷ (pool.counts_after counts r).bytes ∷ bytes ++ entries

-- a parse's
abbrev comes_told : parse.Comes → List ℕ
comes_told c =
    parse.number_of c.answer ∷ parse.value_of c.answer ∷ c.pool.counts.entries ∷ c.pool.counts.bytes
    ∷ numbers.numbers_of c.answer ++ c.pool.bytes ++ c.pool.entries

-- a shared pool's words
abbrev shared_told : List ℕ → Shared → List ℕ
shared_told before s = before ++ s.bytes ++ s.entries ++ s.owners ++ count_words s.counts ++ desk_words s.desks

-- those of an addition for a desk
abbrev desk_add_told : Result Added AddError → Shared → List ℕ
desk_add_told r s = shared_told (pool.number_of r ∷ pool.added_index r ∷ pool.place_of r ∷ []) s

-- of a parse for one
abbrev desk_parse_told : desk_parse.Comes → List ℕ
desk_parse_told c = shared_told (parse.number_of c.answer ∷ parse.value_of c.answer ∷ numbers.numbers_of c.answer) c.state

-- a compaction's
abbrev compact_told : compact.Comes → List ℕ
compact_told c = shared_told (compact.number_of c.answer ∷ c.moved) c.state

-- a scan's
abbrev scan_told : List ℕ → List ℕ → ℕ → List ℕ → List ℕ
scan_told source table edition old =
    let answer = reading.scanned source table edition (rows.room old) in
    reading.number_of answer ∷ status_of answer ∷ reading.count_of answer ∷ reading.place_of answer
    ∷ rows.put_rows old (reading.written source table edition (rows.room old))

-- what the contract says of them
abbrev told : Wrong → List ℕ
told (wrong.read_char bytes at code len r) = utf8.read_number (read_at bytes at) ∷ utf8.code_of (read_at bytes at) ∷ lengths.len_of (read_at bytes at) ∷ []
told (wrong.check_utf8 bytes place r) = utf8.number_of (check_from 0 bytes) ∷ utf8.place_of (check_from 0 bytes) ∷ []
told (wrong.check_table table place r) = fit.number_of (table_check table) ∷ fit.place_of (table_check table) ∷ []
told (wrong.read_table bytes old new count place r) =
    let answer = file.read_table bytes (length old) in
    file.number_of answer ∷ file.read_count answer ∷ file.place_of answer ∷ file.row_after answer bytes old
told (wrong.first_cluster source table edition len place r) =
    let answer = cluster.first_cluster source table edition in
    cluster.number_of answer ∷ cluster.len_of answer ∷ cluster.place_of answer ∷ []
told (wrong.scan source table edition old new status count byte r) = scan_told source table edition old
told (wrong.scan_half source table edition old new status count byte r) =
    let answer = reading.scanned source table edition (half.room old) in
    reading.number_of answer ∷ half_status_of answer ∷ reading.count_of answer ∷ reading.place_of answer
    ∷ half.put_halves old (reading.written_marked source table edition (half.room old))
told (wrong.scan_fast source table edition old new status count byte r) = scan_told source table edition old
told (wrong.scan_profile source table edition old new status count byte r) =
    let answer = profiles.answer_in source table edition (rows.room old) in
    profile.number_of answer ∷ profile.status_of answer ∷ profile.count_of answer ∷ profile.place_of answer
    ∷ rows.put_rows old (reading.written source table edition (rows.room old))
told (wrong.next list taken queued count status newTaken newQueued shown words place r) =
    let answer = next_by list taken queued count status in
    let told = given_told (next_by list taken queued count status) taken queued in
    next.number_of answer ∷ told.taken ∷ told.queued ∷ told.shown ∷ next.place_of answer ∷ record_numbers told.row
told (wrong.peek list taken queued count status n newQueued shown words place r) = look_told (peek_by list taken queued count status n) taken queued
told (wrong.look_ahead list taken queued count status n newQueued shown words place r) = look_told (look_by list taken queued count status n) taken queued
told (wrong.check_list source table edition list count status same differs place r) =
    let answer = check.list_checked source table edition list count status in
    check.number_of answer ∷ check.same_of answer ∷ check.differs_of answer ∷ check.place_of answer ∷ []
told (wrong.rescan source from oldCount place removed put_in new-source table edition old new status count byte r) =
    let e = edit_of place removed put_in in
    let answer = answer_for source from oldCount e new-source table edition old in
    rescan.number_of answer ∷ rescan.status_of answer ∷ rescan.count_of answer ∷ rescan.place_of answer
    ∷ rescan.on_all source from oldCount e new-source table edition (λ x. old) old old
    (rescan.words_behind source from oldCount e new-source table edition old)
told (wrong.add_string string bytes entries counts new_bytes new_entries newCounts index place r) =
    let answer = pool.added string bytes (numbers_of entries) counts in
    added_told answer counts (pool.bytes_after string counts answer bytes) (pool.entries_after string counts answer (numbers_of entries))
told (wrong.parse format table edition bytes entries counts new_bytes new_entries newCounts options value r) =
    comes_told (parsed format table edition bytes entries counts)
told (wrong.desk_add desk string bytes entries owners counts desks new_bytes new_entries newOwners newCounts newDesks index place r) =
    let s = lent_by bytes entries owners counts desks in
    desk_add_told (added_from desk string s) (add_from desk string s)
told (wrong.desk_parse desk format table edition bytes entries owners counts desks new_bytes new_entries newOwners newCounts newDesks options value r) =
    desk_parse_told (parsed_from desk format table edition (lent_by bytes entries owners counts desks))
told (wrong.compact first second bytes entries owners counts desks moved new_bytes new_entries newOwners newCounts newDesks newMoved r) =
    compact_told (compact.call first second (lent_by bytes entries owners counts desks) moved)
told (wrong.pad text alignment width filled fill table edition old new len place r) =
    let answer = pads.answer_in text alignment width filled fill table edition (length old) in
    pad.number_of answer ∷ pad.len_of answer ∷ pad.place_of answer
    ∷ pad.buffer_after answer (pad.padded_text text alignment width (pads.is_given filled) fill table edition) old
told (wrong.write_format alignment width precision representation filled fill table edition old new len place r) =
    let answer = writes.answer_in alignment width precision representation filled fill table edition (length old) in
    writer.number_of answer ∷ writer.len_of answer ∷ writer.place_of answer
    ∷ writer.buffer_after answer (writer.format_for alignment width precision representation (writes.is_given filled) fill table edition) old

-- ---- an answer that meets the contract tells these

meets_told : (w : Wrong) → Meets w → tells w ≡ told w
meets_told (wrong.read_char bytes at code len r) p = λ i. p.number i ∷ p.code_is i ∷ p.len_is i ∷ []
meets_told (wrong.check_utf8 bytes place r) p = λ i. p.number i ∷ p.place_is i ∷ []
meets_told (wrong.check_table table place r) p = λ i. p.number i ∷ p.place_is i ∷ []
meets_told (wrong.read_table bytes old new count place r) p = λ i. p.number i ∷ p.count_is i ∷ p.place_is i ∷ p.row i
meets_told (wrong.first_cluster source table edition len place r) p = λ i. p.number i ∷ p.len_is i ∷ p.place_is i ∷ []
meets_told (wrong.scan source table edition old new status count byte r) p =
    λ i. p.number i ∷ p.status_is i ∷ p.count_is i ∷ p.byte_is i ∷ p.words i
meets_told (wrong.scan_half source table edition old new status count byte r) p =
    λ i. p.number i ∷ p.status_is i ∷ p.count_is i ∷ p.byte_is i ∷ p.words i
meets_told (wrong.scan_fast source table edition old new status count byte r) p =
    λ i. p.number i ∷ p.status_is i ∷ p.count_is i ∷ p.byte_is i ∷ p.words i
meets_told (wrong.scan_profile source table edition old new status count byte r) p =
    λ i. p.number i ∷ p.status_is i ∷ p.count_is i ∷ p.byte_is i ∷ p.words i
meets_told (wrong.next list taken queued count status newTaken newQueued shown words place r) p =
    λ i. p.number i ∷ p.taken_is i ∷ p.queued_is i ∷ p.shown_is i ∷ p.place_is i ∷ p.words_are i
meets_told (wrong.peek list taken queued count status n newQueued shown words place r) p =
    λ i. p.number i ∷ p.queued_is i ∷ p.shown_is i ∷ p.place_is i ∷ p.words_are i
meets_told (wrong.look_ahead list taken queued count status n newQueued shown words place r) p =
    λ i. p.number i ∷ p.queued_is i ∷ p.shown_is i ∷ p.place_is i ∷ p.words_are i
meets_told (wrong.check_list source table edition list count status same differs place r) p =
    λ i. p.number i ∷ p.same_is i ∷ p.differs_is i ∷ p.place_is i ∷ []
meets_told (wrong.rescan source from oldCount place removed put_in new-source table edition old new status count byte r) p =
    λ i. p.number i ∷ p.status_is i ∷ p.count_is i ∷ p.byte_is i ∷ p.words i
meets_told (wrong.add_string string bytes entries counts new_bytes new_entries newCounts index place r) p =
    λ i.
    p.told.number i ∷ p.told.index_is i ∷ p.told.place_is i ∷ (p.counts_left i).entries ∷ (p.counts_left i).bytes
    ∷ p.bytes_left i ++ p.entries_left i
meets_told (wrong.parse format table edition bytes entries counts new_bytes new_entries newCounts options value r) p =
    λ i.
    p.told.number i ∷ p.told.value_is i ∷ (p.counts_left i).entries ∷ (p.counts_left i).bytes
    ∷ p.told.options_are i ++ p.bytes_left i ++ p.entries_left i
meets_told (wrong.desk_add desk string bytes entries owners counts desks new_bytes new_entries newOwners newCounts newDesks index place r) p =
    λ i.
    p.number i ∷ p.index_is i ∷ p.place_is i ∷ p.left.bytes_left i ++ p.left.entries_left i ++ p.left.owners_left i
    ++ p.left.counts_left i ++ p.left.desks_left i
meets_told (wrong.desk_parse desk format table edition bytes entries owners counts desks new_bytes new_entries newOwners newCounts newDesks options value r)
    p =
    λ i.
    p.number i ∷ p.value_is i ∷ p.options_are i ++ p.left.bytes_left i ++ p.left.entries_left i ++ p.left.owners_left i
    ++ p.left.counts_left i ++ p.left.desks_left i
meets_told (wrong.compact first second bytes entries owners counts desks moved new_bytes new_entries newOwners newCounts newDesks newMoved r) p =
    λ i.
    p.number i ∷ p.moved_left i ++ p.left.bytes_left i ++ p.left.entries_left i ++ p.left.owners_left i ++ p.left.counts_left i
    ++ p.left.desks_left i
meets_told (wrong.pad text alignment width filled fill table edition old new len place r) p =
    λ i. p.number i ∷ p.len_is i ∷ p.place_is i ∷ p.contents i
meets_told (wrong.write_format alignment width precision representation filled fill table edition old new len place r) p =
    λ i. p.number i ∷ p.len_is i ∷ p.place_is i ∷ p.contents i

-- ---- and those of a wrong one are others

same_self : (l : List ℕ) → same l l ≡ true
unfolding same
same_self [] = refl
same_self (a ∷ rest) = rw (eq-eqb a a refl) (same_self rest)

pub shut_out : (w : Wrong) → same (tells w) (told w) ≡ false → ShutOut w
shut_out w e p =
    let both : true ≡ false = sym (same_self (tells w)) ∙ ap (same (tells w)) (meets_told w p) ∙ e in
    let z : ◌≡◌ {A = ℕ} 0 1 = cc in
    omega arith

-- whether all of some are others
abbrev all_others : List Wrong → Bool
all_others [] = true
all_others (w ∷ ws) = not (same (tells w) (told w)) && all_others ws

others_shut_out : (ws : List Wrong) → all_others ws ≡ true → AllShutOut ws
others_shut_out [] e = tt
others_shut_out (w ∷ ws) e = (
  shut_out w (not-true (same (tells w) (told w)) (and_left (not (same (tells w) (told w))) (all_others ws) e)),
  others_shut_out ws (and_right (not (same (tells w) (told w))) (all_others ws) e),
)

-- ---- the table

pub bytes_shut_out : AllShutOut of_bytes
unfolding formats_computed same
bytes_shut_out = others_shut_out of_bytes refl

pub tables_shut_out : AllShutOut of_tables
unfolding formats_computed same file.mark file.number_bytes file.file_of file.mark_ok file.numbers_in file.read_table
tables_shut_out = others_shut_out of_tables refl

pub clusters_shut_out : AllShutOut of_clusters
unfolding formats_computed same cluster.first_cluster
clusters_shut_out = others_shut_out of_clusters refl

pub scans_shut_out : AllShutOut of_scans
unfolding formats_computed same rows.words_of_all rows.put_rows
scans_shut_out = others_shut_out of_scans refl

pub tokens_shut_out : AllShutOut of_tokens
unfolding formats_computed same rows.words_of_all rows.put_rows
tokens_shut_out = others_shut_out of_tokens refl

pub half_scans_shut_out : AllShutOut of_half_scans
unfolding formats_computed same half.put_halves reading.mark_all reading.written_marked
half_scans_shut_out = others_shut_out of_half_scans refl

pub fast_scans_shut_out : AllShutOut of_fast_scans
unfolding formats_computed same rows.words_of_all rows.put_rows
fast_scans_shut_out = others_shut_out of_fast_scans refl

pub profiles_shut_out : AllShutOut of_profiles
unfolding formats_computed same rows.words_of_all rows.put_rows state_at handed has_template first_forbidden
profiles_shut_out = others_shut_out of_profiles refl

pub cursors_shut_out : AllShutOut of_cursors
unfolding formats_computed same first.row_fits first.fits_below rows.row_at rows.fits_at rows.shown_at half.row_at half.fits_at half.shown_at is_fit record_at moved_on must_queue queued_one queued_for seen_at next.next_of
    peek.queued_at peek.peek_of look_ahead_of
cursors_shut_out = others_shut_out of_cursors refl

pub checks_shut_out : AllShutOut of_checks
unfolding formats_computed same rows.row_at held.is_span held.is_row check.first_apart check.list_checked
checks_shut_out = others_shut_out of_checks refl

pub rescans_shut_out : AllShutOut of_rescans
unfolding formats_computed same rows.row_at rows.put_row rows.put_rows_at rows.copy_rows edit_fits keep.links keep.closes keep.kept_rows
rescans_shut_out = others_shut_out of_rescans refl

pub pools_shut_out : AllShutOut of_pools
unfolding formats_computed numbers_of
pools_shut_out = others_shut_out of_pools refl

pub desks_shut_out : AllShutOut of_desks
unfolding formats_computed held_by shared_out fit_desks slide.kept slide.new_index slide.translated slide.joined slide.laid_out marks.is_in
    marks.all_given marks.good_marks compact.call added_for desk_parse.add_to desk_parse.parsed desk_parse.call
desks_shut_out = others_shut_out of_desks refl

pub pads_shut_out : AllShutOut of_pads
unfolding formats_computed long_fill pad_check
pads_shut_out = others_shut_out of_pads refl

pub formats_shut_out : AllShutOut of_formats
unfolding formats_computed is_width asked.is_shown_number asked.are_numbers asked.are_fields asked.alignment_of asked.number_of asked.shown_of digits_in writable
    can_write
formats_shut_out = others_shut_out of_formats refl
