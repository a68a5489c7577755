-- C-7: what a rescan answers and writes is what a scan of the new source does. Kept records are copied, and reading goes on behind the last.
--     fills_rows, fills_short     records that have room, and then a reading; records that do not all have room
--     resumes                     the new source's reading is the kept records and what is read on from the last of them
--     resumes_in                  a record of any list behind which reading may go on
--     source_line, other_line     two sources with the same bytes up to a newline, by its place
--     up_to, last_kept            the records up to one of some, and the last of them
--     rescans, rescans_short      so the whole is a scan of the new source
--     rescan_is_scan, short_rescan_is_scan     the same, by the old list and the newline's place
-- Assumes nothing.
use Rattle.std.specs.Prelude as result
use Rattle.std.specs.Prelude.{ℕ, zero, suc, ◌+◌, ◌-◌, ◌≤◌, ◌<◌, ◌≡◌, refl, List, [], ◌∷◌, ◌++◌, length, get_or, take, drop}
use Rattle.std.proofs.Common.{arith, sym, ap, subst, ◌∙◌, length-append, length-take-le, get_or-take, take-take}
use Rattle.std.proofs.Math.Seq.{drop-append-add, split_at}
use Rattle.base.specs.PickLaws.{split_lt}
use Rattle.base.specs.Refusal.{source_most}
use Rattle.utf8.specs.Encode.{WellFormed}
use Rattle.property.specs.Table.{properties_at}
use Rattle.fitness.specs.FitLaws.{fit_of}
use Rattle.input.specs.Input.{Readable}
use Rattle.input.specs.InputLaws.{is_fine_lem}
use Rattle.token.specs.Kind.{new_line}
use Rattle.rows.specs.Row.{room, put_row, put_rows_at, rows_of}
use Rattle.rows.specs.RowLaws.{put_room, rows_of_length}
use Rattle.rows.specs.declared.Row.{Row}
use Rattle.text.specs.Tests.{lf}
use Rattle.state.specs.State.{start_state}
use Rattle.stepping.specs.Invariant.{Ok}
use Rattle.reading.specs.Reading.{Reading, onto, read_from, reading}
use Rattle.reading.specs.Scan.{end_of, Fills, ReadsOn, reading_of, Scans, count_of}
use Rattle.reading.specs.ScanLaws.{fills_full, fills_row, scans_fine}
use Rattle.reading.specs.Scan.{Scanned}
use Rattle.reading.specs.declared.ScanError.TheVariants.{ListFull}
use Rattle.line.specs.Line.{line}
use Rattle.line.specs.SourceLaws.{after_line}
use Rattle.kept.specs.Kept.{onto_all, last_of, UpTo, Shares, resumed, ResumesIn, OldList, Edited, KeptTo}
use Rattle.kept.specs.OldListLaws.{old_list, old_kept}
use Rattle.kept.proofs.ReadingLaws.{reading_line}
use Rattle.kept.specs.ResumeLaws.{resumed_agrees, resume, resume_ok}

-- ---- records in front of a reading

pub fills_rows : (rows : List Row) (l : List ℕ) (k b : ℕ) (r : Reading) (x : Scanned) (new : List ℕ) → k + length rows ≤ room l
    → Fills (put_rows_at l k rows) (k + length rows) (end_of b rows) r x new → Fills l k b (onto_all rows r) x new
unfolding put_rows_at put_row end_of
fills_rows [] l k b r x new h f = let e : k + 0 ≡ k = omega arith in subst (λ (n : ℕ). Fills l n b r x new) e f
fills_rows (row ∷ rows) l k b r x new h f =
    let same : room (put_row l k row) ≡ room l = put_room l k row (omega arith) in
    let e : k + length (row ∷ rows) ≡ k + 1 + length rows = omega arith in
    fills_row l k b row (onto_all rows r) x new (omega arith)
    (fills_rows rows (put_row l k row) (k + 1) row.end r x new (omega arith)
    (subst (λ (n : ℕ). Fills (put_rows_at (put_row l k row) (k + 1) rows) n (end_of row.end rows) r x new) e f))

-- records that do not all have room
pub fills_short : (rows : List Row) (l : List ℕ) (k b : ℕ) (r : Reading) → k ≤ room l → room l < k + length rows
    → Fills l k b (onto_all rows r) (result.Err (ListFull (room l) (end_of b (take (room l - k) rows)))) (put_rows_at l k (take (room l - k) rows))
unfolding put_rows_at put_row end_of
fills_short [] l k b r h o = absurd (omega arith)
fills_short (row ∷ rows) l k b r h o =
    let Short : ℕ → Type 0 =
    λ n. Fills l k b (onto row (onto_all rows r)) (result.Err (ListFull (room l) (end_of b (take n (row ∷ rows))))) (put_rows_at l k (take n (row ∷ rows))) in
    split_lt k (room l)
    (λ j. let same : room (put_row l k row) ≡ room l = put_room l k row j in
    let n : suc (room l - (k + 1)) ≡ room l - k = omega arith in
    subst Short n
    (fills_row l k b row (onto_all rows r) (result.Err (ListFull (room l) (end_of row.end (take (room l - (k + 1)) rows))))
    (put_rows_at (put_row l k row) (k + 1) (take (room l - (k + 1)) rows)) j
    (subst
    (λ (m : ℕ). Fills (put_row l k row) (k + 1) row.end (onto_all rows r) (result.Err (ListFull m (end_of row.end (take (m - (k + 1)) rows))))
    (put_rows_at (put_row l k row) (k + 1) (take (m - (k + 1)) rows)))
    same (fills_short rows (put_row l k row) (k + 1) row.end r (omega arith) (omega arith)))))
    (λ j. let e : k ≡ room l = omega arith in
    let n : 0 ≡ room l - k = omega arith in
    subst Short n (subst (λ (m : ℕ). Fills l k b (onto row (onto_all rows r)) (result.Err (ListFull m b)) l) e (fills_full l k b row (onto_all rows r) e)))

-- where the modes are empty behind the last of the kept records
module _ (look : ℕ → ℕ) (edition : ℕ) (s t : List ℕ) (kept : List Row) (c : Shares look edition s t start_state kept) (none : c.state.modes.depth ≡ 0) (d : Row) where
  pub resumes : reading look edition t ≡ onto_all kept (read_from look edition t (resumed (last_of d kept)))
  resumes =
      c.second
      ∙ ap (onto_all kept) (resume c.state c.ok.agrees none c.token c.before c.previous look edition t)
      ∙ ap (λ (r : Row). onto_all kept (read_from look edition t (resumed r))) (sym (c.last d))

  pub resumes_ok : Ok t (resumed (last_of d kept))
  resumes_ok =
      subst (λ (r : Row). Ok t (resumed r)) (sym (c.last d)) (resume_ok c.state c.ok.agrees none c.token c.before c.previous t c.also)

-- ---- any list

pub resumes_in : (a x : List ℕ) (r : Row) → ResumesIn a r → length (line a x) ≤ source_most → WellFormed (line a x) → Ok (line a x) (resumed r)
resumes_in a x r i h w =
    let n : length (line a x) ≡ length a + suc (length x) = length-append a (lf ∷ x) in
    let behind : drop r.end (line a x) ≡ x =
    ap (λ (k : ℕ). drop k (line a x)) i.ends ∙ drop-append-add a (lf ∷ x) 1 in
    record {
      fine = record {
        small = h;
        inside = omega (arith, i.ends);
        lines = i.lines;
        columns = omega (arith, i.columns);
        whole = λ _. subst WellFormed (sym behind) (after_line a x w);
      };
      behind = i.on;
      agrees = resumed_agrees r;
      marked = λ e. absurd (omega arith);
      below = λ k l. absurd (omega arith);
    }

-- ---- the edit

-- a source has a newline at the byte n
pub source_line : (s : List ℕ) (n : ℕ) → n < length s → get_or s n 0 ≡ lf → s ≡ line (take n s) (drop (suc n) s)
source_line s n h e = split_at s n 0 h ∙ ap (λ (b : ℕ). take n s ++ b ∷ drop (suc n) s) e

-- the other source begins with the same bytes up to the newline, and with it
pub other_line : (s t : List ℕ) (n : ℕ) → n < length s → get_or s n 0 ≡ lf → n < length t → take (suc n) s ≡ take (suc n) t
    → t ≡ line (take n s) (drop (suc n) t)
other_line s t n h e k same =
    let f : get_or t n 0 ≡ lf =
    sym (get_or-take (suc n) t n 0 (omega arith)) ∙ ap (λ (l : List ℕ). get_or l n 0) (sym same) ∙ get_or-take (suc n) s n 0 (omega arith) ∙ e in
    let g : take n t ≡ take n s =
    sym (take-take n (suc n) t (omega arith)) ∙ ap (take n) (sym same) ∙ take-take n (suc n) s (omega arith) in
    source_line t n k f ∙ ap (λ (l : List ℕ). line l (drop (suc n) t)) g

-- ---- which records

-- Of some records, those up to record k, where it is a NewLine and the others end before the newline's end
pub up_to : (rows : List Row) (n k : ℕ) (d : Row) → k < length rows → ((j : ℕ) → j < k → (get_or rows j d).end < n + 1) → (get_or rows k d).kind ≡ new_line
    → UpTo n (take (suc k) rows)
up_to [] n k d h e m = absurd (omega arith)
up_to (row ∷ rows) n zero d h e m = m
up_to (row ∷ []) n (suc k) d h e m = absurd (omega arith)
up_to (row ∷ next ∷ rows) n (suc k) d h e m =
    (omega (arith, e 0 (omega arith)), up_to (next ∷ rows) n k d (omega arith) (λ j i. e (suc j) (omega arith)) m)

-- the last of them
pub last_kept : (rows : List Row) (k : ℕ) (d : Row) → k < length rows → last_of d (take (suc k) rows) ≡ get_or rows k d
last_kept [] k d h = absurd (omega arith)
last_kept (row ∷ rows) zero d h = refl
last_kept (row ∷ []) (suc k) d h = absurd (omega arith)
last_kept (row ∷ next ∷ rows) (suc k) d h = last_kept (next ∷ rows) k d (omega arith)

-- ---- the whole

-- a list that is not empty ends where its last record does
end_last : (rows : List Row) (n b : ℕ) (d : Row) → UpTo n rows → end_of b rows ≡ (last_of d rows).end
unfolding end_of
end_last [] n b d u = absurd u
end_last (row ∷ []) n b d u = refl
end_last (row ∷ next ∷ rows) n b d u = end_last (next ∷ rows) n row.end row u.1

-- The records up to the newline are kept, the last of them at depth 0, and reading goes on behind them: this is what a scan of the new source
-- does. S is the old source and T the new one; their first bytes are a and a newline
module _ (table : List ℕ) (edition : ℕ) (a x y : List ℕ) where
  abbrev S : List ℕ
  S = line a x

  abbrev T : List ℕ
  T = line a y

  module _ (old_good : Readable source_most S table edition) (good : Readable source_most T table edition) (kept rest : List Row)
      (up : UpTo (length a) kept) (begins : (reading_of S table edition).rows ≡ kept ++ rest) where
    -- what they share
    common : Shares (properties_at table) edition S T start_state kept
    common =
        reading_line table (fit_of table good.fit) edition a x y old_good.short good.short old_good.well good.well kept rest up begins

    pub rescans : (d : Row) → (last_of d kept).depth ≡ 0 → (old new : List ℕ) (r : Scanned) → length kept ≤ room old
        → ReadsOn (properties_at table) edition T (resumed (last_of d kept)) (length kept) (put_rows_at old 0 kept) r new
        → Scans T table edition old r new
    rescans d none old new r h f =
        let empty : common.state.modes.depth ≡ 0 = common.depth ∙ ap (λ (q : Row). q.depth) (sym (common.last d)) ∙ none in
        let k = resumes (properties_at table) edition S T kept common empty d in
        let behind = read_from (properties_at table) edition T (resumed (last_of d kept)) in
        let n : length kept ≡ 0 + length kept = omega arith in
        let g : Fills (put_rows_at old 0 kept) (0 + length kept) (end_of 0 kept) behind r new =
        subst (λ (b : ℕ). Fills (put_rows_at old 0 kept) (0 + length kept) b behind r new) (sym (end_last kept (length a) 0 d up))
        (subst (λ (j : ℕ). Fills (put_rows_at old 0 kept) j (last_of d kept).end behind r new) n f) in
        scans_fine (is_fine_lem source_most T table edition good) refl
        (subst (λ (q : Reading). Fills old 0 0 q r new) (sym k) (fills_rows kept old 0 0 behind r new (omega arith) g))

    -- where they do not all have room, the scan is refused for the same reason
    pub rescans_short : (old : List ℕ) → room old < length kept
        → Scans T table edition old (result.Err (ListFull (room old) (end_of 0 (take (room old) kept)))) (put_rows_at old 0 (take (room old) kept))
    rescans_short old h =
        let behind = read_from (properties_at table) edition T common.state in
        let n : room old - 0 ≡ room old = omega arith in
        scans_fine (is_fine_lem source_most T table edition good) refl
        (subst (λ (q : Reading). Fills old 0 0 q (result.Err (ListFull (room old) (end_of 0 (take (room old) kept)))) (put_rows_at old 0 (take (room old) kept)))
        (sym common.second)
        (subst (λ (m : ℕ). Fills old 0 0 (onto_all kept behind) (result.Err (ListFull (room old) (end_of 0 (take m kept)))) (put_rows_at old 0 (take m kept))) n
        (fills_short kept old 0 0 behind (omega arith) (omega arith))))

-- ---- by the old list and the newline's place

module _ (table : List ℕ) (edition : ℕ) (s old₀ list : List ℕ) (r₀ : Scanned) (p : Scans s table edition old₀ r₀ list) (d : Row) (n k : ℕ)
    (h : k < count_of r₀) (c : KeptTo (rows_of (count_of r₀) list) n k d) where
  abbrev pub kept : List Row
  kept = take (suc k) (rows_of (count_of r₀) list)

  -- what both cases use: the two sources by the newline, and the records up to it
  module _ (t : List ℕ) (e : Edited s t n) (good : Readable source_most t table edition) where
    abbrev o : OldList s table edition list (count_of r₀)
    o = old_list s table edition old₀ list r₀ d p (omega arith)

    inside : k < length (rows_of (count_of r₀) list)
    inside = omega (arith, rows_of_length (count_of r₀) list)

    one : s ≡ line (take n s) (drop (suc n) s)
    one = source_line s n e.inside e.newline

    two : t ≡ line (take n s) (drop (suc n) t)
    two = other_line s t n e.inside e.newline e.also e.same

    up : UpTo (length (take n s)) kept
    up =
        subst (λ (i : ℕ). UpTo i kept) (sym (length-take-le n s (omega (arith, e.inside))))
        (up_to (rows_of (count_of r₀) list) n k d inside c.before c.newline)

    begins : (reading_of (line (take n s) (drop (suc n) s)) table edition).rows ≡ kept ++ drop (suc k) (reading_of s table edition).rows
    begins =
        subst (λ (z : List ℕ). (reading_of z table edition).rows ≡ kept ++ drop (suc k) (reading_of s table edition).rows) one (old_kept o (suc k) h)

    old_good : Readable source_most (line (take n s) (drop (suc n) s)) table edition
    old_good = subst (λ (z : List ℕ). Readable source_most z table edition) one o.readable

    new_good : Readable source_most (line (take n s) (drop (suc n) t)) table edition
    new_good = subst (λ (z : List ℕ). Readable source_most z table edition) two good

    -- Where the old list is the old source's, copying the kept records and reading on behind them is a scan of the new source
    pub rescan_is_scan : (old new : List ℕ) (r : Scanned) → length kept ≤ room old
        → ReadsOn (properties_at table) edition t (resumed (last_of d kept)) (length kept) (put_rows_at old 0 kept) r new
        → Scans t table edition old r new
    rescan_is_scan old new r m f =
        let none : (last_of d kept).depth ≡ 0 = ap (λ (q : Row). q.depth) (last_kept (rows_of (count_of r₀) list) k d inside) ∙ c.depth in
        subst (λ (z : List ℕ). Scans z table edition old r new) (sym two)
        (rescans table edition (take n s) (drop (suc n) s) (drop (suc n) t) old_good new_good kept (drop (suc k) (reading_of s table edition).rows)
        up begins d none old new r m
        (subst
        (λ (z : List ℕ). ReadsOn (properties_at table) edition z (resumed (last_of d kept)) (length kept) (put_rows_at old 0 kept) r new) two f))

    -- and so is copying as many as have room
    pub short_rescan_is_scan : (old : List ℕ) → room old < length kept
        → Scans t table edition old (result.Err (ListFull (room old) (end_of 0 (take (room old) kept)))) (put_rows_at old 0 (take (room old) kept))
    short_rescan_is_scan old m =
        subst (λ (z : List ℕ). Scans z table edition old (result.Err (ListFull (room old) (end_of 0 (take (room old) kept)))) (put_rows_at old 0 (take (room old) kept)))
        (sym two)
        (rescans_short table edition (take n s) (drop (suc n) s) (drop (suc n) t) old_good new_good kept
        (drop (suc k) (reading_of s table edition).rows) up begins old m)
