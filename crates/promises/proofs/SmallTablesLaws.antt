-- The promise of `SmallTables`, proved: `small_tables_promise`, and `small_tables_pad` of padding.
-- Assumes nothing.
use Rattle.std.specs.Prelude.{ℕ, Err, suc, ◌-◌, ◌<◌, ◌≡◌, refl, List, [], ◌∷◌, ltb, length, get_or, take}
use Rattle.std.proofs.Common.{arith, sym, ap, ◌∙◌}
use Rattle.base.specs.Pick.{pick}
use Rattle.utf8.specs.Chars.{chars}
use Rattle.property.specs.Table.{properties_at}
use Rattle.cluster.specs.FirstLaws.{Agree}
use Rattle.cluster.specs.CallLaws.{same_call}
use Rattle.rows.specs.Row.{room, copy_rows, put_rows_at}
use Rattle.state.specs.declared.State.{State}
use Rattle.reading.specs.Scan.{by_room, scanned, Scans}
use Rattle.reading.specs.ScanLaws as scan
use Rattle.reading.specs.declared.ScanError.TheVariants.{Refused}
use Rattle.forbidden.specs.Forbidden.{first_forbidden}
use Rattle.profile.specs.Profile.{profiled_by, Profiles}
use Rattle.profile.proofs.ProfileLaws as profile
use Rattle.profile.proofs.ProfileLaws.{profiled_same}
use Rattle.profile.specs.Profile.{Profiled}
use Rattle.foreign.specs.Check.{by_reading, list_checked}
use Rattle.foreign.specs.declared.CheckError.TheVariants as check
use Rattle.foreign.specs.declared.CheckError.TheVariants.{BadState}
use Rattle.kept.specs.Kept.{resumed}
use Rattle.edit.specs.Edit.{start_of_line}
use Rattle.edit.specs.declared.Edit.{Edit}
use Rattle.keep.specs.Keep.{row_before, kept_rows}
use Rattle.rescan.specs.Rescan.{within, on_old, Rescans}
use Rattle.rescan.proofs.RescanLaws as rescan
use Rattle.rescan.specs.Rescan.{Rescanned, as_scan}
use Rattle.rescan.specs.declared.RescanError.TheVariants as error
use Rattle.rescan.specs.declared.RescanError.TheVariants.{BadEdit}
use Rattle.parse.specs.CallLaws as parse
use Rattle.agree.specs.ScanLaws.{on_rest_agrees, on_reading_agrees, scan_agrees}
use Rattle.agree_text.specs.ParseLaws.{parses_agree}
use Rattle.agree_text.specs.PadLaws.{pads_agree}
use Rattle.promises.specs.SmallTables.{SameOn, BothFit, SmallTablesPromise, SamePad}

-- the same, one code point after the other
agree_of : (f g : ℕ → ℕ) (cs : List ℕ) → ((k : ℕ) → k < length cs → f (get_or cs k 0) ≡ g (get_or cs k 0)) → Agree f g cs
agree_of f g [] h = tt
agree_of f g (c ∷ cs) h = (h 0 (omega arith), agree_of f g cs (λ k l. h (suc k) (omega arith)))

module _ (bytes t u : List ℕ) (edition : ℕ) (fit : BothFit t u) (same : SameOn bytes t u) where
  agree : Agree (properties_at t) (properties_at u) (chars bytes)
  agree = agree_of (properties_at t) (properties_at u) (chars bytes) same

  -- the profile's answer is made of the scan's, and of the list that it leaves
  profile_agrees : (old new : List ℕ) (r : Profiled) → Profiles bytes t edition old r new → Profiles bytes u edition old r new
  profile_agrees old new r p =
      let n = room old in
      let s = scanned bytes t edition n in
      let one : Scans bytes t edition old s new = record { answer = refl; words = p.words } in
      let two : Scans bytes u edition old s new = scan_agrees bytes t u edition fit.0 fit.1 agree one in
      record {
        answer = p.answer ∙ profiled_same bytes t u edition old new s one two ∙ ap (profiled_by (first_forbidden bytes u edition)) two.answer;
        words = two.words;
      }

  -- so are the check of a list, of the reading
  check_agrees : (list : List ℕ) (count status : ℕ) → list_checked bytes t edition list count status ≡ list_checked bytes u edition list count status
  unfolding list_checked
  check_agrees list count status =
      on_reading_agrees bytes t u edition fit.0 fit.1 agree (λ x. Err (check.Refused x))
      (λ reading. pick (ltb (room list) count) (Err BadState) (by_reading list count status reading))

  -- and a rescan, of what is left to read behind the kept records
  rescan_agrees : (source from : List ℕ) (count : ℕ) (e : Edit) (list new : List ℕ) (r : Rescanned)
      → Rescans source from count e bytes t edition list r new → Rescans source from count e bytes u edition list r new
  rescan_agrees source from count e list new r p =
      let k = kept_rows bytes (start_of_line bytes e.place) from count in
      let behind : State = resumed (row_before from k) in
      record {
        answer = p.answer
            ∙ on_rest_agrees bytes t u edition fit.0 fit.1 agree (λ x. Err (error.Scan (Refused x))) behind
            (λ rest. on_old source from count e bytes t edition (Err BadEdit) (Err error.BadState)
            (as_scan (by_room (room list) k (row_before from (within list k)).end rest)));
        words = p.words
            ∙ on_rest_agrees bytes t u edition fit.0 fit.1 agree (λ x. list) behind
            (λ rest. on_old source from count e bytes t edition list list (put_rows_at (copy_rows (within list k) from list) k (take (room list - k) rest.rows)));
      }

  pub small_tables_promise : SmallTablesPromise bytes t u edition
  small_tables_promise =
      record {
        same_cluster = λ r q e f. e ∙ same_call bytes t u edition fit.0 fit.1 agree ∙ sym f;
        same_scan = λ layout old new other r q a b. scan.one_answer bytes u edition old r q new other (scan_agrees bytes t u edition fit.0 fit.1 agree a) b;
        same_profile = λ old new other r q a b. profile.one_answer bytes u edition old r q new other (profile_agrees old new r a) b;
        same_check = λ list count status r q a b. a ∙ check_agrees list count status ∙ sym b;
        same_rescan = λ source from count e list new other r q a b. rescan.one_answer (rescan_agrees source from count e list new r a) b;
        same_parse = λ _ _ _ _ _ _ _ _ _ a b. parse.one_answer (parses_agree bytes t u edition fit.0 fit.1 agree a) b;
      }

  pub small_tables_pad : SamePad bytes t u edition
  small_tables_pad alignment width given fill of-fill old new other r q a b =
      let c = pads_agree bytes alignment width given fill t u edition fit.0 fit.1 agree
      (λ e. agree_of (properties_at t) (properties_at u) (chars fill) (of-fill e)) a in
      (c.answer ∙ sym b.answer, c.contents ∙ sym b.contents)
