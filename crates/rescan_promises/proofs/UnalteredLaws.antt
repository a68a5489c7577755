-- Records that two sources share: `no_byte_alters`.
-- Assumes nothing.
use Rattle.std.specs.Prelude.{ℕ, suc, ◌≡◌, refl, List, [], ◌∷◌, ◌++◌, length, take, drop}
use Rattle.std.proofs.Common.{arith, sym, ap, subst, ◌∙◌, take-append-drop, length-take-le}
use Rattle.std.proofs.Math.Seq.{take-append_seam}
use Rattle.base.specs.Refusal.{source_most}
use Rattle.fitness.specs.FitLaws.{fit_of}
use Rattle.input.specs.Input.{Readable}
use Rattle.rows.specs.declared.Row.{Row}
use Rattle.reading.specs.Reading.{Reading}
use Rattle.reading.specs.Scan.{reading_of}
use Rattle.line.specs.Line.{line}
use Rattle.kept.specs.Kept.{onto_all, UpTo, Edited}
use Rattle.kept.proofs.ReadingLaws.{reading_line}
use Rattle.kept.proofs.RescanLaws.{source_line, other_line, up_to}
use Rattle.rescan_promises.specs.Rescan.{NoByteAlters}

onto_rows : (kept : List Row) (r : Reading) → (onto_all kept r).rows ≡ kept ++ r.rows
onto_rows [] r = refl
onto_rows (row ∷ kept) r = ap {B = List Row} (λ l. row ∷ l) (onto_rows kept r)

-- a list that begins with some rows
pub take_begin : (rows kept rest : List Row) (n : ℕ) → length kept ≡ n → rows ≡ kept ++ rest → take n rows ≡ kept
take_begin rows kept rest n l e = ap (take n) e ∙ ap (λ (m : ℕ). take m (kept ++ rest)) (sym l) ∙ take-append_seam kept rest

module _ (s t table : List ℕ) (edition : ℕ) (old_good : Readable source_most s table edition) (good : Readable source_most t table edition)
    (n : ℕ) (e : Edited s t n) where
  -- the records up to a newline begin the other reading too
  pub begins_too : (kept rest : List Row) → UpTo n kept → (reading_of s table edition).rows ≡ kept ++ rest
      → take (length kept) (reading_of t table edition).rows ≡ kept
  begins_too kept rest up begins =
      let a = take n s in
      let one : s ≡ line a (drop (suc n) s) = source_line s n e.inside e.newline in
      let two : t ≡ line a (drop (suc n) t) = other_line s t n e.inside e.newline e.also e.same in
      let g = subst (λ (z : List ℕ). Readable source_most z table edition) one old_good in
      let h = subst (λ (z : List ℕ). Readable source_most z table edition) two good in
      let long : length a ≡ n = length-take-le n s (omega (arith, e.inside)) in
      let c = reading_line table (fit_of table h.fit) edition a (drop (suc n) s) (drop (suc n) t) g.short h.short g.well h.well kept rest
      (subst (λ (i : ℕ). UpTo i kept) (sym long) up)
      (subst (λ (z : List ℕ). (reading_of z table edition).rows ≡ kept ++ rest) one begins) in
      subst (λ (z : List ℕ). take (length kept) (reading_of z table edition).rows ≡ kept) (sym two)
      (take_begin (reading_of (line a (drop (suc n) t)) table edition).rows kept _ (length kept) refl
      (ap (λ (r : Reading). r.rows) c.second ∙ onto_rows kept _))

pub no_byte_alters : (s t table : List ℕ) (edition : ℕ) → NoByteAlters s t table edition
no_byte_alters s t table edition old_good good n e k d h c =
    let rows = (reading_of s table edition).rows in
    let long : length (take (suc k) rows) ≡ suc k = length-take-le (suc k) rows (omega arith) in
    ap (λ (m : ℕ). take m (reading_of t table edition).rows) (sym long)
    ∙ begins_too s t table edition old_good good n e (take (suc k) rows) (drop (suc k) rows)
    (up_to rows n k d h c.before c.newline) (sym (take-append-drop (suc k) rows))
