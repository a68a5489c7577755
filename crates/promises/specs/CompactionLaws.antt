-- The promise of `Compaction`, proved, and that no second answer and no second rows fit.
--     compact_promise, compact_has_one_answer
-- Assumes nothing.
use Rattle.std.specs.Prelude.{ℕ, ◌≡◌, refl, List, Bool, length, drop, Result, Err}
use Rattle.std.proofs.Common.{sym, ap, subst, ◌∙◌, drop_at}
use Rattle.desks.specs.Desks.{Shared, shared, desk_of, other, Fits}
use Rattle.desks.specs.FitLaws.{fit_of, fit_by_lem}
use Rattle.desks.specs.declared.Which.{Which}
use Rattle.desks.specs.declared.Which.TheVariants.{First, Second}
use Rattle.slide.specs.Slide.{kept_strings, translated, headed}
use Rattle.slide.specs.SlideLaws.{translated_long}
use Rattle.marks.specs.Marks.{is_marked}
use Rattle.compact.specs.Compact.{number_of, counts_after, desks_after, compacted, Comes, comes, call, Compacts}
use Rattle.compact.specs.LaidLaws.{strings_there}
use Rattle.compact.specs.CallLaws as compact
use Rattle.compact.specs.PromiseLaws as after
use Rattle.compact.specs.declared.Kept.{Kept}
use Rattle.compact.specs.declared.CompactError.{CompactError}
use Rattle.compact.specs.declared.CompactError.TheVariants.{BadMark, BadState}
use Rattle.promises.specs.Desks.{Stays}
use Rattle.promises.specs.DesksLaws.{desk_alone}
use Rattle.promises.specs.Compaction.{Keeps, CompactPromise}

-- what a compaction keeps
keeps : (keep : ℕ → Bool) (s : Shared) (moved : List ℕ) → Fits s
    → Keeps keep s (compacted keep s) moved (headed (translated keep s.counts.entries) moved)
keeps keep s moved f =
    let n = s.counts.entries in
    let fit = fit_by_lem (compacted keep s) (after.fit_kept keep s (fit_of s f)) in
    record {
      strings = strings_there (kept_strings keep s.bytes s.entries n) s.bytes s.entries;
      row_kept = λ k h e. after.row_says keep moved n k h ∙ rw e;
      shows_same = after.shows_same keep s;
      owner_same = after.owner_same keep s;
      row_gone = λ k h e. after.row_says keep moved n k h ∙ rw e;
      row_rest =
          drop_at (translated keep n) (drop (length (translated keep n)) moved) n (translated_long keep n)
          ∙ ap (λ (i : ℕ). drop i moved) (translated_long keep n);
      fits = fit;
      guarantees = same;
      entries_free = after.entries_grow keep s (fit_of s f);
      bytes_free = after.bytes_grow keep s (fit_of s f);
      alone = λ which string h k. desk_alone which (compacted keep s) string fit (alone_entries which h) (alone_bytes which k);
    }
  where
    same : (w : Which) → (desk_of w (compacted keep s).desks).guaranteed ≡ (desk_of w s.desks).guaranteed
    same First = refl
    same Second = refl

    alone_entries : (w : Which) → (desk_of (other w) s.desks).guaranteed.entries ≡ 0 → (desk_of (other w) (compacted keep s).desks).guaranteed.entries ≡ 0
    alone_entries First e = e
    alone_entries Second e = e

    alone_bytes : (w : Which) → (desk_of (other w) s.desks).guaranteed.bytes ≡ 0 → (desk_of (other w) (compacted keep s).desks).guaranteed.bytes ≡ 0
    alone_bytes First e = e
    alone_bytes Second e = e

module _ (first second : List ℕ) (s : Shared) (moved : List ℕ) where
  abbrev came : Comes
  came = call first second s moved

  stays : (r : Result Kept CompactError) → came ≡ comes r s moved → (number_of came.answer ≡ number_of r) × Stays s came.state × (came.moved ≡ moved)
  stays r e = (
    ap (λ (c : Comes). number_of c.answer) e,
    record {
      bytes = ap (λ (c : Comes). c.state.bytes) e;
      entries = ap (λ (c : Comes). c.state.entries) e;
      owners = ap (λ (c : Comes). c.state.owners) e;
      counts = ap (λ (c : Comes). c.state.counts) e;
      desks = ap (λ (c : Comes). c.state.desks) e;
    },
    ap (λ (c : Comes). c.moved) e,
  )

  promised : CompactPromise first second s came.state moved came.moved came.answer
  promised =
      record {
        bad_state_lem = λ e. stays (Err BadState) (compact.unfit first second s moved e);
        bad_mark_lem = λ f e. stays (Err BadMark) (compact.bad_mark_lem first second s moved f e);
        kept =
            λ f g.
            let e = compact.fine first second s moved f g in (
              ap (λ (c : Comes). number_of c.answer) e,
              subst (λ (c : Comes). Keeps (is_marked first second) s c.state moved c.moved) (sym e) (keeps (is_marked first second) s moved f),
            );
      }

  pub compact_promise : {new_bytes new_entries newOwners newMoved : List ℕ} {r : Result Kept CompactError}
      → Compacts first second s moved new_bytes new_entries newOwners newMoved r
      → CompactPromise first second s (shared new_bytes new_entries newOwners (counts_after r s.counts) (desks_after r s.desks)) moved newMoved r
  compact_promise {r = r} p =
      let counts = ap (λ (a : Result Kept CompactError). counts_after a s.counts) p.answer_is ∙ compact.state_counts first second s moved in
      let desks = ap (λ (a : Result Kept CompactError). desks_after a s.desks) p.answer_is ∙ compact.state_desks first second s moved in
      subst (λ (c : Comes). CompactPromise first second s c.state moved c.moved c.answer)
      (sym
      (λ i.
      record {
        answer = p.answer_is i;
        state = shared (p.bytes_left i) (p.entries_left i) (p.owners_left i) (counts i) (desks i);
        moved = p.moved_left i;
      }))
      promised

pub compact_has_one_answer : {first second moved new_bytes new_entries newOwners newMoved newBytes' newEntries' newOwners' newMoved' : List ℕ} {s : Shared}
    {r q : Result Kept CompactError} → Compacts first second s moved new_bytes new_entries newOwners newMoved r
    → Compacts first second s moved newBytes' newEntries' newOwners' newMoved' q
    → (r ≡ q) × (new_bytes ≡ newBytes') × (new_entries ≡ newEntries') × (newOwners ≡ newOwners') × (newMoved ≡ newMoved')
compact_has_one_answer v w = compact.one_answer v w
