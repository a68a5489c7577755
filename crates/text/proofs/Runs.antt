-- What the loops of `run_end` and `run_utf8` keep, on plain values: what is found from here is what was to be found from the start.
--     Counting     of `run_end`: `counting` where it begins, `counts_on` a turn, `counts_stop` and `counts_end` the ways out
--     Running      of `run_utf8`: `running`, `runs_fit` and `runs_on` a turn, `once_on` one at once, `runs_stop` and `runs_end`
--                  the ways out
-- Assumes nothing.
use Prim.Native.Nat.{ℕ, ◌+◌, ◌-◌, ◌≤◌, ◌<◌, max}
use native.Mathlib.Omega.{arith}
use mathlib.Core.Path.{◌≡◌, refl, sym, ap, subst, ◌∙◌}
use mathlib.Core.Bool.{Bool, true, false}
use mathlib.Core.List.{List}
use lib.ListN.{length, get_or, drop}
use Rattle.base.specs.PickLaws.{split_lt}
use Rattle.base.specs.Refusal.{source_most}
use Rattle.position.specs.Position.{column_most}
use Rattle.position.specs.Place.{along_by}
use Rattle.position.specs.declared.Reach.{Reach}
use Rattle.utf8.specs.Encode.{WellFormed}
use Rattle.utf8.specs.Chars.{chars}
use Rattle.utf8.specs.CharsLaws.{at_char, rest_at, ascii_at}
use Rattle.property.specs.Parts.{width_of}
use Rattle.property.specs.Table.{properties_at}
use Rattle.fitness.specs.Fit.{FitTable}
use Rattle.text.specs.Tests.{test_utf8_of}
use Rattle.text.specs.Count.{count_while, run_utf8}
use Rattle.text.specs.Stands.{Stands}
use Rattle.text.specs.Chars.{CharIs}
use Rattle.text.specs.CountLaws.{count_more, count_stop, count_end, run_more, run_stop, run_end_lem, along_stands, width_most_lem, Once, AtOnce}
use Rattle.text.specs.declared.Char.{Char}

module _ (test : ℕ → Bool) (ascii : (c : ℕ) → test c ≡ true → c < 128) (s : List ℕ) where
  -- the run from i on, as the byte after it
  abbrev end : ℕ → ℕ
  end i = i + count_while test (chars (drop i s))

  pub record Counting (at i : ℕ) : Type 0 where
    pub well : WellFormed (drop i s)
    pub same : end i ≡ end at

  pub counting : (at : ℕ) → WellFormed (drop at s) → Counting at at
  counting at w = record { well = w; same = refl }

  module _ (at i : ℕ) (g : Counting at i) where
    pub counts_on : i < length s → test (get_or s i 0) ≡ true → Counting at (i + 1)
    counts_on h t =
        let m = count_more test ascii s i g.well h t in
        record { well = m.1; same = omega (arith, m.0, g.same) }

    pub counts_stop : i < length s → test (get_or s i 0) ≡ false → i ≡ end at
    counts_stop h t = omega (arith, count_stop test ascii s i g.well h t, g.same)

    -- no byte is left; a run from behind the last byte is empty
    pub counts_end : length s ≤ i → (at ≤ length s → i ≤ length s) → max at (length s) ≡ end at
    counts_end h k =
        split_lt (length s) at (λ l. omega (arith, count_end test s at (omega arith)))
        (λ l. omega (arith, k l, count_end test s i h, g.same))

module _ (test : ℕ → ℕ → Bool) (s table : List ℕ) where
  -- how far the run from r on reaches
  abbrev reached : Reach → Reach
  reached r = run_utf8 (properties_at table) (test_utf8_of (properties_at table) test) r (chars (drop r.byte.0 s))

  pub record Running (start r : Reach) (i : ℕ) : Type 0 where
    pub at : i ≡ r.byte.0
    pub stands : Stands s r
    pub same : reached r ≡ reached start

  pub running : (start : Reach) → Stands s start → Running start start start.byte.0
  running start o = record { at = refl; stands = o; same = refl }

  module _ {start r : Reach} {i : ℕ} (g : Running start r i) where
    pub runs_well : WellFormed (drop i s)
    runs_well = subst (λ (j : ℕ). WellFormed (drop j s)) (sym g.at) g.stands.well

    pub runs_end : length s ≤ i → r ≡ reached start
    runs_end h = sym (sym g.same ∙ run_end_lem _ _ r s r.byte.0 (omega (arith, g.at)))

    module _ (c : Char) (d : CharIs s table i c) where
      -- the same character, at the reach
      there : CharIs s table r.byte.0 c
      there = subst (λ (j : ℕ). CharIs s table j c) g.at d

      pub runs_stop : test_utf8_of (properties_at table) test c.code ≡ false → r ≡ reached start
      runs_stop t = sym (sym g.same ∙ run_stop _ _ r s r.byte.0 c.code c.len there.at t)

      pub runs_fit : (w : ℕ) → w ≤ 3
          → ((r.byte.0 ≤ source_most) × (c.len ≤ source_most)) × ((r.position.column.0 ≤ column_most) × (w ≤ column_most))
      runs_fit w h = omega (arith, g.stands, d.at.fits)

      pub runs_on : test_utf8_of (properties_at table) test c.code ≡ true → (q : Reach) → q ≡ along_by c.len (width_of c.properties) r
          → Running start q q.byte.0
      runs_on t q e =
          subst (λ (x : Reach). Running start x x.byte.0) (sym e)
          (record {
            at = refl;
            stands = along_stands s r c.code c.len (width_of c.properties) g.stands there.at there.well (width_most_lem c.properties);
            same = sym
                (sym g.same
                ∙ run_more _ _ r s r.byte.0 c.code c.len there.at t
                ∙ ap
                (λ (w : ℕ). run_utf8 (properties_at table) (test_utf8_of (properties_at table) test) (along_by c.len w r) (chars (drop (r.byte.0 + c.len) s)))
                (ap width_of (sym d.properties)));
          })

      pub runs_fall : (q : Reach) → q ≡ along_by c.len (width_of c.properties) r → length s - q.byte.0 < length s - i
      runs_fall q e =
          let k : q.byte.0 ≡ r.byte.0 + c.len = ap (λ (x : Reach). x.byte.0) e in
          omega (arith, there.at.some, there.at.fits, g.at)

    -- a character that passes at once
    module _ {at_once : ℕ → Bool} (law : AtOnce test at_once) (fit : FitTable table) (h : i < length s) (t : at_once (get_or s i 0) ≡ true) where
      once : Once table test (get_or s i 0)
      once = law.passes table fit (get_or s i 0) t

      here : CharIs s table i (record { code = get_or s i 0; len = 1; properties = properties_at table (get_or s i 0) })
      here =
          let r = ascii_at s i h (law.ascii (get_or s i 0) t) in
          record { at = at_char s i _ _ r; properties = refl; well = rest_at s i _ _ runs_well r }

      along : {q : Reach} → q ≡ along_by 1 1 r → q ≡ along_by 1 (width_of (properties_at table (get_or s i 0))) r
      along e = e ∙ ap (λ (w : ℕ). along_by 1 w r) (sym once.wide)

      pub once_on : (q : Reach) → q ≡ along_by 1 1 r → Running start q q.byte.0
      once_on q e = runs_on _ here once.passes q (along e)

      pub once_fall : (q : Reach) → q ≡ along_by 1 1 r → length s - q.byte.0 < length s - i
      once_fall q e = runs_fall _ here q (along e)
