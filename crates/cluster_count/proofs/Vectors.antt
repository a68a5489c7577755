-- Worked examples of breaks, counts and clusters, each computed. `props` stands for a table: a character is its own properties.
-- Assumes nothing.
use Prim.Native.Nat.{ℕ}
use mathlib.Core.Path.{◌≡◌, refl}
use mathlib.Core.List.{[], ◌∷◌}
use lib.ListN.{drop}
use Rattle.uax29.specs.Uax29.{is_control, gb3, gb6, gb7, gb8, gb9, pair_rule, ends_pict, ends_pict_zwj, ends_odd, ends_consonant, ends_linked, gb9c, gb11, gb12}
use Rattle.cluster_count.specs.Count.{breaks_from, breaks, cluster_count, cut_at, clusters_of}

-- opens every definition at once
unfoldable computes : Unit {0}
unfolding is_control gb3 gb6 gb7 gb8 gb9 pair_rule ends_pict ends_pict_zwj ends_odd ends_consonant ends_linked gb9c gb11 gb12 breaks_from cut_at
computes = tt

abbrev props : ℕ → ℕ
props c = c

-- ---- counts

-- five Regional_Indicator: two flags and a half
flags : breaks props 2 (96 ∷ 96 ∷ 96 ∷ 96 ∷ 96 ∷ []) ≡ 2 ∷ 4 ∷ 5 ∷ []
unfolding computes
flags = refl

-- CR LF, LF, a letter and two Extend
lines : breaks props 2 (16 ∷ 32 ∷ 32 ∷ 7 ∷ 64 ∷ 64 ∷ []) ≡ 2 ∷ 3 ∷ 6 ∷ []
unfolding computes
lines = refl

-- consonant, linker, consonant: one in edition 2, two in edition 1
conjunct : cluster_count props 2 (512 ∷ 1600 ∷ 512 ∷ []) ≡ 1
unfolding computes
conjunct = refl

no_conjunct : cluster_count props 1 (512 ∷ 1600 ∷ 512 ∷ []) ≡ 2
unfolding computes
no_conjunct = refl

-- an extender at the start of the text begins a cluster too
extender : breaks props 2 (64 ∷ 7 ∷ []) ≡ 1 ∷ 2 ∷ []
unfolding computes
extender = refl

-- a table may call a character both Control and a pictograph: there is a break behind it, and GB11 looks back over it. To begin anew behind
-- the break gives one cluster more
over_a_break : breaks props 2 (304 ∷ 64 ∷ 80 ∷ 256 ∷ []) ≡ 1 ∷ 4 ∷ []
unfolding computes
over_a_break = refl

begun_anew : breaks props 2 (drop 1 (304 ∷ 64 ∷ 80 ∷ 256 ∷ [])) ≡ 2 ∷ 3 ∷ []
unfolding computes
begun_anew = refl

-- ---- clusters

-- CR LF, LF, a letter and two Extend again: the letter and its two Extend are one cluster
cut_lines : clusters_of props 2 (16 ∷ 32 ∷ 32 ∷ 7 ∷ 64 ∷ 64 ∷ []) ≡ (16 ∷ 32 ∷ []) ∷ (32 ∷ []) ∷ (7 ∷ 64 ∷ 64 ∷ []) ∷ []
unfolding computes
cut_lines = refl
