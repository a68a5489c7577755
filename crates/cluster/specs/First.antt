-- The first cluster of a text (document 01; UAX #29, section 3.1.1): the shortest beginning of it, of one character or more, after which
-- there is a break. A text is its code points, and `look` gives the properties of each.
-- `Shortest` says it in these words, and `first_size` computes it: `FirstLaws` proves that it is the one number that is `Shortest`.
-- Assumes nothing.
use Rattle.std.specs.Prelude.{ℕ, zero, suc, ◌+◌, ◌<◌, ◌≤◌, ◌≡◌, List, [], ◌∷◌, Bool, true, false, not, ◌&&◌, ltb, eqb, length, get_or, take, drop}
use Rattle.base.specs.Pick.{pick}
use Rattle.utf8.specs.Encode.{encode_all}
use Rattle.uax29.specs.Uax29.{joined}

-- the properties of the first k characters of cs, the nearest first, and then those of left
abbrev pub before : (ℕ → ℕ) → List ℕ → ℕ → List ℕ → List ℕ
before look left zero cs = left
before look left (suc k) [] = left
before look left (suc k) (c ∷ cs) = before look (look c ∷ left) k cs

-- there is a break after the first k characters of cs, of which there are some: at the end of the text (GB2), or where no rule joins the
-- next
abbrev pub break_after : (ℕ → ℕ) → ℕ → List ℕ → ℕ → Bool
break_after look edition cs k = pick (ltb k (length cs)) (not (joined edition (before look [] k cs) (look (get_or cs k 0)))) true

-- the first cluster of cs is its first n characters
pub record Shortest (look : ℕ → ℕ) (edition : ℕ) (cs : List ℕ) (n : ℕ) : Type 0 where
  pub some : 0 < n
  pub within : n ≤ length cs
  pub break_after_lem : break_after look edition cs n ≡ true
  pub none_shorter : (k : ℕ) → 0 < k → k < n → break_after look edition cs k ≡ false

-- how many characters of cs go on with the cluster that left ends in
unfoldable pub go_on : (ℕ → ℕ) → ℕ → List ℕ → List ℕ → ℕ
go_on look edition left [] = 0
go_on look edition left (c ∷ cs) = pick (joined edition left (look c)) (suc (go_on look edition (look c ∷ left) cs)) 0

-- how many characters the cluster has that begins cs, where left stands before it; 0 where there is nothing
abbrev pub cluster_size : (ℕ → ℕ) → ℕ → List ℕ → List ℕ → ℕ
cluster_size look edition left [] = 0
cluster_size look edition left (c ∷ cs) = suc (go_on look edition (look c ∷ left) cs)

-- the first cluster, at the start of the text
abbrev pub first_size : (ℕ → ℕ) → ℕ → List ℕ → ℕ
first_size look edition cs = cluster_size look edition [] cs

-- the byte after it, where cs begins at the byte i
abbrev pub first_end : (ℕ → ℕ) → ℕ → ℕ → List ℕ → ℕ
first_end look edition i cs = i + length (encode_all (take (first_size look edition cs) cs))

-- the code points after it
abbrev pub first_rest : (ℕ → ℕ) → ℕ → List ℕ → List ℕ
first_rest look edition cs = drop (first_size look edition cs) cs

-- how many characters the second cluster has: the rules look back over the first one
abbrev pub second_size : (ℕ → ℕ) → ℕ → List ℕ → ℕ
second_size look edition cs = cluster_size look edition (before look [] (first_size look edition cs) cs) (first_rest look edition cs)

-- the second cluster is exactly the character c
abbrev pub second_is : (ℕ → ℕ) → ℕ → List ℕ → ℕ → Bool
second_is look edition cs c = eqb (get_or (first_rest look edition cs) 0 0) c && eqb (second_size look edition cs) 1
