-- The clusters of a text (UAX #29, section 3.1.1; document 02, C-11): each place is judged by all that stands left of it, as far back as the
-- start of the text. To begin anew behind each break would be the same for real Unicode data, and not for every fit table.
-- A text is its code points, and `look` gives the properties of each.
-- Assumes nothing.
use Rattle.std.specs.Prelude.{ℕ, zero, suc, ◌+◌, ◌-◌, List, [], ◌∷◌, ◌++◌, length, take, drop}
use Rattle.base.specs.Pick.{pick}
use Rattle.uax29.specs.Uax29.{joined}
use Rattle.cluster.specs.First.{break_after}

-- of the n numbers from k on those after which so many characters of cs are followed by a break, in order
unfoldable pub breaks_from : (ℕ → ℕ) → ℕ → List ℕ → ℕ → ℕ → List ℕ
breaks_from look edition cs k zero = []
breaks_from look edition cs k (suc n) =
    pick (break_after look edition cs k) (k ∷ breaks_from look edition cs (suc k) n) (breaks_from look edition cs (suc k) n)

-- the places of cs, behind one character or more, after which there is a break; the last is the end of the text (GB2)
abbrev pub breaks : (ℕ → ℕ) → ℕ → List ℕ → List ℕ
breaks look edition cs = breaks_from look edition cs 1 (length cs)

-- how many clusters cs has
abbrev pub cluster_count : (ℕ → ℕ) → ℕ → List ℕ → ℕ
cluster_count look edition cs = length (breaks look edition cs)

-- ---- the clusters themselves

-- what stands from the place `start` of a text on, cut at places of the text
unfoldable pub cut_at : ℕ → List ℕ → List ℕ → List (List ℕ)
cut_at start [] cs = []
cut_at start (k ∷ ks) cs = take (k - start) cs ∷ cut_at k ks (drop (k - start) cs)

-- a text cut at its breaks
abbrev pub clusters_of : (ℕ → ℕ) → ℕ → List ℕ → List (List ℕ)
clusters_of look edition cs = cut_at 0 (breaks look edition cs) cs

-- parts put together again
unfoldable pub together : List (List ℕ) → List ℕ
together [] = []
together (part ∷ parts) = part ++ together parts

-- ---- what the code counts

-- how many clusters begin in cs, where left stands before it
unfoldable pub begun_in : (ℕ → ℕ) → ℕ → List ℕ → List ℕ → ℕ
begun_in look edition left [] = 0
begun_in look edition left (c ∷ cs) = pick (joined edition left (look c)) 0 1 + begun_in look edition (look c ∷ left) cs
