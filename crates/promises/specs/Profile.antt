-- The promise of `profile::scan_profile` (document 02, C-14): the answer is the scan's, or 21 at the first forbidden token of a scan that was not
-- refused, and never anything else; the list is the scan's in every word. What is forbidden is told by koto's own stack of modes.
-- Assumes nothing.
use Rattle.std.specs.Prelude.{ℕ, ◌<◌, ◌≡◌, true, false, List, Err}
use Rattle.base.specs.Refusal.{none, not_in_profile}
use Rattle.reading.specs.Scan as scan
use Rattle.reading.specs.Scan.{Scans}
use Rattle.reading.specs.Scan.{Scanned}
use Rattle.forbidden.specs.Forbidden.{forbidden_token, modes_before, token_at}
use Rattle.profile.specs.Profile.{number_of, place_of}
use Rattle.profile.specs.Profile.{Profiled, as_scan}
use Rattle.profile.specs.declared.ProfileError.TheVariants.{NotInProfile}

module _ (source table : List ℕ) (edition : ℕ) where
  -- the token that koto's lexer hands out once i were handed out is forbidden, or it is not
  abbrev pub Forbidden : ℕ → Type 0
  Forbidden i = forbidden_token (modes_before source table edition i) (token_at source table edition i) ≡ true

  abbrev pub Allowed : ℕ → Type 0
  Allowed i = forbidden_token (modes_before source table edition i) (token_at source table edition i) ≡ false

  -- of n tokens, token i is the first that is forbidden
  pub record First (n i : ℕ) : Type 0 where
    pub within : i < n
    pub forbidden : Forbidden i
    pub none_before : (j : ℕ) → j < i → Allowed j

  -- s is what `scan` answers. The cases shut each other out, and leave nothing out
  pub record ProfilePromise (old : List ℕ) (s : Scanned) (r : Profiled) (new : List ℕ) : Type 0 where
    -- the list is the scan's
    pub whole : Scans source table edition old s new
    -- a scan that is refused is refused as it was
    pub refused : (scan.number_of s ≡ none → ⊥) → r ≡ as_scan s
    -- no token is forbidden, so with no raw string and no template inside a template: the scan's answer
    pub in_profile : ((i : ℕ) → i < scan.count_of s → Allowed i) → r ≡ as_scan s
    -- 21, with the index of the first forbidden record and the scan's count
    pub not_in_profile_lem : scan.number_of s ≡ none → (i : ℕ) → First (scan.count_of s) i → r ≡ Err (NotInProfile (scan.count_of s) i)
    -- which is given nowhere else
    pub only : number_of r ≡ not_in_profile → (scan.number_of s ≡ none) × First (scan.count_of s) (place_of r)
