-- Laws of `read_format`: what a caller knows who has a pool. s is the format string.
--     parse_two_stages         `parse` with a pool is the reading, and then its two strings added, wherever adding a string twice in a row is
--                              adding it once
--     added_in                 both strings are parts of the format string, made of whole characters
--     fill_is_last             the fill of the options is the string added last: its index in the pool is what that addition answers
-- Assumes nothing.
use Rattle.std.specs.Prelude.{ℕ, ◌≡◌, refl, Option, Some, None}
use Rattle.std.proofs.Common.{sym, ap, subst, ◌∙◌}
use mathlib.Core.List.{List, [], ◌∷◌}
use Rattle.utf8.specs.Encode.{WellFormed}
use Rattle.utf8.specs.Chars.{chars}
use Rattle.format_options.specs.Letters.{zero_digit}
use Rattle.format_options.specs.declared.Part.{Part}
use Rattle.format_arms.specs.Arms.{start}
use Rattle.format_arms.specs.declared.Position.{Position}
use Rattle.format_state.specs.State.{nothing_added, keep, keep_by}
use Rattle.format_state.specs.declared.Strings.{Strings}
use Rattle.format.specs.Parse.{OnePass, add_fill, parse_with, append, parse, string_of, PartIn, FillIn, add_part, add_all}
use Rattle.format.specs.ParseLaws.{parse_adds, Keeps, parse_keeps}
use Rattle.format.specs.Read.{read_format, add_both, last_of}
use Rattle.format.specs.declared.FormatRead.{FormatRead}

module _ (s : List ℕ) where
  -- ---- what is added after the first string is "0"

  abbrev Zeros : List Part → Type 0
  Zeros [] = Unit {0}
  Zeros (part ∷ parts) = (string_of s part ≡ zero_digit ∷ []) × Zeros parts

  abbrev Tail : List Part → Type 0
  Tail [] = Unit {0}
  Tail (part ∷ parts) = Zeros parts

  zeros_more : (parts : List Part) (part : Part) → Zeros parts → string_of s part ≡ zero_digit ∷ [] → Zeros (append parts part)
  zeros_more [] part z e = (e, tt)
  zeros_more (q ∷ parts) part z e = (z.0, zeros_more parts part z.1 e)

  tail_more : (parts : List Part) (part : Part) → Tail parts → string_of s part ≡ zero_digit ∷ [] → Tail (append parts part)
  tail_more [] part z e = tt
  tail_more (q ∷ parts) part z e = zeros_more parts part z e

  -- at the start nothing is added yet
  record Listed (p : Position) (fill : Option Part) (parts : List Part) : Type 0 where
    none : p ≡ start → parts ≡ []
    tail : Tail parts

  listed : Keeps s append Listed
  listed =
      record {
        by_fill = λ q fill parts part i v h. record { none = λ e. absurd (h e); tail = subst (λ (l : List Part). Tail (append l part)) (sym (i.none refl)) tt };
        by_zero = λ p q fill parts part i v h. record { none = λ e. absurd (h e); tail = tail_more parts part i.tail v.zero_is };
        by_other = λ p q fill parts i h. record { none = λ e. absurd (h e); tail = i.tail };
      }

  -- ---- both strings

  -- a string, if there is one, is a zero
  abbrev IsZero : Option Part → Type 0
  IsZero (Some part) = string_of s part ≡ zero_digit ∷ []
  IsZero None = Unit {0}

  module _ {P : Type 0} (add : P → List ℕ → P) where
    abbrev put : P → Part → P
    put = add_part s add

    module _ (again : (pool : P) (x : List ℕ) → add (add pool x) x ≡ add pool x) where
      -- a zero after a zero adds nothing
      zero_again : (pool : P) (x : Option Part) (part : Part) → IsZero x → string_of s part ≡ zero_digit ∷ [] → put (add_fill put pool x) part ≡ put pool part
      zero_again pool (Some z) part v e = rw (v, e) (again pool (zero_digit ∷ []))
      zero_again pool None part v e = refl

      -- zeros after a first string and perhaps a zero
      zeros_last : (pool : P) (first : Part) (x : Option Part) (parts : List Part) → IsZero x → Zeros parts
          → add_all put (add_fill put (put pool first) x) parts ≡ add_both put pool (add_all keep (record { first = Some first; second = x }) parts)
      zeros_last pool first x [] v z = refl
      zeros_last pool first x (part ∷ parts) v z =
          ap (λ (y : P). add_all put y parts) (zero_again (put pool first) x part v z.0) ∙ zeros_last pool first (Some part) parts z.0 z.1

      same_pool : (pool : P) (parts : List Part) → Tail parts → add_all put pool parts ≡ add_both put pool (add_all keep nothing_added parts)
      same_pool pool [] z = refl
      same_pool pool (part ∷ parts) z = zeros_last pool part None parts tt z

      module _ (look : ℕ → ℕ) (edition : ℕ) where
        -- the reading, and then both strings added
        abbrev pub staged : P → FormatRead → OnePass P
        staged pool r = record { options = r.options; outcome = r.outcome; pool = add_both put pool r.added }

        pub parse_two_stages : (pool : P) → WellFormed s → parse_with put look edition pool (chars s) ≡ staged pool (read_format look edition (chars s))
        unfolding read_format
        parse_two_stages pool w =
            let r = parse look edition (chars s) in
            let i = (parse_keeps s append Listed listed look edition [] w (record { none = λ _. refl; tail = tt })).1 in
            rw (parse_adds put look edition pool (chars s), parse_adds keep look edition nothing_added (chars s), same_pool pool r.pool i.tail)

  -- ---- the parts

  pub record AddedIn (a : Strings) : Type 0 where
    pub first : FillIn s a.first
    pub second : FillIn s a.second

  keep_in : (a : Strings) (part : Part) (x : Option Part) → a.first ≡ x → AddedIn a → PartIn s part → AddedIn (keep_by x a part)
  keep_in a part (Some p) e i v = record { first = i.first; second = v }
  keep_in a part None e i v = record { first = v; second = tt }

  keeps_in : Keeps s keep (λ p fill a. AddedIn a)
  keeps_in =
      record {
        by_fill = λ q fill a part i v h. keep_in a part a.first refl i v;
        by_zero = λ p q fill a part i v h. keep_in a part a.first refl i v.part_in;
        by_other = λ p q fill a i h. i;
      }

  -- the fill is the last string
  last_kept : (a : Strings) (part : Part) (x : Option Part) → Some part ≡ last_of (keep_by x a part)
  last_kept a part (Some p) = refl
  last_kept a part None = refl

  keeps_last : Keeps s keep (λ p fill a. fill ≡ last_of a)
  keeps_last =
      record {
        by_fill = λ q fill a part i v h. last_kept a part a.first;
        by_zero = λ p q fill a part i v h. last_kept a part a.first;
        by_other = λ p q fill a i h. i;
      }

  module _ (look : ℕ → ℕ) (edition : ℕ) (w : WellFormed s) where
    pub added_in : AddedIn (read_format look edition (chars s)).added
    unfolding read_format
    added_in = (parse_keeps s keep (λ p fill a. AddedIn a) keeps_in look edition nothing_added w (record { first = tt; second = tt })).1

    pub fill_is_last : (read_format look edition (chars s)).options.fill ≡ last_of (read_format look edition (chars s)).added
    unfolding read_format
    fill_is_last = (parse_keeps s keep (λ p fill a. fill ≡ last_of a) keeps_last look edition nothing_added w refl).1
