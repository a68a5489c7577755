-- string_format_options.rs `StringFormatOptions::parse`, over the characters that are left and the byte place of the first of them. `look`
-- gives the properties of a code point.
-- The pool is whatever `add` adds to, one part of the format string after the other: a list of parts, in `parse`; what the code keeps, in
-- `Read`. An addition cannot fail here: for a pool that can be full, P also says whether it was, and `add` then leaves it as it is.
-- `match (next, chars.peek(), position)` is told in two halves: `arm_of` of `format_arms` has the patterns, in their order, and `body_of`
-- what stands behind each, under its pattern.
-- Assumes nothing.
use Rattle.std.specs.Prelude.{ℕ, zero, suc, ◌+◌, ◌-◌, ◌≤◌, List, [], ◌∷◌, ◌++◌, length, take, drop, Option, Some, None, Result, Ok, Err}
use Rattle.utf8.specs.Encode.{encode, WellFormed}
use Rattle.cluster.specs.First.{first_size, first_end}
use Rattle.format_options.specs.Options.{no_options, with_alignment, with_width, with_precision, with_representation, with_fill}
use Rattle.format_options.specs.Letters.{char_to_alignment}
use Rattle.format_options.specs.declared.Part.{Part}
use Rattle.format_options.specs.declared.Options.{Options}
use Rattle.format_options.specs.declared.FormatError.TheVariants.{UnexpectedToken}
use Rattle.format_number.specs.Number.{peeked, consume_u32}
use Rattle.format_options.specs.declared.FormatError.{FormatError}
use Rattle.format_number.specs.declared.Number.{Number}
use Rattle.format_arms.specs.Arms.{start, alignment, min_width, precision, type, end, arm_of}
use Rattle.format_arms.specs.declared.Position.{Position}
use Rattle.format_arms.specs.declared.Arm.{Arm}
use Rattle.format_arms.specs.declared.Arm.TheVariants as arm

-- `c.len_utf8()`
abbrev pub len_utf8 : ℕ → ℕ
len_utf8 c = length (encode c)

-- ---- the bodies

-- what an arm does: it goes on with these options and this position, having taken so many characters after its own, and with the string
-- added, if it adds one; or it fails
pub data Body : Type 0 where
  Goes : Options → Position → ℕ → Option Part → Body
  Fails : FormatError → Body

-- `?` on what `consume_u32` answers
abbrev pub on_consumed : Result Number FormatError → (ℕ → ℕ → Body) → Body
on_consumed (Ok v) f = f v.n v.digits
on_consumed (Err e) f = Fails e

-- the options with the fill, which is added to the pool
abbrev pub goes_filled : Options → Position → ℕ → Part → Body
goes_filled o position k fill = Goes (with_fill fill o) position k (Some fill)

-- c stands at the byte `at`, and cs after it. Position Start is left at the first character, so there c and cs are the whole format string
abbrev pub body_of : (ℕ → ℕ) → ℕ → ℕ → Options → ℕ → List ℕ → Arm → Body
-- `(_, Some('<' | '^' | '>'), Start)`
body_of look edition at o c cs arm.FillSign =
    goes_filled (with_alignment (char_to_alignment (peeked cs)) o) min_width 1 (record { place = at; len = len_utf8 c })
-- `('<' | '^' | '>', _, Start | Alignment)`
body_of look edition at o c cs arm.Align = Goes (with_alignment (char_to_alignment c) o) min_width 0 None
-- `('0', Some('0'..='9'), Start | MinWidth)`
body_of look edition at o c cs arm.ZeroFill = goes_filled o min_width 0 (record { place = at; len = len_utf8 c })
-- `('0'..='9', _, Start | MinWidth)`
body_of look edition at o c cs arm.MinWidth = on_consumed (consume_u32 c cs) (λ n k. Goes (with_width n o) precision k None)
-- `('.', Some(_), Start | MinWidth | Precision)`
body_of look edition at o c cs arm.Precision =
    on_consumed (consume_u32 (peeked cs) (drop 1 cs)) (λ n k. Goes (with_precision n o) type (suc k) None)
-- `('?', _, Start | MinWidth | Precision | Type)`, and the six after it
body_of look edition at o c cs (arm.Represent r) = Goes (with_representation r o) end 0 None
-- `(_, _, Start)`
body_of look edition at o c cs arm.FillCluster =
    goes_filled o alignment (first_size look edition (c ∷ cs) - 1) (record { place = at; len = first_end look edition 0 (c ∷ cs) })
-- `(other, _, _)`
body_of look edition at o c cs arm.Unexpected = Fails (UnexpectedToken c)

-- ---- the loop

-- what `parse` comes to: the options so far, how it ends, and the pool
pub record OnePass (P : Type 0) : Type 0 where
  pub options : Options
  pub outcome : Result Unit FormatError
  pub pool : P

-- the pool after an arm
abbrev pub add_fill : {P : Type 0} → (P → Part → P) → P → Option Part → P
add_fill add pool (Some part) = add pool part
add_fill add pool None = pool

module _ {P : Type 0} (add : P → Part → P) (look : ℕ → ℕ) (edition : ℕ) where
  -- from the byte `at` on, where the first k characters of what is left were taken by the last arm
  unfoldable pub parse_from : ℕ → ℕ → Position → Options → P → List ℕ → OnePass P
  parse_from k at position o pool [] = record { options = o; outcome = Ok tt; pool = pool }
  parse_from (suc k) at position o pool (c ∷ cs) = parse_from k (at + len_utf8 c) position o pool cs
  parse_from zero at position o pool (c ∷ cs) =
      elim (body_of look edition at o c cs (arm_of c (peeked cs) position)) [
        | Goes result next k fill ↦ parse_from k (at + len_utf8 c) next result (add_fill add pool fill) cs
        | Fails e ↦ record { options = o; outcome = Err e; pool = pool }
      ]

  -- of a whole format string
  abbrev pub parse_with : P → List ℕ → OnePass P
  parse_with pool cs = parse_from 0 0 start no_options pool cs

-- one more string, at the end of a list
abbrev pub append : List Part → Part → List Part
append parts part = parts ++ part ∷ []

-- `parse` of a whole format string, with the strings that it adds, in order
abbrev pub parse : (ℕ → ℕ) → ℕ → List ℕ → OnePass (List Part)
parse look edition cs = parse_with append look edition [] cs

-- the string of a part of s
abbrev pub string_of : List ℕ → Part → List ℕ
string_of s part = take part.len (drop part.place s)

-- a part that is inside s, and made of whole characters
pub record PartIn (s : List ℕ) (part : Part) : Type 0 where
  pub within : part.place + part.len ≤ length s
  pub well : WellFormed (string_of s part)

-- a string, if there is one, is a part of s
abbrev pub FillIn : List ℕ → Option Part → Type 0
FillIn s (Some part) = PartIn s part
FillIn s None = Unit {0}

-- the string of a part of s added
abbrev pub add_part : {P : Type 0} → List ℕ → (P → List ℕ → P) → P → Part → P
add_part s add pool part = add pool (string_of s part)

-- strings added to a pool, one after the other
abbrev pub add_all : {P : Type 0} → (P → Part → P) → P → List Part → P
add_all add pool [] = pool
add_all add pool (part ∷ parts) = add_all add (add pool part) parts
