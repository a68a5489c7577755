-- C-14: look-ups that agree on the code points of a format string give the same parse, whatever pool it adds to.
--     parse_agrees     from the start, with any pool
--     read_agrees      the reading without a pool
-- Assumes nothing.
use Prim.Native.Nat.{ℕ, zero, suc, ◌+◌, ◌-◌}
use Rattle.std.specs.Prelude.{◌≡◌, length, take, Err}
use Rattle.std.proofs.Math.Path.{refl}
use mathlib.Core.List.{List, [], ◌∷◌}
use Rattle.utf8.specs.Encode.{encode_all}
use Rattle.cluster.specs.FirstLaws.{Agree, same_first}
use Rattle.format_options.specs.Options.{no_options}
use Rattle.format_options.specs.declared.Options.{Options}
use Rattle.format_options.specs.declared.Part.{Part}
use Rattle.format_number.specs.Number.{peeked}
use Rattle.format_arms.specs.declared.Position.{Position}
use Rattle.format_arms.specs.Arms.{start, alignment, arm_of}
use Rattle.format_arms.specs.declared.Arm.{Arm}
use Rattle.format_arms.specs.declared.Arm.TheVariants as arm
use Rattle.format_state.specs.State.{nothing_added, keep}
use Rattle.format.specs.Parse.{len_utf8, Goes, Fails, goes_filled, body_of, add_fill, parse_from, parse_with}
use Rattle.format.specs.Read.{reading_of, read_format}

module _ (f g : ℕ → ℕ) (edition : ℕ) where
  -- only the arm of a cluster asks for properties
  body_agrees : (at : ℕ) (o : Options) (c : ℕ) (cs : List ℕ) → Agree f g (c ∷ cs) → (x : Arm)
      → body_of f edition at o c cs x ≡ body_of g edition at o c cs x
  body_agrees at o c cs a arm.FillSign = refl
  body_agrees at o c cs a arm.Align = refl
  body_agrees at o c cs a arm.ZeroFill = refl
  body_agrees at o c cs a arm.MinWidth = refl
  body_agrees at o c cs a arm.Precision = refl
  body_agrees at o c cs a (arm.Represent r) = refl
  body_agrees at o c cs a arm.FillCluster =
      let n = same_first f g edition (c ∷ cs) a in
      λ i. goes_filled o alignment (n i - 1) (record { place = at; len = 0 + length (encode_all (take (n i) (c ∷ cs))) })
  body_agrees at o c cs a arm.Unexpected = refl

  module _ {P : Type 0} (add : P → Part → P) where
    from_agrees : (k at : ℕ) (position : Position) (o : Options) (pool : P) (cs : List ℕ) → Agree f g cs
        → parse_from add f edition k at position o pool cs ≡ parse_from add g edition k at position o pool cs
    unfolding parse_from
    from_agrees k at position o pool [] a = refl
    from_agrees (suc k) at position o pool (c ∷ cs) a = from_agrees k (at + len_utf8 c) position o pool cs a.1
    from_agrees zero at position o pool (c ∷ cs) a =
        λ i. elim (body_agrees at o c cs a (arm_of c (peeked cs) position) i) [ Goes result next k fill ↦ from_agrees k (at + len_utf8 c) next result (add_fill add pool fill) cs a.1 i | Fails e ↦ record { options = o; outcome = Err e; pool = pool } ]

    pub parse_agrees : (pool : P) (cs : List ℕ) → Agree f g cs → parse_with add f edition pool cs ≡ parse_with add g edition pool cs
    parse_agrees pool cs a = from_agrees 0 0 start no_options pool cs a

  pub read_agrees : (cs : List ℕ) → Agree f g cs → read_format f edition cs ≡ read_format g edition cs
  unfolding read_format
  read_agrees cs a = λ i. reading_of (parse_agrees keep nothing_added cs a i)
