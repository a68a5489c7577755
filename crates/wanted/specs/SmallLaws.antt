-- The numbers of options that were read have 32 bits.
--     parse_small
-- Assumes nothing.
use Prim.Native.Nat.{ℕ, zero, suc, ◌+◌}
use Rattle.std.specs.Prelude.{◌≡◌, drop, None, Result, Ok, Err}
use Rattle.std.proofs.Math.Path.{refl, subst}
use mathlib.Core.List.{List, [], ◌∷◌}
use Rattle.format_options.specs.Options.{no_options, with_width, with_precision}
use Rattle.format_options.specs.declared.Part.{Part}
use Rattle.format_options.specs.declared.Options.{Options}
use Rattle.format_number.specs.Number.{peeked, consume_u32}
use Rattle.format_options.specs.declared.FormatError.{FormatError}
use Rattle.format_number.specs.declared.Number.{Number}
use Rattle.format_arms.specs.declared.Position.{Position}
use Rattle.format_arms.specs.Arms.{start, precision, type, arm_of}
use Rattle.format_arms.specs.declared.Arm.{Arm}
use Rattle.format_arms.specs.declared.Arm.TheVariants as arm
use Rattle.format.specs.Parse.{len_utf8, Body, Goes, Fails, on_consumed, body_of, add_fill, parse_from, append, parse}
use Rattle.decimal.specs.DecimalLaws.{number_taken}
use Rattle.asked.specs.FieldsLaws.{Small}

-- the width and the precision of options
abbrev pub SmallBoth : Options → Type 0
SmallBoth o = Small o.width × Small o.precision

-- those of the options that a body goes on with
abbrev SmallAfter : Body → Type 0
SmallAfter (Goes o position k fill) = SmallBoth o
SmallAfter (Fails e) = Unit {0}

module _ (look : ℕ → ℕ) (edition : ℕ) where
  body_small : (at : ℕ) (o : Options) (c : ℕ) (cs : List ℕ) → SmallBoth o → (a : Arm) → SmallAfter (body_of look edition at o c cs a)
  body_small at o c cs s arm.FillSign = s
  body_small at o c cs s arm.Align = s
  body_small at o c cs s arm.ZeroFill = s
  body_small at o c cs s arm.MinWidth = go (consume_u32 c cs) refl
    where
      go : (x : Result Number FormatError) → consume_u32 c cs ≡ x → SmallAfter (on_consumed x (λ n k. Goes (with_width n o) precision k None))
      go (Ok v) e = ((number_taken c cs v.n v.digits e).small, s.1)
      go (Err e) q = tt
  body_small at o c cs s arm.Precision = go (consume_u32 (peeked cs) (drop 1 cs)) refl
    where
      go : (x : Result Number FormatError) → consume_u32 (peeked cs) (drop 1 cs) ≡ x → SmallAfter (on_consumed x (λ n k. Goes (with_precision n o) type (suc k) None))
      go (Ok v) e = (s.0, (number_taken (peeked cs) (drop 1 cs) v.n v.digits e).small)
      go (Err e) q = tt
  body_small at o c cs s (arm.Represent r) = s
  body_small at o c cs s arm.FillCluster = s
  body_small at o c cs s arm.Unexpected = tt

  module _ {P : Type 0} (add : P → Part → P) where
    from_small : (k at : ℕ) (p : Position) (o : Options) (pool : P) (cs : List ℕ) → SmallBoth o → SmallBoth (parse_from add look edition k at p o pool cs).options
    unfolding parse_from
    from_small k at p o pool [] s = s
    from_small (suc k) at p o pool (c ∷ cs) s = from_small k (at + len_utf8 c) p o pool cs s
    from_small zero at p o pool (c ∷ cs) s =
        go (body_of look edition at o c cs (arm_of c (peeked cs) p)) refl
        (λ k q r more t. from_small k (at + len_utf8 c) q r more cs t)
      where
        go : (b : Body) → body_of look edition at o c cs (arm_of c (peeked cs) p) ≡ b
            → ((k : ℕ) (q : Position) (r : Options) (more : P) → SmallBoth r → SmallBoth (parse_from add look edition k (at + len_utf8 c) q r more cs).options)
            → SmallBoth (parse_from add look edition 0 at p o pool (c ∷ cs)).options
        go (Goes r q k fill) e ih =
            let t : SmallBoth r = subst SmallAfter e (body_small at o c cs s (arm_of c (peeked cs) p)) in
            rw (e, parse_from) (ih k q r (add_fill add pool fill) t)
        go (Fails x) e ih = rw (e, parse_from) s

  pub parse_small : (cs : List ℕ) → SmallBoth (parse look edition cs).options
  parse_small cs = from_small append 0 0 start no_options [] cs (tt, tt)
