-- A parse of a format string does the same to two pools that stand to each other in a relation which every addition keeps: it ends alike, and
-- the pools after it stand in the relation again.
--     Mirrored, mirrors
-- Assumes nothing.
use Prim.Native.Nat.{ℕ, zero, suc, ◌+◌}
use Rattle.std.specs.Prelude.{◌≡◌, refl, Option, Some, None, Err}
use mathlib.Core.List.{List, [], ◌∷◌}
use Rattle.format.specs.Parse.{len_utf8, Body, Goes, Fails, body_of, OnePass, add_fill, parse_from, parse_with}
use Rattle.format_options.specs.Options.{no_options}
use Rattle.format_options.specs.declared.Part.{Part}
use Rattle.format_options.specs.declared.Options.{Options}
use Rattle.format_number.specs.Number.{peeked}
use Rattle.format_arms.specs.declared.Position.{Position}
use Rattle.format_arms.specs.Arms.{start, arm_of}

module _ {P Q : Type 0} (R : P → Q → Type 0) where
  pub record Mirrored (a : OnePass P) (b : OnePass Q) : Type 0 where
    pub options : a.options ≡ b.options
    pub outcome : a.outcome ≡ b.outcome
    pub pools : R a.pool b.pool

  module _ (add : P → Part → P) (put : Q → Part → Q) (step : (p : P) (q : Q) (part : Part) → R p q → R (add p part) (put q part))
      (look : ℕ → ℕ) (edition : ℕ) where
    filled : (p : P) (q : Q) (fill : Option Part) → R p q → R (add_fill add p fill) (add_fill put q fill)
    filled p q (Some part) r = step p q part r
    filled p q None r = r

    from : (k at : ℕ) (position : Position) (o : Options) (p : P) (q : Q) (cs : List ℕ) → R p q
        → Mirrored (parse_from add look edition k at position o p cs) (parse_from put look edition k at position o q cs)
    unfolding parse_from
    from k at position o p q [] r = record { options = refl; outcome = refl; pools = r }
    from (suc k) at position o p q (c ∷ cs) r = from k (at + len_utf8 c) position o p q cs r
    from zero at position o p q (c ∷ cs) r =
        go (body_of look edition at o c cs (arm_of c (peeked cs) position))
        (λ k next result fill. from k (at + len_utf8 c) next result (add_fill add p fill) (add_fill put q fill) cs (filled p q fill r))
      where
        go : (body : Body)
            → ((k : ℕ) (next : Position) (result : Options) (fill : Option Part)
            → Mirrored (parse_from add look edition k (at + len_utf8 c) next result (add_fill add p fill) cs)
            (parse_from put look edition k (at + len_utf8 c) next result (add_fill put q fill) cs))
            → Mirrored
            (elim body [
              | Goes result next k fill ↦ parse_from add look edition k (at + len_utf8 c) next result (add_fill add p fill) cs
              | Fails e ↦ record { options = o; outcome = Err e; pool = p }
            ])
            (elim body [
              | Goes result next k fill ↦ parse_from put look edition k (at + len_utf8 c) next result (add_fill put q fill) cs
              | Fails e ↦ record { options = o; outcome = Err e; pool = q }
            ])
        go (Goes result next k fill) on = on k next result fill
        go (Fails e) on = record { options = refl; outcome = refl; pools = r }

    pub mirrors : (p : P) (q : Q) (cs : List ℕ) → R p q → Mirrored (parse_with add look edition p cs) (parse_with put look edition q cs)
    mirrors p q cs r = from 0 0 start no_options p q cs r
