-- `pool::refusal_of` meets its contract: its arms are those of `on_utf8`. Assumes nothing.
use Rattle.std.specs.Prelude.{Err}
use mathlib.Core.Path.{◌≡◌, refl, sym, ◌∙◌}
use Rattle.utf8.specs.declared.Utf8Error.{Utf8Error}
use Rattle.utf8.specs.declared.Utf8Error.TheVariants as utf8
use Rattle.pool.specs.Pool.{of_utf8, refused_as}
use Rattle.pool.proofs.refusal_of.Goals as goal

-- the refusal of the check's fault
by_fault : (e : Utf8Error) → of_utf8 e ≡ refused_as (Err e)
by_fault (utf8.BadAt i) = refl
by_fault (utf8.CutAt i) = refl

pub returns-in-Err : goal.returns-in-Err
returns-in-Err c = rw (sym c.check_utf8.ensures ∙ c.in-Err.is) (c.from.ensures ∙ by_fault _)

pub returns-in-Ok : goal.returns-in-Ok
returns-in-Ok c = rw (sym c.check_utf8.ensures ∙ c.in-Ok.is)
