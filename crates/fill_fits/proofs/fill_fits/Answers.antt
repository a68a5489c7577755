-- `fill_fits::fill_fits` meets its contract: bytes that are no text fit nowhere. Assumes nothing.
use mathlib.Core.Path.{refl, sym, ◌∙◌}
use Rattle.utf8.specs.CharsLaws.{well_of_fine}
use Rattle.fill_fits.proofs.fill_fits.Goals as goal

pub chars_fit-requires : goal.chars_fit-requires
chars_fit-requires c =
    (well_of_fine 0 _ (sym c.check_utf8.ensures ∙ c.in-Ok.is), c.requires)

pub returns-in-Err : goal.returns-in-Err
returns-in-Err c = let e = sym c.check_utf8.ensures ∙ c.in-Err.is in rw e refl

pub returns-in-Ok : goal.returns-in-Ok
returns-in-Ok c =
    let e = sym c.check_utf8.ensures ∙ c.in-Ok.is in
    rw e c.chars_fit.ensures
