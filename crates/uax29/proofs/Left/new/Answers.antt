-- `uax29::Left::new` meets its contract: nothing stands left. Assumes nothing.
use mathlib.Core.Path.{refl}
use Rattle.uax29.specs.Uax29.{ends_pict, ends_pict_zwj, ends_odd, ends_consonant, ends_linked}
use Rattle.uax29.proofs.Left.new.Goals as goal

pub returns : goal.returns
unfolding ends_pict ends_pict_zwj ends_odd ends_consonant ends_linked
returns c = refl
