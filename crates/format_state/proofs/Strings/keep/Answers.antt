-- `format_state::Strings::keep` meets its contract: whether there is a first string decides. Assumes nothing.
use Rattle.std.specs.Prelude.{Option}
use mathlib.Core.Path.{sym, ap}
use Rattle.format_options.specs.declared.Part.{Part}
use Rattle.format_state.specs.State.{keep_by}
use Rattle.format_state.specs.declared.Strings.{Strings}
use Rattle.format_state.proofs.Strings.keep.Goals as goal

-- what is kept, by the first string
abbrev by : Strings → Part → Option Part → Strings
by a part first = keep_by first a part

pub returns-in-Some : goal.returns-in-Some
returns-in-Some c = let p = c.args in sym (ap (by p.self p.part) c.in-Some.is)

pub returns-in-None : goal.returns-in-None
returns-in-None c = let p = c.args in sym (ap (by p.self p.part) c.in-None.is)
