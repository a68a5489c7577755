-- `keywords::kind_at` meets its contract: at a known place `kind_at` computes, one line for each. Assumes nothing.
use mathlib.Core.Path.{sym, ap}
use Rattle.keywords.specs.Places.{place_by, keywords_at, first_kind, kind_at}
use Rattle.keywords.proofs.Narrow.{by_none}
use Rattle.keywords.proofs.kind_at.Goals as goal

pub returns-in-0 : goal.returns-in-0
unfolding place_by keywords_at kind_at
returns-in-0 c = rw c.in-0.is

pub returns-in-3 : goal.returns-in-3
unfolding place_by keywords_at kind_at
returns-in-3 c = rw c.in-3.is

pub returns-in-6 : goal.returns-in-6
unfolding place_by keywords_at kind_at
returns-in-6 c = rw c.in-6.is

pub returns-in-10 : goal.returns-in-10
unfolding place_by keywords_at kind_at
returns-in-10 c = rw c.in-10.is

pub returns-in-14 : goal.returns-in-14
unfolding place_by keywords_at kind_at
returns-in-14 c = rw c.in-14.is

pub returns-in-20 : goal.returns-in-20
unfolding place_by keywords_at kind_at
returns-in-20 c = rw c.in-20.is

pub returns-in-22 : goal.returns-in-22
unfolding place_by keywords_at kind_at
returns-in-22 c = rw c.in-22.is

pub returns-in-23 : goal.returns-in-23
unfolding place_by keywords_at kind_at
returns-in-23 c = rw c.in-23.is

pub returns-in-25 : goal.returns-in-25
unfolding place_by keywords_at kind_at
returns-in-25 c = rw c.in-25.is

pub returns-in-29 : goal.returns-in-29
unfolding place_by keywords_at kind_at
returns-in-29 c = rw c.in-29.is

pub returns-in-30 : goal.returns-in-30
unfolding place_by keywords_at kind_at
returns-in-30 c = rw c.in-30.is

pub returns-in-31 : goal.returns-in-31
unfolding place_by keywords_at kind_at
returns-in-31 c = rw c.in-31.is

pub returns-in-32 : goal.returns-in-32
unfolding place_by keywords_at kind_at
returns-in-32 c = rw c.in-32.is

pub returns-in-33 : goal.returns-in-33
unfolding place_by keywords_at kind_at
returns-in-33 c = rw c.in-33.is

pub returns-in-34 : goal.returns-in-34
unfolding place_by keywords_at kind_at
returns-in-34 c = rw c.in-34.is

pub returns-in-35 : goal.returns-in-35
unfolding place_by keywords_at kind_at
returns-in-35 c = rw c.in-35.is

pub returns-in-36 : goal.returns-in-36
unfolding place_by keywords_at kind_at
returns-in-36 c = rw c.in-36.is

pub returns-in-37 : goal.returns-in-37
unfolding place_by keywords_at kind_at
returns-in-37 c = rw c.in-37.is

pub returns-in-39 : goal.returns-in-39
unfolding place_by keywords_at kind_at
returns-in-39 c = rw c.in-39.is

pub returns-in-45 : goal.returns-in-45
unfolding place_by keywords_at kind_at
returns-in-45 c = rw c.in-45.is

pub returns-in-47 : goal.returns-in-47
unfolding place_by keywords_at kind_at
returns-in-47 c = rw c.in-47.is

pub returns-in-48 : goal.returns-in-48
unfolding place_by keywords_at kind_at
returns-in-48 c = rw c.in-48.is

pub returns-in-49 : goal.returns-in-49
unfolding place_by keywords_at kind_at
returns-in-49 c = rw c.in-49.is

pub returns-in-52 : goal.returns-in-52
unfolding place_by keywords_at kind_at
returns-in-52 c = rw c.in-52.is

pub returns-in-53 : goal.returns-in-53
unfolding place_by keywords_at kind_at
returns-in-53 c = rw c.in-53.is

pub returns-in-55 : goal.returns-in-55
unfolding place_by keywords_at kind_at
returns-in-55 c = rw c.in-55.is

pub returns-in-57 : goal.returns-in-57
unfolding place_by keywords_at kind_at
returns-in-57 c = rw c.in-57.is

pub returns-in-58 : goal.returns-in-58
unfolding place_by keywords_at kind_at
returns-in-58 c = rw c.in-58.is

pub returns-in-59 : goal.returns-in-59
unfolding place_by keywords_at kind_at
returns-in-59 c = rw c.in-59.is

pub returns-in-60 : goal.returns-in-60
unfolding place_by keywords_at kind_at
returns-in-60 c = rw c.in-60.is

pub returns-in-61 : goal.returns-in-61
unfolding place_by keywords_at kind_at
returns-in-61 c = rw c.in-61.is

pub returns-in-63 : goal.returns-in-63
unfolding place_by keywords_at kind_at
returns-in-63 c = rw c.in-63.is

pub returns-in_default : goal.returns-in_default
unfolding place_by keywords_at kind_at
returns-in_default c = ap first_kind (sym (by_none _ c.in_default.in_default-own.rest))
