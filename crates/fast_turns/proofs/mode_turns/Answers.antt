-- `fast_turns::mode_turns` meets its contract: the mode's tag decides. Assumes nothing.
use Rattle.turns.specs.TurnsLaws.{turns_none}
use Rattle.fast_turns.proofs.mode_turns.Goals as goal

pub literal_turn-requires : goal.literal_turn-requires
literal_turn-requires c =
    (c.requires.0, c.in-1.is)

pub format_turn-requires : goal.format_turn-requires
format_turn-requires c =
    (c.requires.0, c.in-4.is)

pub code_turns-requires : goal.code_turns-requires
code_turns-requires c =
    let p = c.requires in
    let r = c.in_default.in_default-own.rest in
    (p.0, p.1, record { no_literal = r.0.0.0.1; no_format = r.0.0.1; no_start = r.0.1; no_end = r.1 })

pub returns-in-1 : goal.returns-in-1
returns-in-1 c = c.literal_turn.ensures

pub returns-in-4 : goal.returns-in-4
returns-in-4 c = c.format_turn.ensures

pub returns-in-5 : goal.returns-in-5
returns-in-5 c = turns_none c.requires.0.ok c.stays.ensures

pub returns-in-6 : goal.returns-in-6
returns-in-6 c = turns_none c.requires.0.ok c.stays-in-6.ensures

pub returns-in_default : goal.returns-in_default
returns-in_default c = c.code_turns.ensures
