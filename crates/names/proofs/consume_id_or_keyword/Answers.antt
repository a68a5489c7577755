-- `names::consume_id_or_keyword` meets its contract: the token is that of the name that reaches to `name_end`.
-- Assumes nothing.
use Rattle.names.specs.NameLaws.{len_there, name_goes}
use Rattle.names.proofs.consume_id_or_keyword.Goals as goal

pub char_len-len-requires : goal.char_len-len-requires
char_len-len-requires c =
    let pre = c.requires in
    rw c.reach-reach.ensures (pre.stands.0.well, pre.lexer_in_bounds)

pub name_end-requires : goal.name_end-requires
name_end-requires c =
    let pre = c.requires in
    (pre.stands.0, pre.stands.1, len_there c.reach-reach.ensures c.char_len-len.ensures)

pub name_token-requires : goal.name_token-requires
name_token-requires c =
    let pre = c.requires in
    (pre.stands.0, rw c.name_end.ensures (name_goes _ _ _ pre.stands.0 pre.lexer_in_bounds))
