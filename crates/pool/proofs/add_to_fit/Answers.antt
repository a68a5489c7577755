-- `pool::add_to_fit` meets its contract: the answer is that of `placed` for what the search found and for the room of the rows, and only a new
-- index has its string written. Assumes nothing.
use mathlib.Core.Path.{◌≡◌, sym, ap, ◌∙◌}
use mathlib.Core.Bool.{true}
use native.Mathlib.Omega.{arith}
use Rattle.pool.specs.Pool.{added_to_fit, is_new}
use Rattle.pool_rows.specs.FitLaws.{searchable, fit_of}
use Rattle.pool.specs.PoolLaws.{placed_same, old_bytes, old_entries, new_bytes_lem, new_entries_lem, HasRoom, new_has_room}
use Rattle.pool.proofs.add_to_fit.Goals as goal
use Rattle.pool.proofs.add_to_fit.Goals.{After-is_new}

answer_is : (c : After-is_new)
    → c.place-answer.result
    ≡ added_to_fit c.args.string.now c.args.bytes.now c.args.entries.now c.args.counts
answer_is c =
    c.place-answer.ensures
    ∙ placed_same _ _ _ _ _ _ _ _ c.find_string-found.ensures c.room_of-entry_room.ensures c.room_of-byte_room.ensures

has_room : (c : After-is_new) → c.is_new.result ≡ true
    → HasRoom c.args.string.now c.args.bytes.now c.args.entries.now c.args.counts
has_room c e = new_has_room _ _ _ _ (ap (is_new c.args.counts) (sym (answer_is c)) ∙ sym c.is_new.ensures ∙ e)

pub find_string-found-requires : goal.find_string-found-requires
find_string-found-requires c =
    let s = c in
    searchable s.args.bytes.now s.args.entries.now s.args.counts s.requires

pub place-answer-requires : goal.place-answer-requires
place-answer-requires c =
    let s = c in
    omega (arith, c.room_of-byte_room.ensures, (fit_of s.args.entries.now s.args.counts _ _ s.requires).bytes_fit)

pub returns-then-not-is_new : goal.returns-then-not-is_new
returns-then-not-is_new c =
    let old = sym c.is_new.ensures ∙ c.if-not-is_new.true in
    record { answer = answer_is (goal.at.returns-then-not-is_new c).After-is_new; bytes_left = sym (old_bytes _ _ _ old _); entries_left = sym (old_entries _ _ _ old _) }

pub copy_in-requires : goal.copy_in-requires
copy_in-requires c = omega (arith, has_room (goal.at.copy_in-requires c).After-is_new c.if-not-is_new.false)

pub overflow_cast-string : goal.overflow_cast-string
overflow_cast-string c =
    omega (arith, has_room (goal.at.overflow_cast-string c).After-is_new c.if-not-is_new.false)

pub put_entry-requires : goal.put_entry-requires
put_entry-requires c =
    omega (arith, has_room (goal.at.put_entry-requires c).After-is_new c.if-not-is_new.false)

pub returns : goal.returns
returns c =
    let new = sym c.is_new.ensures ∙ c.if-not-is_new.false in
    record {
      answer = answer_is (goal.at.returns c).After-is_new;
      bytes_left = c.copy_in.ensures ∙ sym (new_bytes_lem _ _ _ new _);
      entries_left = c.put_entry.ensures ∙ sym (new_entries_lem _ _ _ new _);
    }
