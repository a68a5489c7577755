-- `desks::room_for` meets its contract: the calls say what is left of the other desk's guarantee, and what that leaves. Assumes nothing.
use Rattle.desks.proofs.room_for.Goals as goal

pub returns : goal.returns
returns c =
    let owed = c.other_of-other.ensures in
    rw (c.saturating_sub-4.ensures, c.saturating_sub-3.ensures, c.saturating_sub-2.ensures, c.saturating_sub.ensures, owed)
