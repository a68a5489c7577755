-- `state::Lexer::apply` meets its contract: each arm is a case of `changed_by`, and its room is that of `Fits`. Assumes nothing.
use Rattle.state.proofs.Lexer.apply.Goals as goal

pub push-requires : goal.push-requires
push-requires c =
    rw c.in-Push.is at c.requires

pub pop-requires : goal.pop-requires
pop-requires c =
    rw c.in-Pop.is at c.requires

pub replace-requires : goal.replace-requires
replace-requires c =
    rw c.in-Replace.is at c.requires

pub returns-in-Keep : goal.returns-in-Keep
returns-in-Keep c = rw c.in-Keep.is

pub returns-in-Push : goal.returns-in-Push
returns-in-Push c = rw c.in-Push.is c.push.ensures

pub returns-in-Pop : goal.returns-in-Pop
returns-in-Pop c = rw c.in-Pop.is c.pop.ensures

pub returns-in-Replace : goal.returns-in-Replace
returns-in-Replace c = rw c.in-Replace.is c.replace.ensures
