-- `replay_rows::list_buffer` meets its contract: a row of one number has as many as it was made of. Assumes nothing.
use Rattle.std.proofs.Common.{ℕ, sym}
use Rattle.std.proofs.lemmas.List.{length-replicate}
use Rattle.replay_rows.proofs.list_buffer.Goals as goal

pub returns : goal.returns
returns c = sym (length-replicate {A = ℕ} 16384 0xa5a5a5f0)
