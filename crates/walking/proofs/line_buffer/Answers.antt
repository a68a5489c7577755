-- `walking::line_buffer` meets its contract: a row of one number has as many as it was made of. Assumes nothing.
use Rattle.std.proofs.Common.{ℕ, sym}
use Rattle.std.proofs.lemmas.List.{length-replicate}
use Rattle.walking.proofs.line_buffer.Goals as goal

pub returns : goal.returns
returns c = sym (length-replicate {A = ℕ} 200001 0)
