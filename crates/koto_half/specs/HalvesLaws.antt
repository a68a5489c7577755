-- That no second answer fits the call: two calls on the same input return the same number and leave the same words, every one of them.
--     koto_scan_half_has_one_answer
-- Assumes nothing.
use Rattle.std.specs.Prelude.{ℕ, ◌≡◌, List}
use Rattle.std.proofs.Common.{sym, ◌∙◌}
use Rattle.koto_half.specs.Halves.{ScanHalfIs}

pub koto_scan_half_has_one_answer :
    {source table : List ℕ} {edition : ℕ} {old new new' : List ℕ} {status count byte r status' count' byte' r' : ℕ}
    → ScanHalfIs source table edition old new status count byte r → ScanHalfIs source table edition old new' status' count' byte' r'
    → (r ≡ r') × (new ≡ new') × (status ≡ status') × (count ≡ count') × (byte ≡ byte')
koto_scan_half_has_one_answer p q = (
  p.number ∙ sym q.number,
  p.words ∙ sym q.words,
  p.status_is ∙ sym q.status_is,
  p.count_is ∙ sym q.count_is,
  p.byte_is ∙ sym q.byte_is,
)
