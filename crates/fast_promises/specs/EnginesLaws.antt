-- The two engines of the scan: on every source, table, edition and list they give the same answer and leave the same words.
--     engines_agree     `scan` and `scan_fast`
--     calls_agree       `koto_scan` and `koto_scan_fast`: number, list, status, count and byte
-- Assumes nothing.
use Rattle.std.specs.Prelude.{ℕ, ◌≡◌, List}
use Rattle.std.proofs.Common.{sym, ◌∙◌}
use Rattle.reading.specs.Scan.{Scans}
use Rattle.reading.specs.Scan.{Scanned}
use Rattle.koto_lexer.specs.Scans.{ScanIs}
use Rattle.koto_fast.specs.Fast.{ScanFastIs}

-- p is what `scan` ensures, and q what `scan_fast` does
pub engines_agree : {source table : List ℕ} {edition : ℕ} {old new new' : List ℕ} {r r' : Scanned} → Scans source table edition old r new
    → Scans source table edition old r' new' → (r ≡ r') × (new ≡ new')
engines_agree p q = (p.answer ∙ sym q.answer, p.words ∙ sym q.words)

pub calls_agree : {source table : List ℕ} {edition : ℕ} {old new new' : List ℕ} {status count byte r status' count' byte' r' : ℕ}
    → ScanIs source table edition old new status count byte r → ScanFastIs source table edition old new' status' count' byte' r'
    → (r ≡ r') × (new ≡ new') × (status ≡ status') × (count ≡ count') × (byte ≡ byte')
calls_agree p q = (
  p.number ∙ sym q.number,
  p.words ∙ sym q.words,
  p.status_is ∙ sym q.status_is,
  p.count_is ∙ sym q.count_is,
  p.byte_is ∙ sym q.byte_is,
)
