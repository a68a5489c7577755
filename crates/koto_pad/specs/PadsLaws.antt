-- That no second answer fits the call: two calls on the same input return the same number and leave the same words, every one of them.
--     koto_pad_has_one_answer
-- Assumes nothing.
use Rattle.std.specs.Prelude.{ℕ, ◌≡◌, List}
use Rattle.std.proofs.Common.{sym, ◌∙◌}
use Rattle.koto_pad.specs.Pads.{PadIs}

pub koto_pad_has_one_answer : {text fill table old new new' : List ℕ} {alignment width filled edition len place r len' place' r' : ℕ}
    → PadIs text alignment width filled fill table edition old new len place r
    → PadIs text alignment width filled fill table edition old new' len' place' r'
    → (r ≡ r') × (new ≡ new') × (len ≡ len') × (place ≡ place')
koto_pad_has_one_answer p q = (
  p.number ∙ sym q.number,
  p.contents ∙ sym q.contents,
  p.len_is ∙ sym q.len_is,
  p.place_is ∙ sym q.place_is,
)
