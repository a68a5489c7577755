-- That no second answer fits the call: two calls on the same input return the same number and leave the same words, every one of them.
--     koto_write_format_has_one_answer
-- Assumes nothing.
use Rattle.std.specs.Prelude.{ℕ, ◌≡◌, List}
use Rattle.std.proofs.Common.{sym, ◌∙◌}
use Rattle.koto_writer.specs.Writes.{WriteIs}

pub koto_write_format_has_one_answer : {fill table old new new' : List ℕ}
    {alignment width precision representation filled edition len place r len' place' r' : ℕ}
    → WriteIs alignment width precision representation filled fill table edition old new len place r
    → WriteIs alignment width precision representation filled fill table edition old new' len' place' r'
    → (r ≡ r') × (new ≡ new') × (len ≡ len') × (place ≡ place')
koto_write_format_has_one_answer p q = (
  p.number ∙ sym q.number,
  p.contents ∙ sym q.contents,
  p.len_is ∙ sym q.len_is,
  p.place_is ∙ sym q.place_is,
)
