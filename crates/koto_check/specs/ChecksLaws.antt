-- That no second answer fits the call: two calls on the same input return the same number and leave the same words, every one of them.
--     koto_check_list_has_one_answer
-- Assumes nothing.
use Rattle.std.specs.Prelude.{ℕ, ◌≡◌, List}
use Rattle.std.proofs.Common.{sym, ◌∙◌}
use Rattle.koto_check.specs.Checks.{CheckListIs}

pub koto_check_list_has_one_answer : {source table list : List ℕ} {edition count status same differs place r same' differs' place' r' : ℕ}
    → CheckListIs source table edition list count status same differs place r
    → CheckListIs source table edition list count status same' differs' place' r'
    → (r ≡ r') × (same ≡ same') × (differs ≡ differs') × (place ≡ place')
koto_check_list_has_one_answer p q = (
  p.number ∙ sym q.number,
  p.same_is ∙ sym q.same_is,
  p.differs_is ∙ sym q.differs_is,
  p.place_is ∙ sym q.place_is,
)
