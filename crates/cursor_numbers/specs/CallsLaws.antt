-- That no second answer fits a call: two calls on the same input return the same number and leave the same words, every one of them.
--     koto_next_has_one_answer, koto_peek_has_one_answer, koto_look_ahead_has_one_answer
-- Assumes nothing.
use Rattle.std.specs.Prelude.{ℕ, ◌≡◌, List}
use Rattle.std.proofs.Common.{sym, ◌∙◌}
use Rattle.cursor_numbers.specs.Cursors.{GivenIs, NextIs, LookedIs, PeekIs, LookAheadIs}
use Rattle.lookahead.specs.Next.{Given}
use Rattle.lookahead.specs.Peek.{Peeked}

given_has_one_answer : {given : Given} {words words' : List ℕ}
    {taken queued newTaken newQueued shown place r newTaken' newQueued' shown' place' r' : ℕ}
    → GivenIs given taken queued newTaken newQueued shown words place r → GivenIs given taken queued newTaken' newQueued' shown' words' place' r'
    → (r ≡ r') × (newTaken ≡ newTaken') × (newQueued ≡ newQueued') × (shown ≡ shown') × (words ≡ words') × (place ≡ place')
given_has_one_answer p q = (
  p.number ∙ sym q.number,
  p.taken_is ∙ sym q.taken_is,
  p.queued_is ∙ sym q.queued_is,
  p.shown_is ∙ sym q.shown_is,
  p.words_are ∙ sym q.words_are,
  p.place_is ∙ sym q.place_is,
)

pub koto_next_has_one_answer : (list : List ℕ) (taken queued count status : ℕ) {words words' : List ℕ}
    {newTaken newQueued shown place r newTaken' newQueued' shown' place' r' : ℕ}
    → NextIs list taken queued count status newTaken newQueued shown words place r
    → NextIs list taken queued count status newTaken' newQueued' shown' words' place' r'
    → (r ≡ r') × (newTaken ≡ newTaken') × (newQueued ≡ newQueued') × (shown ≡ shown') × (words ≡ words') × (place ≡ place')
koto_next_has_one_answer list taken queued count status p q = given_has_one_answer p q

looked_has_one_answer : {looked : Peeked} {words words' : List ℕ} {taken queued newQueued shown place r newQueued' shown' place' r' : ℕ}
    → LookedIs looked taken queued newQueued shown words place r → LookedIs looked taken queued newQueued' shown' words' place' r'
    → (r ≡ r') × (newQueued ≡ newQueued') × (shown ≡ shown') × (words ≡ words') × (place ≡ place')
looked_has_one_answer p q = (
  p.number ∙ sym q.number,
  p.queued_is ∙ sym q.queued_is,
  p.shown_is ∙ sym q.shown_is,
  p.words_are ∙ sym q.words_are,
  p.place_is ∙ sym q.place_is,
)

pub koto_peek_has_one_answer : (list : List ℕ) (taken queued count status n : ℕ) {words words' : List ℕ}
    {newQueued shown place r newQueued' shown' place' r' : ℕ}
    → PeekIs list taken queued count status n newQueued shown words place r
    → PeekIs list taken queued count status n newQueued' shown' words' place' r'
    → (r ≡ r') × (newQueued ≡ newQueued') × (shown ≡ shown') × (words ≡ words') × (place ≡ place')
koto_peek_has_one_answer list taken queued count status n p q = looked_has_one_answer p q

pub koto_look_ahead_has_one_answer : (list : List ℕ) (taken queued count status n : ℕ) {words words' : List ℕ}
    {newQueued shown place r newQueued' shown' place' r' : ℕ}
    → LookAheadIs list taken queued count status n newQueued shown words place r
    → LookAheadIs list taken queued count status n newQueued' shown' words' place' r'
    → (r ≡ r') × (newQueued ≡ newQueued') × (shown ≡ shown') × (words ≡ words') × (place ≡ place')
koto_look_ahead_has_one_answer list taken queued count status n p q = looked_has_one_answer p q
