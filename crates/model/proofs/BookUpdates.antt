-- An update on the state that a book describes: its course is that of the book's deliveries. Assumes nothing.
use Prim.Native.Nat.{ℕ, zero, suc}
use mathlib.Core.Path.{◌≡◌, refl, sym, ap, ◌∙◌}
use mathlib.Core.Bool.{Bool, true, false}
use mathlib.Core.List.{List, [], ◌∷◌, map}
use lib.Dec.{eqb}
use borrow.Author.Tests.{eqb-true}
use Rattle.wire.specs.Tests.{pick}
use Rattle.journal.specs.View.{formed}
use Rattle.session.specs.Calls.{deliver}
use Rattle.update.specs.Update.{orders_of, Course, stopped, granted_first, deliver_all}
use Rattle.update.specs.Outcome.{report_of, report_on, next_on}
use Rattle.model.specs.Book.{Book, book_next, book_answer, book_after, book_answers}
use Rattle.model.specs.Updates.{deliveries, last_after, granted_of, book_report}
use Rattle.model.proofs.BookState.{bytes_same, state_of_book, answer_book, next_book}

-- the course that the answers of deliveries make
abbrev course_of : List (List ℕ) → Book → Course
course_of os b =
    record {
      granted = granted_of os (book_answers (map deliver os) b);
      number = last_after 0 (book_answers (map deliver os) b);
      state = state_of_book (book_after (map deliver os) b);
    }

-- none
course_none : (b : Book) → course_of [] b ≡ stopped 0 (state_of_book b)
unfolding book_answers book_after last_after granted_of
course_none b = refl

-- a first one that is granted; one that is refused, with none after it
module _ (o : List ℕ) (b : Book) where
  course_granted : (os : List (List ℕ)) → (book_answer (deliver o) b).number ≡ 0 → course_of (o ∷ os) b ≡ granted_first o (course_of os (book_next (deliver o) b))
  unfolding book_answers book_after last_after granted_of
  course_granted os z = rw z

  course_refused : eqb (book_answer (deliver o) b).number 0 ≡ false → course_of (o ∷ []) b ≡ stopped (book_answer (deliver o) b).number (state_of_book (book_next (deliver o) b))
  unfolding book_answers book_after last_after granted_of
  course_refused z = rw z

  -- on the state
  abbrev first_on_lem : ℕ → List (List ℕ) → Course
  first_on_lem limit os =
      pick (eqb (book_answer (deliver o) b).number 0) (granted_first o (deliver_all limit os (state_of_book (book_next (deliver o) b))))
      (stopped (book_answer (deliver o) b).number (state_of_book (book_next (deliver o) b)))

  first_on : (limit : ℕ) (os : List (List ℕ)) → deliver_all (suc limit) (o ∷ os) (state_of_book b) ≡ first_on_lem limit os
  unfolding deliver_all
  first_on limit os = rw (answer_book (deliver o) b, next_book (deliver o) b)

  first_is : (limit : ℕ) (os : List (List ℕ)) → deliver_all limit os (state_of_book (book_next (deliver o) b)) ≡ course_of (deliveries limit os (book_next (deliver o) b)) (book_next (deliver o) b)
      → first_on_lem limit os ≡ course_of (o ∷ pick (eqb (book_answer (deliver o) b).number 0) (deliveries limit os (book_next (deliver o) b)) []) b
  first_is limit os rest = go (eqb (book_answer (deliver o) b).number 0) refl
    where
      go : (t : Bool) → eqb (book_answer (deliver o) b).number 0 ≡ t
          → pick t (granted_first o (deliver_all limit os (state_of_book (book_next (deliver o) b)))) (stopped (book_answer (deliver o) b).number (state_of_book (book_next (deliver o) b)))
          ≡ course_of (o ∷ pick t (deliveries limit os (book_next (deliver o) b)) []) b
      go true e = ap (granted_first o) rest ∙ sym (course_granted (deliveries limit os (book_next (deliver o) b)) (eqb-true (book_answer (deliver o) b).number 0 e))
      go false e = sym (course_refused e)

course_book : (limit : ℕ) (os : List (List ℕ)) (b : Book) → deliver_all limit os (state_of_book b) ≡ course_of (deliveries limit os b) b
unfolding deliver_all deliveries
course_book zero os b = sym (course_none b)
course_book (suc limit) [] b = sym (course_none b)
course_book (suc limit) (o ∷ os) b = first_on o b limit os ∙ first_is o b limit os (course_book limit os (book_next (deliver o) b))

module _ (limit : ℕ) (s : List ℕ) (b : Book) where
  pub report_book : report_on limit s (formed (state_of_book b)) ≡ book_report (deliveries limit (orders_of s) b) b
  unfolding report_on report_of
  report_book =
      let os = deliveries limit (orders_of s) b in
      let x = bytes_same (granted_of os (book_answers (map deliver os) b)) in
      let y = bytes_same (book_after (map deliver os) b).new in
      ap report_of (course_book limit (orders_of s) b) ∙ rw (x, y)

  pub next_update : next_on limit s (formed (state_of_book b)) ≡ formed (state_of_book (book_after (map deliver (deliveries limit (orders_of s) b)) b))
  unfolding next_on
  next_update = ap (λ (c : Course). formed c.state) (course_book limit (orders_of s) b)
