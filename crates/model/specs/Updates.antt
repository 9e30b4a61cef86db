-- A whole update in the plain book: it counts as its deliveries. Assumes nothing.
use Rattle.std.specs.Prelude.{ℕ, zero, suc, List, [], ◌∷◌, ◌++◌, map, eqb, length}
use Rattle.wire.specs.Tests.{pick}
use Rattle.session.specs.Calls.{Call, deliver, Answer}
use Rattle.session.specs.Outcome.{Request, Response, response_of}
use Rattle.update.specs.declared.Report.{Report}
use Rattle.update.specs.Update.{orders_of}
use Rattle.model.specs.Book.{Book, bytes_of, book_next, book_answer, book_after, book_answers}

-- a call of a list: a single one with the output memory lent to it, or a whole update with its limit
pub data Step : Type 0 where
  single : Request → Step
  update : ℕ → List ℕ → Step

-- what it says
pub data Said : Type 0 where
  responds : Response → Said
  reports : Report → Said

-- ---- the deliveries of an update: until so many are granted, none is left or one is refused, which is the last

unfoldable pub deliveries : ℕ → List (List ℕ) → Book → List (List ℕ)
deliveries zero os b = []
deliveries (suc limit) [] b = []
deliveries (suc limit) (o ∷ os) b = o ∷ pick (eqb (book_answer (deliver o) b).number 0) (deliveries limit os (book_next (deliver o) b)) []

-- a list of calls with each update replaced by its deliveries
unfoldable pub calls_of : Step → Book → List Call
calls_of (single q) b = q.call ∷ []
calls_of (update limit s) b = map deliver (deliveries limit (orders_of s) b)

unfoldable pub replaced : List Step → Book → List Call
replaced [] b = []
replaced (x ∷ xs) b = calls_of x b ++ replaced xs (book_after (calls_of x b) b)

-- ---- what is said, by the answers of the deliveries

-- the last number, n where there is none
unfoldable pub last_after : ℕ → List Answer → ℕ
last_after n [] = n
last_after n (a ∷ rest) = last_after a.number rest

-- the orders that are answered 0
unfoldable pub granted_of : List (List ℕ) → List Answer → List (List ℕ)
granted_of [] answers = []
granted_of (o ∷ os) [] = []
granted_of (o ∷ os) (a ∷ rest) = pick (eqb a.number 0) (o ∷ granted_of os rest) (granted_of os rest)

abbrev pub book_report : List (List ℕ) → Book → Report
book_report os b =
    record {
      number = last_after 0 (book_answers (map deliver os) b);
      orders = length (granted_of os (book_answers (map deliver os) b));
      granted = bytes_of (granted_of os (book_answers (map deliver os) b));
      count = length (book_after (map deliver os) b).new;
      bytes = bytes_of (book_after (map deliver os) b).new;
    }

unfoldable pub book_says : Step → Book → Said
book_says (single q) b = responds (response_of q (book_answer q.call b))
book_says (update limit s) b = reports (book_report (deliveries limit (orders_of s) b) b)

unfoldable pub book_said : List Step → Book → List Said
book_said [] b = []
book_said (x ∷ xs) b = book_says x b ∷ book_said xs (book_after (calls_of x b) b)
