-- Document 01's cases marked (T), "Edges, with bytes": one table and the claim over it. Assumes nothing.
use Rattle.std.specs.Prelude.{ℕ, ◌≡◌, true, false, List, [], ◌∷◌, map, Result, Ok, Err}
use Rattle.std.proofs.Math.Option.{none}
use Rattle.wire.specs.Tests.{pick}
use Rattle.protocol.specs.declared.Refusal.{Refusal}
use Rattle.protocol.specs.declared.Refusal.TheVariants.{TooShort, LengthDiffers, OutsideSet}
use Rattle.pdu.specs.declared.Pdu.{Pdu}
use Rattle.pdu.specs.declared.Pdu.TheVariants.{Handshake}
use Rattle.pdu.specs.Reading.{read_of}
use Rattle.order.specs.declared.Order.TheVariants.{Window, Desktop}
use Rattle.order.specs.Judge.{Judged, refuse, judge_of}
use Rattle.places.specs.declared.Family.TheVariants as family
use Rattle.places.specs.Holder.{same_family}
use Rattle.slots.specs.Families.{same_record}
use Rattle.index.specs.Index.{empty_index}
use Rattle.body.specs.Bodies.{Body}
use Rattle.table.specs.Table.{Table}
use Rattle.figure.specs.declared.Figure.{Figure}
use Rattle.session.specs.declared.LookupTarget.TheVariants as T
use Rattle.session.specs.Calls.{Call, deliver, look, Payload, nothing, listed, desktop}
use Rattle.session.specs.Calls as S
use Rattle.model.specs.Book.{Book, new_book, table_of, book_after, book_answers}
use Rattle.protocol.specs.declared.Refusal.TheVariants.{UnknownType, NotFilled}

-- what is asked, and what the rules answer: of a message; of an order, what its bytes alone say; of calls on an emptied state with 64
-- places, what the plain book says, and the standing orders and the table that they leave
pub data Question : Type 0 where
  read_pdu : List ℕ → Question
  judge_order : List ℕ → Question
  ask_book : List Call → Question
  end_of : List Call → Question

pub data Answer : Type 0 where
  read_as : Result Pdu Refusal → Answer
  judged_as : Judged → Answer
  book_says : List S.Answer → Answer
  left : Book → Table → Answer

abbrev pub places : ℕ
places = 64

abbrev pub ask : Question → Answer
ask (read_pdu bytes) = read_as (read_of bytes)
ask (judge_order bytes) = judged_as (judge_of bytes)
ask (ask_book calls) = book_says (book_answers calls (new_book places))
ask (end_of calls) = left (book_after calls (new_book places)) (table_of (book_after calls (new_book places)))

-- an answer of a state call
abbrev pub granted : ℕ → ℕ → Payload → S.Answer
granted count bytes payload = record { number = 0; count = count; bytes = bytes; payload = payload }

abbrev pub refused : ℕ → S.Answer
refused number = record { number = number; count = 0; bytes = 0; payload = nothing }

-- the orders of cases 4 and 5, and the window that case 4 makes: title "A", all else zero or empty
abbrev pub new_a : List ℕ
new_a = 0x2E ∷ 0x0F ∷ 0x00 ∷ 0x04 ∷ 0x00 ∷ 0x00 ∷ 0x11 ∷ 0x58 ∷ 0x00 ∷ 0x01 ∷ 0x00 ∷ 0x02 ∷ 0x00 ∷ 0x41 ∷ 0x00 ∷ []

abbrev pub delete_a : List ℕ
delete_a = 0x2E ∷ 0x0B ∷ 0x00 ∷ 0x00 ∷ 0x00 ∷ 0x00 ∷ 0x21 ∷ 0x58 ∷ 0x00 ∷ 0x01 ∷ 0x00 ∷ []

-- case 6's
abbrev pub desktop_none_order : List ℕ
desktop_none_order = 0x2E ∷ 0x07 ∷ 0x00 ∷ 0x01 ∷ 0x00 ∷ 0x00 ∷ 0x04 ∷ []

abbrev pub four : List ℕ
four = 0 ∷ 0 ∷ 0 ∷ 0 ∷ []

abbrev pub eight : List ℕ
eight = 0 ∷ 0 ∷ 0 ∷ 0 ∷ 0 ∷ 0 ∷ 0 ∷ 0 ∷ []

abbrev pub window_a : List (List ℕ)
window_a =
    four
    ∷ eight
    ∷ (0 ∷ [])
    ∷ (0x02 ∷ 0x00 ∷ 0x41 ∷ 0x00 ∷ [])
    ∷ eight
    ∷ eight
    ∷ eight
    ∷ eight
    ∷ (0 ∷ [])
    ∷ four
    ∷ eight
    ∷ eight
    ∷ eight
    ∷ (0 ∷ 0 ∷ [])
    ∷ eight
    ∷ (0 ∷ 0 ∷ [])
    ∷ (0 ∷ 0 ∷ [])
    ∷ (0 ∷ [])
    ∷ (0 ∷ [])
    ∷ (0 ∷ [])
    ∷ (0 ∷ [])
    ∷ []

-- a desktop state with no active window and no stacking list, neither hooked nor syncing
abbrev pub desktop_none : Body
desktop_none = record { first = 0; second = 0; fields = four ∷ (0 ∷ []) ∷ [] }

-- no window is shown
abbrev pub nothing_shown_of : Figure
nothing_shown_of = record { windows = 0; pixels = 0 }

-- a table with this window alone, no picture, and an emptied desktop
abbrev pub table_a : Table
table_a =
    record {
      index =
          record {
            listed = λ f a b. pick (same_record family.Windows 65624 0 f a b) true false;
            many = λ f. pick (same_family f family.Windows) 1 0;
            sharing = (empty_index places).sharing;
          };
      fields = λ f a b. pick (same_record family.Windows 65624 0 f a b) window_a [];
      shown = λ h. none;
      desktop = desktop_none;
    }

-- standing orders after the mark
abbrev pub standing : List (List ℕ) → Book
standing os = record { places = places; old = []; new = os }

-- what a lookup of the window hands out: its fields, and no picture for any of its icons
abbrev pub window_shown : Payload
window_shown = listed family.Windows window_a (none ∷ none ∷ none ∷ [])

-- the window of cases 4 and 5 looked up
abbrev pub look_a : Call
look_a = look (T.Window (record { id = 65624 }))

pub record Case : Type 0 where
  pub question : Question
  pub answer : Answer

abbrev pub cases : List Case
cases =
    -- 1: handshake, build 7601
    record {
      question = read_pdu (0x05 ∷ 0x00 ∷ 0x08 ∷ 0x00 ∷ 0xB1 ∷ 0x1D ∷ 0x00 ∷ 0x00 ∷ []);
      answer = read_as (Ok (Handshake (record { build_number = 7601 })));
    }
    -- 2: the same cut to 7 bytes, and no bytes
    ∷ record { question = read_pdu (0x05 ∷ 0x00 ∷ 0x08 ∷ 0x00 ∷ 0xB1 ∷ 0x1D ∷ 0x00 ∷ []); answer = read_as (Err LengthDiffers) }
    ∷ record { question = read_pdu []; answer = read_as (Err TooShort) }
    -- 3: Enabled is 2
    ∷ record { question = read_pdu (0x02 ∷ 0x00 ∷ 0x09 ∷ 0x00 ∷ 0x58 ∷ 0x00 ∷ 0x01 ∷ 0x00 ∷ 0x02 ∷ []); answer = read_as (Err OutsideSet) }
    -- 4: a new window with the title "A"
    ∷ record {
      question = judge_order (0x2E ∷ 0x0F ∷ 0x00 ∷ 0x04 ∷ 0x00 ∷ 0x00 ∷ 0x11 ∷ 0x58 ∷ 0x00 ∷ 0x01 ∷ 0x00 ∷ 0x02 ∷ 0x00 ∷ 0x41 ∷ 0x00 ∷ []);
      answer = judged_as (Ok (Window (record { window = record { id = 65624 }; flags = 0x11000004; icon = 15 })));
    }
    -- 5: the window deleted
    ∷ record {
      question = judge_order (0x2E ∷ 0x0B ∷ 0x00 ∷ 0x00 ∷ 0x00 ∷ 0x00 ∷ 0x21 ∷ 0x58 ∷ 0x00 ∷ 0x01 ∷ 0x00 ∷ []);
      answer = judged_as (Ok (Window (record { window = record { id = 65624 }; flags = 0x21000000; icon = 11 })));
    }
    -- 6: desktop none, and the same with type byte 05
    ∷ record {
      question = judge_order (0x2E ∷ 0x07 ∷ 0x00 ∷ 0x01 ∷ 0x00 ∷ 0x00 ∷ 0x04 ∷ []);
      answer = judged_as (Ok (Desktop (record { flags = 0x04000001 })));
    }
    ∷ record { question = judge_order (0x2E ∷ 0x07 ∷ 0x00 ∷ 0x01 ∷ 0x00 ∷ 0x00 ∷ 0x05 ∷ []); answer = judged_as (refuse UnknownType 3) }
    -- 7: case 4 with flags byte 84; 5 before request No. 12, since when this bit carries resize margins
    ∷ record {
      question = judge_order (0x2E ∷ 0x0F ∷ 0x00 ∷ 0x84 ∷ 0x00 ∷ 0x00 ∷ 0x11 ∷ 0x58 ∷ 0x00 ∷ 0x01 ∷ 0x00 ∷ 0x02 ∷ 0x00 ∷ 0x41 ∷ 0x00 ∷ []);
      answer = judged_as (refuse NotFilled 15);
    }
    -- 4 on an emptied state: one window, title "A"; delivered again: 9, nothing changed
    ∷ record { question = end_of (deliver new_a ∷ []); answer = left (standing (new_a ∷ [])) table_a }
    ∷ record { question = end_of (deliver new_a ∷ deliver new_a ∷ []); answer = left (standing (new_a ∷ [])) table_a }
    ∷ record {
      question = ask_book (deliver new_a ∷ look_a ∷ deliver new_a ∷ look_a ∷ []);
      answer = book_says (granted 1 15 nothing ∷ granted 1 15 window_shown ∷ refused 9 ∷ granted 1 15 window_shown ∷ []);
    }
    -- 5: then the window gone; on an empty table 9
    ∷ record {
      question = ask_book (deliver new_a ∷ deliver delete_a ∷ look_a ∷ []);
      answer = book_says (granted 1 15 nothing ∷ granted 2 26 nothing ∷ refused 9 ∷ []);
    }
    ∷ record { question = ask_book (deliver delete_a ∷ []); answer = book_says (refused 9 ∷ []) }
    -- 6: desktop none, granted on an empty table; with type byte 05: 4
    ∷ record {
      question = ask_book (deliver desktop_none_order ∷ look T.Desktop ∷ []);
      answer = book_says (granted 1 7 nothing ∷ granted 1 7 (desktop desktop_none nothing_shown_of) ∷ []);
    }
    ∷ record { question = ask_book (deliver (0x2E ∷ 0x07 ∷ 0x00 ∷ 0x01 ∷ 0x00 ∷ 0x00 ∷ 0x05 ∷ []) ∷ []); answer = book_says (refused 4 ∷ []) }
    -- 7
    ∷ record {
      question =
          ask_book (deliver (0x2E ∷ 0x0F ∷ 0x00 ∷ 0x84 ∷ 0x00 ∷ 0x00 ∷ 0x11 ∷ 0x58 ∷ 0x00 ∷ 0x01 ∷ 0x00 ∷ 0x02 ∷ 0x00 ∷ 0x41 ∷ 0x00 ∷ []) ∷ []);
      answer = book_says (refused 7 ∷ []);
    }
    ∷ []

-- each question gets its answer
unfoldable pub CasesHold : Type 0
CasesHold = map (λ (c : Case). ask c.question) cases ≡ map (λ (c : Case). c.answer) cases
