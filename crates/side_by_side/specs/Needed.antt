-- Change request 13: what its premises are needed for, on states reached by deliveries from an emptied one. Assumes nothing.
use Rattle.std.specs.Prelude.{ℕ, ◌≡◌, Bool, List, [], ◌∷◌, ◌++◌, eqb, replicate}
use Rattle.wire.specs.Tests.{pick, both, either}
use Rattle.places.specs.declared.Family.TheVariants as family
use Rattle.places.specs.Sharing.{Sharing}
use Rattle.places.specs.Holder.{Holder, icon, same_holder}
use Rattle.table.specs.Table.{Table}
use Rattle.journal.specs.State.{State, present}
use Rattle.session.specs.Calls.{deliver, answer, next}
use Rattle.model.specs.Wellformed.{emptied_state}
use Rattle.side_by_side.specs.SideBySide.{WindowsCount, PlacesCount, Counts, Different, Claim}

-- ---- orders for a window below 256

abbrev pub new_window : ℕ → List ℕ
new_window k = 0x2E ∷ 0x0B ∷ 0x00 ∷ 0x00 ∷ 0x00 ∷ 0x00 ∷ 0x11 ∷ k ∷ 0x00 ∷ 0x00 ∷ 0x00 ∷ []

abbrev pub delete_window : ℕ → List ℕ
delete_window k = 0x2E ∷ 0x0B ∷ 0x00 ∷ 0x00 ∷ 0x00 ∷ 0x00 ∷ 0x21 ∷ k ∷ 0x00 ∷ 0x00 ∷ 0x00 ∷ []

-- a title of one letter
abbrev pub title_window : ℕ → ℕ → List ℕ
title_window k letter = 0x2E ∷ 0x0F ∷ 0x00 ∷ 0x04 ∷ 0x00 ∷ 0x00 ∷ 0x01 ∷ k ∷ 0x00 ∷ 0x00 ∷ 0x00 ∷ 0x02 ∷ 0x00 ∷ letter ∷ 0x00 ∷ []

-- ---- states

unfoldable pub delivered : State → List (List ℕ) → State
delivered s [] = s
delivered s (o ∷ os) = delivered (next (deliver o) s) os

abbrev pub crowd : List ℕ
crowd =
    (0 ∷ 1 ∷ 2 ∷ 3 ∷ 4 ∷ 5 ∷ 6 ∷ 7 ∷ 8 ∷ 9 ∷ 10 ∷ 11 ∷ 12 ∷ 13 ∷ 14 ∷ 15 ∷ [])
    ++ (16 ∷ 17 ∷ 18 ∷ 19 ∷ 20 ∷ 21 ∷ 22 ∷ 23 ∷ 24 ∷ 25 ∷ 26 ∷ 27 ∷ 28 ∷ 29 ∷ 30 ∷ [])

unfoldable pub new_windows : List ℕ → List (List ℕ)
new_windows [] = []
new_windows (k ∷ ks) = new_window k ∷ new_windows ks

-- an emptied state with 64 places
abbrev pub empty : State
empty = emptied_state 64

-- windows 0 to 30, new, delivered to it
abbrev pub crowded : State
crowded = delivered empty (new_windows crowd)

-- window 7 alone
abbrev pub single : State
single = delivered empty (new_window 7 ∷ [])

-- window 7 with 127 orders standing
abbrev pub brimming : State
brimming = delivered single (replicate 126 (title_window 7 0x41))

-- a table at the mark with another count of windows and another sharing: no memory and no book has such a one
abbrev pub remade : ℕ → Sharing Holder → Table → State
remade n sharing t =
    record {
      marked =
          record {
            index = record { listed = t.index.listed; many = λ f. n; sharing = sharing };
            fields = t.fields;
            shown = t.shown;
            desktop = t.desktop;
          };
      log = [];
    }

-- window 7 listed and a count of 0
abbrev pub uncounted : State
uncounted = remade 0 (present single).index.sharing (present single)

-- windows 7 and 8, whose small icons share a place: window 7 counts 1 at it, window 8 counts 2
abbrev pub small : ℕ → Holder
small k = icon family.Windows k 0 0

abbrev pub is_small : Holder → Bool
is_small h = either (same_holder h (small 7)) (same_holder h (small 8))

abbrev pub uneven_sharing : Sharing Holder
uneven_sharing =
    record {
      shares = λ g k. both (is_small g) (is_small k);
      users = λ h. pick (same_holder h (small 7)) 1 (pick (same_holder h (small 8)) 2 0);
      used = 2;
      places = 64;
    }

abbrev pub uneven : State
uneven = remade 2 uneven_sharing (present (delivered single (new_window 8 ∷ [])))

-- ---- the numbers

-- of a and b, a first; and of b and a, b first
pub record Numbers (s : State) (a b : List ℕ) (p q q' p' : ℕ) : Type 0 where
  pub a_first : (answer (deliver a) s).number ≡ p
  pub then_b : (answer (deliver b) (next (deliver a) s)).number ≡ q
  pub b_first : (answer (deliver b) s).number ≡ q'
  pub then_a : (answer (deliver a) (next (deliver b) s)).number ≡ p'

-- at 31 listed windows two new ones: whichever comes second gets 10
unfoldable pub AtThirtyOne : Type 0
AtThirtyOne = ((present crowded).index.many family.Windows ≡ 31) × Numbers crowded (new_window 31) (new_window 32) 0 10 0 10

-- with room for one order: whichever comes second gets 12
unfoldable pub RoomForOne : Type 0
RoomForOne = Numbers brimming (new_window 8) (new_window 9) 0 12 0 12

-- two orders for one window: deleted and then new again, or 9 and then deleted
unfoldable pub OneWindow : Type 0
OneWindow = Numbers single (delete_window 7) (new_window 7) 0 0 9 0

-- two titles for one window: both are accepted either way, and the one that comes last stands
unfoldable pub LastStands : Type 0
LastStands =
    Numbers single (title_window 7 0x41) (title_window 7 0x42) 0 0 0 0
    × (present (delivered single (title_window 7 0x41 ∷ title_window 7 0x42 ∷ [])) ≡ present (delivered single (title_window 7 0x42 ∷ title_window 7 0x41 ∷ []))
    → ⊥)

-- both are accepted either way, but a deletion takes nothing from 0: the count at the end is 1 or 0
unfoldable pub Uncounted : Type 0
Uncounted =
    Numbers uncounted (delete_window 7) (new_window 8) 0 0 0 0
    × ((present (delivered uncounted (delete_window 7 ∷ new_window 8 ∷ []))).index.many family.Windows ≡ 1)
    × ((present (delivered uncounted (new_window 8 ∷ delete_window 7 ∷ []))).index.many family.Windows ≡ 0)

-- both are accepted either way, but who goes first decides how many places are pointed at
unfoldable pub Uneven : Type 0
Uneven =
    Numbers uneven (delete_window 7) (delete_window 8) 0 0 0 0
    × ((present (delivered uneven (delete_window 7 ∷ delete_window 8 ∷ []))).index.sharing.used ≡ 0)
    × ((present (delivered uneven (delete_window 8 ∷ delete_window 7 ∷ []))).index.sharing.used ≡ 2)

-- ---- so the claim fails with 31 for 30, and for orders that name one window

unfoldable pub ThirtyNeeded : Type 0
ThirtyNeeded = Claim Counts 31 Different → ⊥

unfoldable pub DifferentNeeded : Type 0
DifferentNeeded = Claim Counts 30 (λ x y. x ≡ y) → ⊥

-- and with one half of `Counts` alone, on states that nothing describes
unfoldable pub WindowsCountNeeded : Type 0
WindowsCountNeeded = Claim PlacesCount 30 Different → ⊥

unfoldable pub PlacesCountNeeded : Type 0
PlacesCountNeeded = Claim WindowsCount 30 Different → ⊥
