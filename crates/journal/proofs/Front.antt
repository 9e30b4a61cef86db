-- Of an index the first 589 bytes describe the table: those behind them, where its figures stand, do not count. Assumes nothing.
use mathlib.Core.Path.{◌≡◌, sym, ap, ◌∙◌}
use mathlib.Core.Bool.{true}
use mathlib.Core.List.{List}
use Prim.Native.Nat.{ℕ, ◌≤◌}
use native.Mathlib.Omega.{arith}
use lib.ListN.{length, take, drop}
use lib.Seq.{drop-drop}
use Rattle.wire.proofs.Numbers.{Bytes}
use Rattle.places.specs.Memory.{places_of}
use Rattle.slots.specs.Families.{index_length}
use Rattle.figure.specs.Kept.{kept_length, figures_length, figures_ok, kept_of}
use Rattle.figure.proofs.KeptFigures.{kept_ok, kept_front, kept_past, kept_length_lem}
use Rattle.table.specs.Memory.{decode, sound_table}
use Rattle.table.specs.Outcome.{PastKept}
use Rattle.journal.proofs.Copies.{places_same, table_same, sound_table_same}

module _ (x y : List ℕ) (agree : take index_length x ≡ take index_length y) where
  pub same_front : (b : List ℕ) (p : List (List ℕ)) → decode x b p ≡ decode y b p
  same_front b p = sym (table_same x y agree b p)

  pub same_front_places : places_of x ≡ places_of y
  same_front_places = sym (places_same x y agree)

  pub same_front_sound : (b : List ℕ) (lent : ℕ) → index_length ≤ length y → sound_table x b lent ≡ true → sound_table y b lent ≡ true
  same_front_sound b lent long = sound_table_same x y agree long b lent

-- where nothing behind the first 589 bytes has changed, nothing behind the figures has
behind : (x : List ℕ) → drop figures_length (drop index_length x) ≡ drop kept_length x
behind = drop-drop figures_length index_length

pub past_kept : {x b x' b' : List ℕ} → PastKept x b x' b' → drop kept_length x' ≡ drop kept_length x
past_kept {x = x} {x' = x'} h = sym (behind x') ∙ ap (drop figures_length) h.index ∙ behind x

-- ---- a table's index with its figures written behind it

pub record FiguresKept (x b x' : List ℕ) : Type 0 where
  pub table : (p : List (List ℕ)) → decode x' b p ≡ decode x b p
  pub sound : (lent : ℕ) → sound_table x b lent ≡ true → sound_table x' b lent ≡ true
  pub figures : figures_ok x' b ≡ true
  pub places : places_of x' ≡ places_of x
  pub past : drop kept_length x' ≡ drop kept_length x
  pub long : length x' ≡ length x

pub figures_kept : (x b : List ℕ) → kept_length ≤ length x → Bytes b → {x' : List ℕ} → x' ≡ kept_of x b → FiguresKept x b x'
figures_kept x b long bytes e =
    let size = kept_length_lem x b long in
    let front = kept_front x b long in
    rw e
    (record {
      table = same_front (kept_of x b) x front b;
      sound = λ lent. same_front_sound x (kept_of x b) (sym front) b lent (omega (arith, size, long));
      figures = kept_ok x b long bytes;
      places = same_front_places (kept_of x b) x front;
      past = kept_past x b long;
      long = size;
    })
