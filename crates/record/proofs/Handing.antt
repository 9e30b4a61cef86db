-- Laws of the parts that a table of contents names, and of what a reader has left. Assumes nothing.
use mathlib.Core.Path.{◌≡◌, refl, sym, ap, ◌∙◌}
use mathlib.Core.Bool.{Bool, true, false}
use mathlib.Core.List.{List, [], ◌∷◌, map}
use Prim.Native.Nat.{ℕ, ◌+◌, ◌*◌, ◌-◌, ◌≤◌, ◌<◌}
use native.Mathlib.Numerals.{add-one}
use native.Mathlib.Omega.{arith}
use lib.Dec.{eqb, ltb}
use lib.ListN.{length, get_or, take, drop, get_or-map, get_or-eq_default, drop_of_length-le}
use lib.Seq.{drop-cons}
use borrow.Author.Tests.{lt-ltb, le-ltb, ltb-true, ltb-false, eqb-true, eqb-false}
use denote.Ref.{Bor}
use Rattle.std.specs.Prelude.{Some, None, Result, Ok, Err, is_err, MatchOption}
use Rattle.protocol.specs.declared.Refusal.{Refusal}
use Rattle.protocol.specs.declared.Refusal.TheVariants as refusal
use Rattle.protocol.specs.Refusals.{number_of, Answer, says, refused_by}
use Rattle.wire.specs.Tests.{pick}
use Rattle.wire.specs.Numbers.{num_at}
use Rattle.wire.specs.Parts.{slice}
use Rattle.journal.specs.Limits.{most_orders, most_bytes}
use Rattle.journal.specs.State.{bytes_in}
use Rattle.record.specs.declared.Entry.{Entry}
use Rattle.record.specs.declared.Contents.{Contents}
use Rattle.record.specs.Layout.{entry, head_of, most_record}
use Rattle.record.specs.Reading.{count_in, contents_of, past_end, cut_short, irregular, record_number, part_of, parts_of, bodies_of, inspected_of, place_of}
use Rattle.record.specs.Handing.{turn_of, left_of, Opens}
use Rattle.record.specs.RoundTrip.{PlacesBodies}
use Rattle.record.proofs.Entries.{entries_at, length_parts, part_within, within_at}
use Rattle.record.proofs.Granted.{granted_facts}
use Rattle.wire.proofs.Tests.{never}
use Rattle.record.proofs.RoundTrip.{granted_bodies, limits_parts, bytes_parts}

-- ---- the part at an index

part_zero : (r : List ℕ) → part_of r (entry 0 0) ≡ []
unfolding part_of slice
part_zero r = rw (le-ltb (length r) 0 (omega arith))

parts_at : (r : List ℕ) (i : ℕ) → i < count_in r → get_or (parts_of r) i [] ≡ part_of r (entry (num_at 4 r (2 + 8 * i)) (num_at 4 r (2 + 8 * i + 4)))
unfolding parts_of
parts_at r i h =
    ap (λ (d : List ℕ). get_or (map (part_of r) (contents_of r)) i d) (sym (part_zero r))
    ∙ get_or-map (part_of r) (contents_of r) i (entry 0 0) ∙ ap (part_of r) (entries_at (count_in r) i 2 r (entry 0 0) h)

module _ (r : List ℕ) (i c : ℕ) (e : c ≡ count_in r) where
  pub part_none : c ≤ i → [] ≡ get_or (parts_of r) i []
  part_none h = sym (get_or-eq_default (parts_of r) [] (omega (arith, length_parts r)))

  module _ (o s : ℕ) (h : i < c) (eo : o ≡ num_at 4 r (2 + 8 * i)) (es : s ≡ num_at 4 r (2 + 8 * i + 4)) where
    at_entry : get_or (parts_of r) i [] ≡ part_of r (entry o s)
    at_entry = rw (eo, es) (parts_at r i (omega arith))

    pub part_cut : length r < o + s → [] ≡ get_or (parts_of r) i []
    unfolding part_of
    part_cut w = sym (at_entry ∙ rw (lt-ltb (length r) (o + s) w))

    pub part_in : o + s ≤ length r → take (o + s - o) (drop o r) ≡ get_or (parts_of r) i []
    unfolding slice
    part_in w =
        let n : o + s - o ≡ s = omega arith in
        rw n (sym (at_entry ∙ part_within r (entry o s) w))

-- the entry at an index names the part there, where all lie within
parts_place : (r : List ℕ) (i : ℕ) → past_end (length r) (contents_of r) ≡ false
    → slice r (get_or (contents_of r) i (entry 0 0)).offset (get_or (contents_of r) i (entry 0 0)).size ≡ get_or (parts_of r) i []
unfolding parts_of
parts_place r i w =
    sym
    (ap (λ (d : List ℕ). get_or (map (part_of r) (contents_of r)) i d) (sym (part_zero r))
    ∙ get_or-map (part_of r) (contents_of r) i (entry 0 0)
    ∙ part_within r (get_or (contents_of r) i (entry 0 0)) (within_at (length r) (contents_of r) i w))

-- ---- refused and granted

-- no refusal has the number 0
pub refusal_counts : (e : Refusal) → eqb (number_of e) 0 ≡ false
refusal_counts refusal.UnfitMemory = refl
refusal_counts refusal.TooShort = refl
refusal_counts refusal.LengthDiffers = refl
refusal_counts refusal.UnknownType = refl
refusal_counts refusal.UnknownFlag = refl
refusal_counts refusal.FlagsClash = refl
refusal_counts refusal.NotFilled = refl
refusal_counts refusal.OutsideSet = refl
refusal_counts refusal.WrongId = refl
refusal_counts refusal.TableFull = refl
refusal_counts refusal.NoCell = refl
refusal_counts refusal.HistoryFull = refl
refusal_counts refusal.TooManySteps = refl
refusal_counts refusal.OutputTooSmall = refl
refusal_counts refusal.ChunkTooShort = refl
refusal_counts refusal.BadChunk = refl
refusal_counts refusal.NoPlace = refl
refusal_counts refusal.RecordCut = refl
refusal_counts refusal.RecordDiffers = refl
refusal_counts refusal.WrongEnd = refl
refusal_counts refusal.NotPermitted = refl

refused : {A : Type 0} (x : Result A Refusal) → is_err x ≡ true → eqb (refused_by x) 0 ≡ false
refused (Ok v) h = never h
refused (Err e) h = refusal_counts e

granted : {A : Type 0} (x : Result A Refusal) → is_err x ≡ false → refused_by x ≡ 0
granted (Ok v) h = refl
granted (Err e) h = never (sym h)

-- the bodies of a record: none where it is refused
none_of : (r : List ℕ) → eqb (record_number r) 0 ≡ false → bodies_of r ≡ []
unfolding bodies_of
none_of r e = rw e

module _ (r : List ℕ) (i : ℕ) {A : Type 0} (x : Result A Refusal) (e : refused_by x ≡ record_number r) where
  pub refused_body : is_err x ≡ true → [] ≡ get_or (bodies_of r) i []
  refused_body h = rw (none_of r (ap (λ (n : ℕ). eqb n 0) (sym e) ∙ refused x h))

  pub granted_body : (b : List ℕ) → is_err x ≡ false → b ≡ get_or (parts_of r) i [] → b ≡ get_or (bodies_of r) i []
  granted_body b h eb = rw (granted_bodies r (sym e ∙ granted x h)) eb

-- ---- a record inspected, and where a body lies

granted_length : (r : List ℕ) → record_number r ≡ 0 → length (bodies_of r) ≡ count_in r
granted_length r e = rw (granted_bodies r e) (length_parts r)

granted_bytes : (r : List ℕ) → record_number r ≡ 0 → bytes_in (bodies_of r) ≡ length r - head_of (count_in r)
unfolding parts_of
granted_bytes r e =
    let g = granted_facts r e in
    rw (granted_bodies r e) (bytes_parts r (contents_of r) g.within ∙ omega (arith, g.whole))

pub head_fits : (r : List ℕ) {c : ℕ} → 0 ≡ record_number r → c ≡ count_in r → head_of c ≤ length r
head_fits r e is = let g = granted_facts r (sym e) in omega (arith, g.head, is)

pub inspect_refused : (r : List ℕ) (e : Refusal) → number_of e ≡ record_number r → says (Err e) ≡ inspected_of r
unfolding inspected_of
inspect_refused r e h = rw (← h, refusal_counts e)

pub inspect_granted : (r : List ℕ) {c : ℕ} → 0 ≡ record_number r → c ≡ count_in r → says (Ok (record { count = c; bytes = length r - head_of c })) ≡ inspected_of r
unfolding inspected_of
inspect_granted r e is = let g = sym e in rw (granted_length r g, granted_bytes r g, g, is)

-- what is told of a granted record
module _ (r : List ℕ) (c : Contents) (is : says (Ok c) ≡ inspected_of r) where
  pub told_granted : record_number r ≡ 0
  unfolding inspected_of
  told_granted = sym (ap (λ (a : Answer Contents). a.number) is)

  -- its count and its bytes
  pub told : c ≡ record { count = length (bodies_of r); bytes = bytes_in (bodies_of r) }
  unfolding inspected_of
  told = ap (λ (a : Answer Contents). get_or a.values 0 c) is ∙ rw told_granted

  pub count_is : c.count ≡ length (bodies_of r)
  count_is = ap (λ (x : Contents). x.count) told

  -- it is within its limits
  pub told_small : (c.count ≤ most_orders) × (c.bytes ≤ most_bytes)
  told_small = let l = limits_parts r (granted_facts r told_granted) in rw (told, granted_bodies r told_granted) (l.few, l.small)

  module _ (i : ℕ) where
    pub place_past : c.count ≤ i → None ≡ place_of r i
    unfolding place_of
    place_past h = rw (le-ltb i (length (bodies_of r)) (omega (arith, count_is)))

    module _ (h : i < c.count) where
      counted : i < count_in r
      counted = omega (arith, count_is, granted_length r told_granted)

      -- its entry lies within
      pub entry_fits : 2 + 8 * i + 8 ≤ length r
      entry_fits = let g = granted_facts r told_granted in omega (arith, g.head, counted)

      pub place_at_lem : {o s : ℕ} → o ≡ num_at 4 r (2 + 8 * i) → s ≡ num_at 4 r (2 + 8 * i + 4) → Some (entry o s) ≡ place_of r i
      unfolding place_of
      place_at_lem eo es = rw (lt-ltb i (length (bodies_of r)) (omega (arith, count_is, h)), eo, es) (ap Some (sym (entries_at (count_in r) i 2 r (entry 0 0) counted)))

-- and of a refused one
pub told_refused : (r : List ℕ) (e : Refusal) → says (Err e) ≡ inspected_of r → number_of e ≡ record_number r
unfolding inspected_of
told_refused r e is = ap (λ (a : Answer Contents). a.number) is

pub told_nonzero : (r : List ℕ) (e : Refusal) → says (Err e) ≡ inspected_of r → record_number r ≡ 0 → ⊥
told_nonzero r e is z = eqb-false (number_of e) 0 (refusal_counts e) (told_refused r e is ∙ z)

pub no_bodies : (r : List ℕ) (e : Refusal) → says (Err e) ≡ inspected_of r → bodies_of r ≡ []
no_bodies r e is = none_of r (ap (λ (n : ℕ). eqb n 0) (sym (told_refused r e is)) ∙ refusal_counts e)

pub place_refused : (r : List ℕ) (i : ℕ) (e : Refusal) → says (Err e) ≡ inspected_of r → None ≡ place_of r i
unfolding place_of
place_refused r i e is = rw (no_bodies r e is, le-ltb i 0 (omega arith))

-- a record with a body is granted
has_body : (r : List ℕ) (i : ℕ) → i < length (bodies_of r) → record_number r ≡ 0
has_body r i h = go (eqb (record_number r) 0) refl
  where
    go : (t : Bool) → eqb (record_number r) 0 ≡ t → record_number r ≡ 0
    go true e = eqb-true (record_number r) 0 e
    go false e = absurd (omega (arith, h, ap length (none_of r e)))

-- the part that lies there is the body
pub place_body : PlacesBodies
unfolding PlacesBodies place_of
place_body r i = go (ltb i (length (bodies_of r))) refl
  where
    go : (t : Bool) → ltb i (length (bodies_of r)) ≡ t
        → MatchOption (pick t (Some (get_or (contents_of r) i (entry 0 0))) None) (length (bodies_of r) ≤ i) (λ e. slice r e.offset e.size ≡ get_or (bodies_of r) i [])
    go true e =
        let z = has_body r i (ltb-true i (length (bodies_of r)) e) in
        rw (granted_bodies r z) (parts_place r i (granted_facts r z).within)
    go false e = ltb-false i (length (bodies_of r)) e

-- ---- what is told of a record is small

pub number_small : (r : List ℕ) → record_number r ≤ 19
unfolding record_number
number_small r = pick_small (cut_short r) (irregular r)
  where
    pick_small : (a b : Bool) → pick a 18 (pick b 19 0) ≤ 19
    pick_small true b = omega arith
    pick_small false true = omega arith
    pick_small false false = omega arith

-- a granted record is within its limits
most_length : (r : List ℕ) → record_number r ≡ 0 → length r ≤ most_record
most_length r e = let g = granted_facts r e in omega (arith, g.few, g.small, g.whole)

pub place_fits : (r : List ℕ) (i : ℕ) {e : Entry} → Some e ≡ place_of r i → e.offset + e.size ≤ most_record
unfolding place_of
place_fits r i {e} is = go (ltb i (length (bodies_of r))) refl is
  where
    go : (t : Bool) → ltb i (length (bodies_of r)) ≡ t → Some e ≡ pick t (Some (get_or (contents_of r) i (entry 0 0))) None → e.offset + e.size ≤ most_record
    go true l k =
        let z = has_body r i (ltb-true i (length (bodies_of r)) l) in
        let same : e ≡ get_or (contents_of r) i (entry 0 0) = cc in
        rw same (omega (arith, within_at (length r) (contents_of r) i (granted_facts r z).within, most_length r z))
    go false l k = cc

-- ---- what a reader has left

pub turn_found : (r : List ℕ) (i c : ℕ) → c ≡ count_in r → i < c → Some (i + 1) ≡ turn_of r i
turn_found r i c e h = rw (← e, lt-ltb i c h)

pub turn_none : (r : List ℕ) (i c : ℕ) → c ≡ count_in r → c ≤ i → None ≡ turn_of r i
turn_none r i c e h = rw (← e, le-ltb i c h)

pub opened : (s : Bor (List ℕ)) → 0 ≡ record_number s.now → Opens s (Ok (record { «record» = s; next = 0 }))
unfolding left_of
opened s e = record { number = e; lent = refl; left = sym (granted_bodies s.now (sym e)) }

-- a reader of any record has its bodies left
module _ (s : Bor (List ℕ)) {A : Type 0} (x : Result A Refusal) (e : refused_by x ≡ record_number s.now) where
  pub over_refused : is_err x ≡ true → (c : ℕ) → c ≡ count_in s.now → left_of (record { «record» = s; next = c }) ≡ bodies_of s.now
  unfolding left_of
  over_refused h c is =
      rw (none_of s.now (ap (λ (n : ℕ). eqb n 0) (sym e) ∙ refused x h))
      (drop_of_length-le (parts_of s.now) {i = c} (omega (arith, length_parts s.now, is)))

  pub over_granted : is_err x ≡ false → left_of (record { «record» = s; next = 0 }) ≡ bodies_of s.now
  unfolding left_of
  over_granted h = sym (granted_bodies s.now (sym e ∙ granted x h))

module _ (r : List ℕ) (i : ℕ) where
  pub left_none : None ≡ turn_of r i → drop i (parts_of r) ≡ []
  left_none e = go (ltb i (count_in r)) refl e
    where
      go : (t : Bool) → ltb i (count_in r) ≡ t → None ≡ pick t (Some (i + 1)) None → drop i (parts_of r) ≡ []
      go true h k = cc
      go false h k = drop_of_length-le (parts_of r) {i = i} (omega (arith, length_parts r, ltb-false i (count_in r) h))

  pub left_some : (n : ℕ) (b : List ℕ) → Some n ≡ turn_of r i → b ≡ get_or (parts_of r) i [] → drop i (parts_of r) ≡ b ∷ drop n (parts_of r)
  left_some n b e eb = go (ltb i (count_in r)) refl e
    where
      go : (t : Bool) → ltb i (count_in r) ≡ t → Some n ≡ pick t (Some (i + 1)) None → drop i (parts_of r) ≡ b ∷ drop n (parts_of r)
      go true h k =
          let next : n ≡ i + 1 = cc in
          rw (next, eb, add-one) (drop-cons (parts_of r) i [] (omega (arith, length_parts r, ltb-true i (count_in r) h)))
      go false h k = cc

-- ---- the bytes that are left

pub bytes_first : (o : List ℕ) (os : List (List ℕ)) → bytes_in (o ∷ os) ≡ length o + bytes_in os
unfolding bytes_in
bytes_first o os = refl

pub bytes_past : bytes_in [] ≡ 0
unfolding bytes_in
bytes_past = refl

pub refused_bytes : (r : List ℕ) (e : Refusal) → number_of e ≡ record_number r → 0 ≡ bytes_in (bodies_of r)
refused_bytes r e h = rw (none_of r (ap (λ (n : ℕ). eqb n 0) (sym h) ∙ refusal_counts e)) (sym bytes_past)

bytes_none : (r : List ℕ) → eqb (record_number r) 0 ≡ false → bytes_in (bodies_of r) ≤ most_bytes
unfolding bodies_of bytes_in
bytes_none r e = rw e (omega arith)

-- the bodies of any record are within the limits
pub bytes_bodies : (r : List ℕ) → bytes_in (bodies_of r) ≤ most_bytes
bytes_bodies r = go (eqb (record_number r) 0) refl
  where
    go : (t : Bool) → eqb (record_number r) 0 ≡ t → bytes_in (bodies_of r) ≤ most_bytes
    go true e = let z = eqb-true (record_number r) 0 e in rw (granted_bodies r z) (limits_parts r (granted_facts r z)).small
    go false e = bytes_none r e
