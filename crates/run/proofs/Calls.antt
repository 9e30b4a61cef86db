-- A script's calls by their kind, and the block of each. Assumes nothing.
use Prim.Native.Nat.{ℕ, zero, suc, ◌+◌, ◌*◌, ◌-◌, ◌≤◌, ◌<◌}
use mathlib.Core.Path.{◌≡◌, refl, sym, ap, ◌∙◌, subst}
use mathlib.Core.Bool.{Bool, true, false}
use mathlib.Core.List.{List, [], ◌++◌, append-nil}
use native.Mathlib.Nat.{zero-add}
use native.Mathlib.Omega.{arith}
use lib.Dec.{eqb, ltb}
use lib.ListN.{length, take, drop, replicate, length-append, length-drop, length-replicate, drop_of_length-le}
use lib.Seq.{length-take-le, take_all, drop_at}
use borrow.Author.Tests.{eqb-true, eqb-false, ltb-true, ltb-false, ne_eqb, lt-ltb, le-ltb}
use Rattle.wire.specs.Tests.{pick, either}
use Rattle.wire.specs.Parts.{splice}
use Rattle.wire.specs.Numbers.{num_at, bytes_of}
use Rattle.wire.proofs.Parts.{splice_start, splice_after}
use Rattle.wire.proofs.Numbers.{length_bytes}
use Rattle.layout.specs.Layouts.{notification_size, desktop_size, picture_size}
use Rattle.figure.specs.Figure.{figure_length}
use Rattle.ids.specs.Ids.{list_size}
use Rattle.journal.specs.View.{Memory}
use Rattle.record.specs.Layout.{most_record}
use Rattle.session.specs.declared.Reply.{Reply}
use Rattle.session.specs.declared.PictureHolder.{PictureHolder}
use Rattle.session.specs.declared.LookupTarget.{LookupTarget}
use Rattle.session.specs.declared.LookupTarget.TheVariants.{Window, Notification, Cell, Desktop, Windows, Notifications, Shares}
use Rattle.session.specs.Calls.{Call, reset, deliver, checkpoint, undo, look, write_record}
use Rattle.session.specs.Holders.{holder_from}
use Rattle.session.specs.Outcome.{pixels_start, pixels_size, Response, plain, replied, handed, needed_for, CallOutcome}
use Rattle.session.specs.Packed.{packed_of}
use Rattle.update.specs.declared.Report.{Report}
use Rattle.update.specs.Outcome.{UpdateOutcome}
use Rattle.update.specs.Packed.{standing_half, granted_half}
use Rattle.model.specs.Updates.{Step, update, responds, reports}
use Rattle.model.specs.Claim.{none, more, more_at_once}
use Rattle.run.specs.Script.{holder_at, holder_size, target_of, change_of, record_kind, call_of, one_call, limit_size, step_of, block_length}
use Rattle.run.specs.Steps.{Takes, TakesOne, Done, Journaled, Handed}
use Rattle.wire.proofs.Tests.{neither}

-- ---- numbers of 8 bytes

pub num8_is : (s : List ℕ) → num_at 4 s 0 + 4294967296 * num_at 4 s 4 ≡ num_at 8 s 0
unfolding num_at
num8_is s = omega arith

-- ---- calls by their kind

pub is_holder : (arg : List ℕ) (at : ℕ) {kind a b : ℕ} {r : PictureHolder} → kind ≡ num_at 1 arg at → a ≡ num_at 4 arg (at + 1) → b ≡ num_at 4 arg (at + 5)
    → r ≡ holder_from kind a b
    → r ≡ holder_at arg at
unfolding holder_at
is_holder arg at k a b e = e ∙ rw (k, a, b)

module _ (kind : ℕ) (arg : List ℕ) where
  pub is_window_lem : kind ≡ 4 → (x : ℕ) → x ≡ num_at 4 arg 0 → Window (record { id = x }) ≡ target_of kind arg
  unfolding target_of
  is_window_lem e x w = rw (e, w)

  pub is_notification_lem : kind ≡ 5 → (x y : ℕ) → x ≡ num_at 4 arg 0 → y ≡ num_at 4 arg 4 → Notification (record { id = x }) (record { id = y }) ≡ target_of kind arg
  unfolding target_of
  is_notification_lem e x y v w = rw (e, v, w)

  pub is_cell_lem : kind ≡ 6 → (x y : ℕ) → x ≡ num_at 1 arg 0 → y ≡ num_at 2 arg 1 → Cell x y ≡ target_of kind arg
  unfolding target_of
  is_cell_lem e x y v w = rw (e, v, w)

  pub is_windows : kind ≡ 10 → Windows ≡ target_of kind arg
  unfolding target_of
  is_windows e = rw e

  pub is_notifications : kind ≡ 11 → Notifications ≡ target_of kind arg
  unfolding target_of
  is_notifications e = rw e

  pub is_shares : kind ≡ 12 → {g k : PictureHolder} → g ≡ holder_at arg 0 → k ≡ holder_at arg holder_size → Shares g k ≡ target_of kind arg
  unfolding target_of
  is_shares e {g} {k} v w = ap (λ (x : PictureHolder). Shares x k) v ∙ ap (Shares (holder_at arg 0)) w ∙ rw e

  pub is_desktop_lem : (kind ≡ 4 → ⊥) → (kind ≡ 5 → ⊥) → (kind ≡ 6 → ⊥) → (kind ≡ 10 → ⊥) → (kind ≡ 11 → ⊥) → (kind ≡ 12 → ⊥) → Desktop ≡ target_of kind arg
  unfolding target_of
  is_desktop_lem a b c d e f = rw (ne_eqb kind 4 a, ne_eqb kind 5 b, ne_eqb kind 6 c, ne_eqb kind 10 d, ne_eqb kind 11 e, ne_eqb kind 12 f)

module _ (lent kind : ℕ) (arg : List ℕ) where
  pub is_reset_lem : kind ≡ 0 → change_of lent kind arg ≡ reset lent
  unfolding change_of
  is_reset_lem e = rw e

  pub is_deliver : kind ≡ 1 → change_of lent kind arg ≡ deliver arg
  unfolding change_of
  is_deliver e = rw e

  pub is_checkpoint : kind ≡ 2 → change_of lent kind arg ≡ checkpoint
  unfolding change_of
  is_checkpoint e = rw e

  pub is_undo : (kind ≡ 0 → ⊥) → (kind ≡ 1 → ⊥) → (kind ≡ 2 → ⊥) → (k : ℕ) → k ≡ num_at 8 arg 0 → change_of lent kind arg ≡ undo k
  unfolding change_of
  is_undo a b c k w = rw (ne_eqb kind 0 a, ne_eqb kind 1 b, ne_eqb kind 2 c, w)

  pub is_change : kind < 4 → call_of lent kind arg ≡ change_of lent kind arg
  unfolding call_of
  is_change l = rw (lt-ltb kind 4 l)

  pub is_record : kind ≡ record_kind → call_of lent kind arg ≡ write_record
  unfolding call_of
  is_record e = rw e

  pub is_look : 4 ≤ kind → (kind ≡ record_kind → ⊥) → call_of lent kind arg ≡ look (target_of kind arg)
  unfolding call_of
  is_look l n = rw (le-ltb kind 4 l, ne_eqb kind record_kind n)

  -- a call that changes the state hands nothing out
  pub hands_nothing : needed_for (change_of lent kind arg) ≡ 0
  unfolding change_of
  hands_nothing = go (eqb kind 0) (eqb kind 1) (eqb kind 2)
    where
      go : (a b c : Bool) → needed_for (pick a (reset lent) (pick b (deliver arg) (pick c checkpoint (undo (num_at 8 arg 0))))) ≡ 0
      go true b c = refl
      go false true c = refl
      go false false true = refl
      go false false false = refl

pub outcome_as : {c c' : Call} {m e : Memory} {r : Response} → c' ≡ c → CallOutcome (plain c) m r e → CallOutcome (plain c') m r e
outcome_as {m = m} {e = e} {r = r} p o = subst (λ (x : Call). CallOutcome (plain x) m r e) (sym p) o

pub done_as : {x x' : Step} {m e : Memory} {out' : List ℕ} → x' ≡ x → Done x m e out' → Done x' m e out'
done_as {m = m} {e = e} {out' = out'} p d = subst (λ (x : Step). Done x m e out') (sym p) d

-- ---- a whole update apart from the single calls

module _ (lent kind : ℕ) (arg : List ℕ) where
  pub is_update : kind ≡ 8 → step_of lent kind arg ≡ update (num_at 4 arg 0) (drop limit_size arg)
  unfolding step_of
  is_update e = rw e

  pub is_single : (kind ≡ 8 → ⊥) → step_of lent kind arg ≡ one_call (call_of lent kind arg)
  unfolding step_of
  is_single h = rw (ne_eqb kind 8 h)

  pub steps_reset : kind ≡ 0 → step_of lent kind arg ≡ one_call (reset lent)
  steps_reset e = is_single (λ x. omega (arith, e, x)) ∙ ap one_call (is_change lent kind arg (omega (arith, e)) ∙ is_reset_lem lent kind arg e)

  pub steps_checkpoint : kind ≡ 2 → step_of lent kind arg ≡ one_call checkpoint
  steps_checkpoint e = is_single (λ x. omega (arith, e, x)) ∙ ap one_call (is_change lent kind arg (omega (arith, e)) ∙ is_checkpoint lent kind arg e)

  pub steps_change : Journaled kind → (kind ≡ 8 → ⊥) → step_of lent kind arg ≡ one_call (change_of lent kind arg)
  steps_change j n = is_single n ∙ ap one_call (is_change lent kind arg (j.early n))

  pub change_length : Journaled kind → (kind ≡ 8 → ⊥) → block_length (step_of lent kind arg) ≡ 4
  change_length j n = ap block_length (steps_change j n) ∙ ap (λ (k : ℕ). 4 + k) (hands_nothing lent kind arg)

  pub steps_record : Handed kind → kind ≡ record_kind → step_of lent kind arg ≡ one_call write_record
  steps_record h e = is_single h.no_update ∙ ap one_call (is_record lent kind arg e)

  pub steps_look : Handed kind → (kind ≡ record_kind → ⊥) → {target : LookupTarget} → target ≡ target_of kind arg → step_of lent kind arg ≡ one_call (look target)
  steps_look h n e = is_single h.no_update ∙ ap one_call (is_look lent kind arg h.late n ∙ ap look (sym e))

-- which kinds the test of journal_call tells apart
module _ (kind : ℕ) where
  pub journaled : (kind ≡ 0 → ⊥) → (kind ≡ 2 → ⊥) → either (ltb kind 4) (eqb kind 8) ≡ true → Journaled kind
  journaled a b e = record { no_reset = a; no_checkpoint = b; early = λ n. go n (ltb kind 4) refl e }
    where
      go : (kind ≡ 8 → ⊥) → (x : Bool) → ltb kind 4 ≡ x → either x (eqb kind 8) ≡ true → kind < 4
      go n true l e = ltb-true kind 4 l
      go n false l e = absurd (n (eqb-true kind 8 e))

  pub hands : either (ltb kind 4) (eqb kind 8) ≡ false → Handed kind
  hands e =
      let x = neither (ltb kind 4) (eqb kind 8) e in
      record { late = ltb-false kind 4 x.0; no_update = eqb-false kind 8 x.1 }

-- ---- the bytes of a block go by the kind

abbrev one_length : Call → ℕ
one_length c = 4 + needed_for c

module _ (kind : ℕ) where
  pub length_update : kind ≡ 8 → Takes kind 8
  length_update e = record { takes = λ lent arg. ap block_length (sym (is_update lent kind arg e)) }

  pub length_single : {n : ℕ} → (kind ≡ 8 → ⊥) → TakesOne kind n → Takes kind n
  length_single h t = record { takes = λ lent arg. t.takes lent arg ∙ ap block_length (sym (is_single lent kind arg h)) }

  pub length_change : kind < 4 → TakesOne kind 4
  length_change l =
      record { takes = λ lent arg. ap (λ (n : ℕ). 4 + n) (sym (hands_nothing lent kind arg)) ∙ ap one_length (sym (is_change lent kind arg l)) }

  length_look : {n : ℕ} → 4 ≤ kind → (kind ≡ record_kind → ⊥) → ((arg : List ℕ) → n ≡ one_length (look (target_of kind arg))) → TakesOne kind n
  length_look l r f = record { takes = λ lent arg. f arg ∙ ap one_length (sym (is_look lent kind arg l r)) }

  pub length_record : kind ≡ record_kind → TakesOne kind (4 + most_record)
  length_record e = record { takes = λ lent arg. ap one_length (sym (is_record lent kind arg e)) }

  pub length_window : kind ≡ 4 → TakesOne kind (4 + (pixels_start + pixels_size))
  unfolding target_of
  length_window e = length_look (omega (arith, e)) (λ x. omega (arith, e, x)) (λ arg. rw e)

  pub length_notification : kind ≡ 5 → TakesOne kind (4 + notification_size + picture_size)
  unfolding target_of
  length_notification e = length_look (omega (arith, e)) (λ x. omega (arith, e, x)) (λ arg. rw e)

  pub length_cell : kind ≡ 6 → TakesOne kind (4 + picture_size)
  unfolding target_of
  length_cell e = length_look (omega (arith, e)) (λ x. omega (arith, e, x)) (λ arg. rw e)

  pub length_windows : kind ≡ 10 → TakesOne kind (4 + list_size)
  unfolding target_of
  length_windows e = length_look (omega (arith, e)) (λ x. omega (arith, e, x)) (λ arg. rw e)

  pub length_notifications : kind ≡ 11 → TakesOne kind (4 + list_size)
  unfolding target_of
  length_notifications e = length_look (omega (arith, e)) (λ x. omega (arith, e, x)) (λ arg. rw e)

  pub length_shares : kind ≡ 12 → TakesOne kind 5
  unfolding target_of
  length_shares e = length_look (omega (arith, e)) (λ x. omega (arith, e, x)) (λ arg. rw e)

  pub length_desktop : 4 ≤ kind → (kind ≡ 4 → ⊥) → (kind ≡ 5 → ⊥) → (kind ≡ 6 → ⊥) → (kind ≡ record_kind → ⊥) → (kind ≡ 10 → ⊥) → (kind ≡ 11 → ⊥) → (kind ≡ 12 → ⊥)
      → TakesOne kind (4 + (desktop_size + figure_length))
  unfolding target_of
  length_desktop l a b c r d e f =
      length_look l r (λ arg. rw (ne_eqb kind 4 a, ne_eqb kind 5 b, ne_eqb kind 6 c, ne_eqb kind 10 d, ne_eqb kind 11 e, ne_eqb kind 12 f))

-- ---- the block of a call that hands nothing out

pub reply_block : (c : Call) {m e : Memory} {r : Reply} (out : List ℕ) {out' : List ℕ} → needed_for c ≡ 0 → CallOutcome (plain c) m (replied r) e → length out ≡ 4
    → out' ≡ splice out 0 (bytes_of 4 (packed_of r))
    → Done (one_call c) m e out'
reply_block c {m} {e} {r} out z o l w =
    let head : List ℕ = bytes_of 4 (packed_of r) in
    let h : length head ≡ 4 = length_bytes 4 (packed_of r) in
    let n : length out ≤ length head = omega (arith, l, h) in
    record {
      said = responds (replied r);
      outcome = more (subst (λ (k : ℕ). CallOutcome (record { call = c; out = replicate k 0 }) m (replied r) e) (sym z) o) none;
      block = w ∙ splice_start out head ∙ ap (λ (x : List ℕ). head ++ x) (drop_of_length-le out n);
    }

-- ---- calls that hand something out

zeros_after : (k n : ℕ) → drop k (replicate {A = ℕ} (k + n) 0) ≡ replicate n 0
zeros_after zero n = rw (zero-add n)
zeros_after (suc k) n = let e : suc k + n ≡ suc (k + n) = omega arith in rw e (zeros_after k n)

-- the part of cleared output that the call is lent
module _ (out clear : List ℕ) (n : ℕ) (l : length out ≡ 4 + n) (cl : clear ≡ splice out 0 (replicate (length out) 0)) where
  cleared : clear ≡ replicate (4 + n) 0
  cleared =
      let z : List ℕ = replicate (4 + n) 0 in
      let h : length out ≤ length z = omega (arith, l, length-replicate {A = ℕ} (4 + n) 0) in
      cl ∙ ap (λ (k : ℕ). splice out 0 (replicate k 0)) l ∙ splice_start out z
      ∙ ap (λ (x : List ℕ). z ++ x) (drop_of_length-le out h) ∙ append-nil z

  after_four : drop 4 clear ≡ replicate n 0
  after_four = ap (drop 4) cleared ∙ zeros_after 4 n

  short_of_lem : length (drop 4 clear) ≤ length out - 4
  short_of_lem = omega (arith, l, ap length after_four, length-replicate {A = ℕ} n 0)

  lent_zeros : take (length out - 4) (drop 4 clear) ≡ replicate n 0
  lent_zeros = take_all (length out - 4) (drop 4 clear) short_of_lem ∙ after_four

  nothing_after : drop (length out - 4) (drop 4 clear) ≡ []
  nothing_after = drop_of_length-le (drop 4 clear) short_of_lem

  -- the part comes back, and the head is put before it
  headed : (part head out' : List ℕ) → length head ≡ 4 → out' ≡ splice (take 4 clear ++ (part ++ drop (length out - 4) (drop 4 clear))) 0 head → out' ≡ head ++ part
  headed part head out' h w =
      let four : length (take 4 clear) ≡ 4 = length-take-le 4 clear (omega (arith, ap length cleared, length-replicate {A = ℕ} (4 + n) 0)) in
      let x : List ℕ = take 4 clear ++ (part ++ drop (length out - 4) (drop 4 clear)) in
      let d : drop (length head) x ≡ part =
      drop_at (take 4 clear) (part ++ drop (length out - 4) (drop 4 clear)) (length head) (four ∙ sym h)
      ∙ ap (λ (y : List ℕ). part ++ y) nothing_after ∙ append-nil part in
      w ∙ splice_start x head ∙ ap (λ (y : List ℕ). head ++ y) d

pub handed_block : (c : Call) {m : Memory} {r : Reply} (out clear part : List ℕ) {out' : List ℕ} → length out ≡ block_length (one_call c)
    → clear ≡ splice out 0 (replicate (length out) 0)
    → CallOutcome (record { call = c; out = take (length out - 4) (drop 4 clear) }) m (handed r part) m
    → out' ≡ splice (take 4 clear ++ (part ++ drop (length out - 4) (drop 4 clear))) 0 (bytes_of 4 (packed_of r))
    → Done (one_call c) m m out'
handed_block c {m} {r} out clear part {out'} l cl o w =
    let n : ℕ = needed_for c in
    record {
      said = responds (handed r part);
      outcome = more (subst (λ (x : List ℕ). CallOutcome (record { call = c; out = x }) m (handed r part) m) (lent_zeros out clear n l cl) o) none;
      block = headed out clear n l cl part (bytes_of 4 (packed_of r)) out' (length_bytes 4 (packed_of r)) w;
    }

-- ---- a whole update

-- the bytes after the limit
pub after_short : (arg : List ℕ) → length arg < limit_size → (length arg ≤ length arg) × (drop (length arg) arg ≡ drop limit_size arg)
after_short arg h =
    let own : length arg ≤ length arg = omega arith in
    let few : length arg ≤ limit_size = omega arith in
    (own, drop_of_length-le arg own ∙ sym (drop_of_length-le arg few))

rest_is : (arg : List ℕ) (start : ℕ) → drop start arg ≡ drop limit_size arg → take (length arg - start) (drop start arg) ≡ drop limit_size arg
rest_is arg start e = take_all (length arg - start) (drop start arg) (omega (arith, length-drop start arg)) ∙ e

pub report_bytes : (r : Report) {low high : ℕ} (out : List ℕ) {out' : List ℕ} → length out ≡ 8 → low ≡ standing_half r → high ≡ granted_half r
    → out' ≡ splice (splice out 0 (bytes_of 4 low)) 4 (bytes_of 4 high)
    → out' ≡ bytes_of 4 (standing_half r) ++ bytes_of 4 (granted_half r)
report_bytes r {low} {high} out l a b w =
    let x : length (bytes_of 4 low) ≡ 4 = length_bytes 4 low in
    let y : length (bytes_of 4 high) ≡ 4 = length_bytes 4 high in
    let both : List ℕ = bytes_of 4 low ++ bytes_of 4 high in
    let wide : length out ≤ length both = omega (arith, l, x, y, length-append (bytes_of 4 low) (bytes_of 4 high)) in
    w ∙ splice_after out 0 (bytes_of 4 low) (bytes_of 4 high) 4 (omega (arith, x)) (omega (arith, l, x, y))
    ∙ splice_start out both ∙ ap (λ (z : List ℕ). both ++ z) (drop_of_length-le out wide) ∙ append-nil both
    ∙ ap (λ (k : ℕ). bytes_of 4 k ++ bytes_of 4 high) a ∙ ap (λ (k : ℕ). bytes_of 4 (standing_half r) ++ bytes_of 4 k) b

pub update_block : {m e : Memory} {r : Report} {limit : ℕ} (arg : List ℕ) (start : ℕ) {out' : List ℕ} → limit ≡ num_at 4 arg 0 → drop start arg ≡ drop limit_size arg
    → UpdateOutcome limit (take (length arg - start) (drop start arg)) m r e
    → out' ≡ bytes_of 4 (standing_half r) ++ bytes_of 4 (granted_half r)
    → Done (update (num_at 4 arg 0) (drop limit_size arg)) m e out'
update_block {m} {e} {r} arg start n d o w =
    record {
      said = reports r;
      outcome =
          more_at_once
          (subst (λ (s : List ℕ). UpdateOutcome (num_at 4 arg 0) s m r e) (rest_is arg start d) (subst (λ (k : ℕ). UpdateOutcome k (take (length arg - start) (drop start arg)) m r e) n o))
          none;
      block = w;
    }
