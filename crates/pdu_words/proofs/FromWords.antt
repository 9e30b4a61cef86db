-- Words as a record: the limits of words, and that words and record determine each other. Assumes nothing.
use mathlib.Core.Path.{◌≡◌, refl, sym, ap, ◌∙◌, subst}
use mathlib.Core.Bool.{Bool, true, false}
use mathlib.Core.List.{List, [], ◌∷◌, map}
use Prim.Native.Nat.{ℕ, zero, suc, ◌+◌, ◌-◌, ◌≤◌, ◌<◌}
use native.Mathlib.Nat.{add-zero}
use native.Mathlib.Omega.{arith}
use lib.ListN.{length, get_or, set, drop, replicate}
use lib.Seq.{drop-cons, drop-length}
use lib.Dec.{leb, eqb}
use lib.IntN.{ℤ}
use lib.Signed.{mag}
use borrow.Author.Tests.{leb-true, ne_eqb}
use mir.Syntax.{w16}
use mir.Val.{of_z, to_z}
use mir.ValLaws.{to_z-of_z}
use Rattle.wire.specs.Tests.{both, either, pick, all_after}
use Rattle.wire.proofs.Tests.{both_left, both_right, Each, one_of_lem}
use Rattle.signs.specs.TwosComplement.{signed, unsigned, holds}
use Rattle.signs.proofs.TwosComplement.{back_4, forth_4, longer}
use Rattle.pdu.specs.declared.Pdu.{Pdu}
use Rattle.pdu.specs.declared.Pdu.TheVariants.{Execute, Activate, SystemCommand, Handshake, NotifyEvent, WindowMove, MoveSize, MinMaxInfo, ClientInformation, SystemMenu, GetApplicationId, ApplicationIdResponse, ExecuteResult, SystemParameters, HandshakeEx}
use Rattle.pdu.specs.declared.Setting.{Setting}
use Rattle.pdu.specs.Layout.{types, known}
use Rattle.pdu.specs.Settings.{is_byte, is_area, high_contrast, known_setting, Data, byte, area, scheme, number_of, data_of, setting_with}
use Rattle.pdu.specs.Records.{is_yes, yes_number, kind_of, positions_of}
use Rattle.pdu.specs.RoundTrip.{all_hold}
use Rattle.pdu.specs.declared.WindowMove as W08
use Rattle.pdu.specs.declared.MoveSize as M09
use Rattle.pdu.specs.declared.MinMaxInfo as M0A
use Rattle.pdu.specs.declared.SystemMenu as S0C
use Rattle.pdu.proofs.Settings.{Shape, shape, setting_again, made, not_byte, not_area, by_shape}
use Rattle.pdu_words.specs.Words.{setting_words, words_of, window_move_words, move_size_words, min_max_info_words, system_menu_words}
use Rattle.pdu_words.specs.FromWords.{u32, nothing, most, byte_most, area_most, scheme_most, setting_most, limits, within, Within, position_words, is_position, fitting, stand, Stands, area_from, scheme_from, data_from, record_from, pdu_of, fits}
use Rattle.pdu.proofs.ReadBack.{is_yes_lem, rest}

-- ---- limits

first_of : (a : Bool) (bs : List Bool) → all_after a bs ≡ true → a ≡ true
first_of a [] e = e
first_of a (b ∷ bs) e = both_left a b (first_of (both a b) bs e)

-- n numbers from i on
abbrev run : ℕ → ℕ → List ℕ
run zero i = []
run (suc n) i = i ∷ run n (suc i)

-- of tests that all hold, each holds
each_of_lem : (test : ℕ → Bool) (a : Bool) (n i j : ℕ) → all_after a (map test (run n i)) ≡ true → j < n → test (i + j) ≡ true
each_of_lem test a zero i j e h = absurd (omega arith)
each_of_lem test a (suc n) i zero e h = rw (add-zero i) (both_right a (test i) (first_of (both a (test i)) (map test (run n (suc i))) e))
each_of_lem test a (suc n) i (suc j) e h =
    let k : i + suc j ≡ suc i + j = omega arith in
    rw k (each_of_lem test (both a (test i)) n (suc i) j e (omega arith))

module _ (w m : List ℕ) (h : within w m ≡ true) where
  abbrev test : ℕ → Bool
  test i = leb (get_or w i 0) (get_or m i 0)

  pub below : (j : ℕ) → j < 11 → get_or w (suc j) 0 ≤ get_or m (suc j) 0
  below j l =
      let k : 1 + j ≡ suc j = omega arith in
      leb-true (get_or w (suc j) 0) (get_or m (suc j) 0) (subst (λ (i : ℕ). test i ≡ true) k (each_of_lem test (test 0) 11 1 j h l))

  pub all_within : Within w m
  all_within =
      record {
        at1 = below 0 (omega arith);
        at2 = below 1 (omega arith);
        at3 = below 2 (omega arith);
        at4 = below 3 (omega arith);
        at5 = below 4 (omega arith);
        at6 = below 5 (omega arith);
        at7 = below 6 (omega arith);
        at8 = below 7 (omega arith);
        at9 = below 8 (omega arith);
        at10 = below 9 (omega arith);
        at11 = below 10 (omega arith);
      }

-- within so far: the first i words
abbrev pub up_to : List ℕ → List ℕ → ℕ → Bool
up_to w m zero = true
up_to w m (suc i) = both (up_to w m i) (leb (get_or w i 0) (get_or m i 0))

-- ---- the type

-- a number is none of a list
abbrev pub NoneOf : ℕ → List ℕ → Type 0
NoneOf k [] = Unit {0}
NoneOf k (x ∷ xs) = NoneOf k xs × (k ≡ x → ⊥)

-- the types but the last, in the order in which a match leaves them behind
abbrev pub Others : ℕ → Type 0
Others k = NoneOf k (0x13 ∷ 0x03 ∷ 0x0F ∷ 0x0E ∷ 0x0C ∷ 0x0B ∷ 0x0A ∷ 0x09 ∷ 0x08 ∷ 0x06 ∷ 0x05 ∷ 0x04 ∷ 0x02 ∷ 0x01 ∷ [])

-- then the type is known where it is the last
others : (k : ℕ) → Others k → known k ≡ eqb k 0x80
unfolding known
others k h =
    rw (
      ne_eqb k 0x01 h.0.0.0.0.0.0.0.0.0.0.0.0.0.1,
      ne_eqb k 0x02 h.0.0.0.0.0.0.0.0.0.0.0.0.1,
      ne_eqb k 0x04 h.0.0.0.0.0.0.0.0.0.0.0.1,
      ne_eqb k 0x05 h.0.0.0.0.0.0.0.0.0.0.1,
      ne_eqb k 0x06 h.0.0.0.0.0.0.0.0.0.1,
      ne_eqb k 0x08 h.0.0.0.0.0.0.0.0.1,
      ne_eqb k 0x09 h.0.0.0.0.0.0.0.1,
      ne_eqb k 0x0A h.0.0.0.0.0.0.1,
      ne_eqb k 0x0B h.0.0.0.0.0.1,
      ne_eqb k 0x0C h.0.0.0.0.1,
      ne_eqb k 0x0E h.0.0.0.1,
      ne_eqb k 0x0F h.0.0.1,
      ne_eqb k 0x03 h.0.1,
      ne_eqb k 0x13 h.1,
    )

pub no_type : (k : ℕ) → Others k × (k ≡ 0x80 → ⊥) → known k ≡ false
no_type k h = others k h.0 ∙ ne_eqb k 0x80 h.1

module _ (w : List ℕ) where
  pub known_type : stand w ≡ true → known (get_or w 0 0) ≡ true
  unfolding stand
  known_type h = both_left (known (get_or w 0 0)) (fitting (get_or w 0 0) w) h

  fitting_type : stand w ≡ true → fitting (get_or w 0 0) w ≡ true
  unfolding stand
  fitting_type h = both_right (known (get_or w 0 0)) (fitting (get_or w 0 0) w) h

  -- then each word is within its field
  within_of : (k : ℕ) → fitting k w ≡ true → within w (limits k (get_or w 1 0)) ≡ true
  within_of k h = first_of (within w (limits k (get_or w 1 0))) (map (is_position w) (position_words k)) h

  pub within_type : stand w ≡ true → within w (limits (get_or w 0 0) (get_or w 1 0)) ≡ true
  within_type h = within_of (get_or w 0 0) (fitting_type h)

pub fitting_as : (k : ℕ) {w : List ℕ} → Stands w → get_or w 0 0 ≡ k → fitting k w ≡ true
fitting_as k {w} h q = ap (λ (i : ℕ). fitting i w) (sym q) ∙ fitting_type w h.holds

pub inside : (k : ℕ) {w : List ℕ} → Stands w → get_or w 0 0 ≡ k → Within w (limits k (get_or w 1 0))
inside k {w} h q = all_within w (limits k (get_or w 1 0)) (ap (λ (i : ℕ). within w (limits i (get_or w 1 0))) (sym q) ∙ within_type w h.holds)

-- ---- settings

pub byte_limits : (c : ℕ) → is_byte c ≡ true → setting_most c ≡ byte_most c
byte_limits c h = rw h

pub area_limits : (c : ℕ) → is_byte c ≡ false → is_area c ≡ true → setting_most c ≡ area_most c
area_limits c g h = rw (g, h)

pub scheme_limits : (c : ℕ) → c ≡ high_contrast → setting_most c ≡ scheme_most c
scheme_limits c h = rw (h, not_byte, not_area)

pub inside_byte : {w : List ℕ} → Within w (setting_most (get_or w 1 0)) → is_byte (get_or w 1 0) ≡ true → Within w (byte_most (get_or w 1 0))
inside_byte {w} i h = subst (Within w) (byte_limits (get_or w 1 0) h) i

pub inside_area : {w : List ℕ} → Within w (setting_most (get_or w 1 0)) → is_byte (get_or w 1 0) ≡ false → is_area (get_or w 1 0) ≡ true → Within w (area_most (get_or w 1 0))
inside_area {w} i g h = subst (Within w) (area_limits (get_or w 1 0) g h) i

-- the setting of words that are within their limits is known
pub setting_known : (w : List ℕ) → get_or w 0 0 ≡ 0x03 → within w (setting_most (get_or w 1 0)) ≡ true → known_setting (get_or w 1 0) ≡ true
unfolding known_setting
setting_known w q = go (is_byte (get_or w 1 0)) (is_area (get_or w 1 0)) (eqb (get_or w 1 0) high_contrast)
  where
    go : (a b d : Bool) → within w (pick a (byte_most (get_or w 1 0)) (pick b (area_most (get_or w 1 0)) (pick d (scheme_most (get_or w 1 0)) nothing))) ≡ true → either (either a b) d ≡ true
    go true b d h = refl
    go false true d h = refl
    go false false true h = refl
    go false false false h = let z : ◌≡◌ {A = Bool} false true = rw q at h in z

-- the record of words of type 0003, by the shape of its setting
module _ (w : List ℕ) where
  pub from_byte : (c : ℕ) → is_byte c ≡ true → data_from c w ≡ byte (get_or w 2 0)
  unfolding data_from
  from_byte c h = rw h

  pub from_area : (c : ℕ) → is_byte c ≡ false → is_area c ≡ true → data_from c w ≡ area (area_from w)
  unfolding data_from
  from_area c g h = rw (g, h)

  pub from_scheme : (c : ℕ) → is_byte c ≡ false → is_area c ≡ false → data_from c w ≡ scheme (scheme_from w)
  unfolding data_from
  from_scheme c g h = rw (g, h)

of_type : (w : List ℕ) (k : ℕ) {p : Pdu} → get_or w 0 0 ≡ k → p ≡ record_from k w → pdu_of w ≡ p
unfolding pdu_of
of_type w k q e = ap (λ (i : ℕ). record_from i w) q ∙ sym e

-- the record of words of type k
pub is_type : (k : ℕ) {w : List ℕ} {p : Pdu} → Stands w → get_or w 0 0 ≡ k → p ≡ record_from k w → pdu_of w ≡ p
is_type k {w} h q e = of_type w k q e

-- ---- a record's words make it again

first_two : (c : ℕ) (d : Data) → (get_or (setting_words c d) 0 0 ≡ 0x03) × (get_or (setting_words c d) 1 0 ≡ c)
first_two c (byte v) = (refl, refl)
first_two c (area a) = (refl, refl)
first_two c (scheme h) = (refl, refl)

data_again : (c : ℕ) (d : Data) → Shape c d → data_from c (setting_words c d) ≡ d
unfolding data_from
data_again c (byte v) h = rw h
data_again c (area a) h = rw (h.0, h.1)
data_again c (scheme d) h = rw (h, not_byte, not_area)

setting_words_again : (s : Setting) → setting_with (get_or (setting_words (number_of s) (data_of s)) 1 0) (data_from (get_or (setting_words (number_of s) (data_of s)) 1 0) (setting_words (number_of s) (data_of s))) ≡ s
setting_words_again s =
    rw ((first_two (number_of s) (data_of s)).1, data_again (number_of s) (data_of s) (shape s)) (setting_again s)

-- the first of values that have a number of 2 bytes, as a word and back, and the rest
again : (z : ℤ) (zs : List ℤ) → all_hold 2 (z ∷ zs) ≡ true → signed 4 (unsigned 4 z) ≡ z
unfolding all_hold
again z zs t = back_4 z (longer z (both_left (holds 2 z) (all_hold 2 zs) t))

record_again : (p : Pdu) → all_hold 2 (positions_of p) ≡ true → record_from (kind_of p) (words_of p) ≡ p
unfolding kind_of words_of record_from positions_of
record_again (Execute e) t = refl
record_again (Activate e) t = refl
record_again (SystemCommand e) t = refl
record_again (Handshake e) t = refl
record_again (NotifyEvent e) t = refl
record_again (WindowMove e) t =
    let t2 = rest e.left (e.top ∷ e.right ∷ e.bottom ∷ []) t in
    let t3 = rest e.top (e.right ∷ e.bottom ∷ []) t2 in
    rw (again e.left (e.top ∷ e.right ∷ e.bottom ∷ []) t, again e.top (e.right ∷ e.bottom ∷ []) t2, again e.right (e.bottom ∷ []) t3, again e.bottom [] (rest e.right (e.bottom ∷ []) t3))
record_again (MoveSize e) t =
    rw (is_yes_lem e.is_start, again e.pos_x (e.pos_y ∷ []) t, again e.pos_y [] (rest e.pos_x (e.pos_y ∷ []) t))
record_again (MinMaxInfo e) t =
    rw (again e.max_pos_x (e.max_pos_y ∷ []) t, again e.max_pos_y [] (rest e.max_pos_x (e.max_pos_y ∷ []) t))
record_again (ClientInformation e) t = refl
record_again (SystemMenu e) t = rw (again e.left (e.top ∷ []) t, again e.top [] (rest e.left (e.top ∷ []) t))
record_again (GetApplicationId e) t = refl
record_again (ApplicationIdResponse e) t = refl
record_again (ExecuteResult e) t = refl
record_again (SystemParameters e) t =
    ap (λ (x : Setting). SystemParameters (record { setting = x })) (setting_words_again e.setting)
record_again (HandshakeEx e) t = refl

-- the first word is the type, which is known
pub kind_word : (p : Pdu) → (get_or (words_of p) 0 0 ≡ kind_of p) × (known (kind_of p) ≡ true)
unfolding kind_of words_of known
kind_word (Execute e) = (refl, refl)
kind_word (Activate e) = (refl, refl)
kind_word (SystemCommand e) = (refl, refl)
kind_word (Handshake e) = (refl, refl)
kind_word (NotifyEvent e) = (refl, refl)
kind_word (WindowMove e) = (refl, refl)
kind_word (MoveSize e) = (refl, refl)
kind_word (MinMaxInfo e) = (refl, refl)
kind_word (ClientInformation e) = (refl, refl)
kind_word (SystemMenu e) = (refl, refl)
kind_word (GetApplicationId e) = (refl, refl)
kind_word (ApplicationIdResponse e) = (refl, refl)
kind_word (ExecuteResult e) = (refl, refl)
kind_word (SystemParameters e) = ((first_two (number_of e.setting) (data_of e.setting)).0, refl)
kind_word (HandshakeEx e) = (refl, refl)

-- a record's words stand for it
pub words_stand : (p : Pdu) → fits p ≡ true → Stands (words_of p)
unfolding fits
words_stand p f = record { holds = both_left (stand (words_of p)) (all_hold 2 (positions_of p)) f }

pub positions_hold : (p : Pdu) → fits p ≡ true → all_hold 2 (positions_of p) ≡ true
unfolding fits
positions_hold p f = both_right (stand (words_of p)) (all_hold 2 (positions_of p)) f

pub words_back : (p : Pdu) → fits p ≡ true → pdu_of (words_of p) ≡ p
words_back p f = of_type (words_of p) (kind_of p) (kind_word p).0 (sym (record_again p (positions_hold p f)))

-- ---- positions as the machine has them: read back from their bits at every step

pub word_16 : {n : ℕ} (z : ℤ) → mag z < 32768 → n ≡ unsigned 4 (to_z w16 (of_z w16 z)) → n ≡ unsigned 4 z
word_16 z h e = e ∙ ap (unsigned 4) (to_z-of_z w16 z (record { sfits = h }))

module _ (e : W08.WindowMove) where
  pub window_move_laid : {x : List ℕ} {a b d f : ℕ} → x ≡ 0x08 ∷ e.window_id.id ∷ a ∷ b ∷ d ∷ f ∷ 0 ∷ 0 ∷ 0 ∷ 0 ∷ 0 ∷ 0 ∷ []
      → a ≡ unsigned 4 e.left → b ≡ unsigned 4 e.top → d ≡ unsigned 4 e.right → f ≡ unsigned 4 e.bottom → x ≡ window_move_words e
  window_move_laid ex ea eb ed ef = ex ∙ rw (ea, eb, ed, ef)

module _ (e : M09.MoveSize) where
  pub move_size_laid : {x : List ℕ} {a b d : ℕ} → x ≡ 0x09 ∷ e.window_id.id ∷ a ∷ e.move_size_type ∷ b ∷ d ∷ 0 ∷ 0 ∷ 0 ∷ 0 ∷ 0 ∷ 0 ∷ []
      → a ≡ yes_number e.is_start → b ≡ unsigned 4 e.pos_x → d ≡ unsigned 4 e.pos_y → x ≡ move_size_words e
  move_size_laid ex ea eb ed = ex ∙ rw (ea, eb, ed)

module _ (e : M0A.MinMaxInfo) where
  pub min_max_info_laid : {x y : List ℕ} {a b : ℕ} → x ≡ 0x0A ∷ e.window_id.id ∷ e.max_width ∷ e.max_height ∷ a ∷ b ∷ 0 ∷ 0 ∷ 0 ∷ 0 ∷ 0 ∷ 0 ∷ []
      → y ≡ set (set (set (set x 6 e.min_track_width) 7 e.min_track_height) 8 e.max_track_width) 9 e.max_track_height
      → a ≡ unsigned 4 e.max_pos_x → b ≡ unsigned 4 e.max_pos_y → y ≡ min_max_info_words e
  min_max_info_laid ex ey ea eb = ey ∙ rw (ex, ea, eb)

module _ (e : S0C.SystemMenu) where
  pub system_menu_laid : {x : List ℕ} {a b : ℕ} → x ≡ 0x0C ∷ e.window_id.id ∷ a ∷ b ∷ 0 ∷ 0 ∷ 0 ∷ 0 ∷ 0 ∷ 0 ∷ 0 ∷ 0 ∷ []
      → a ≡ unsigned 4 e.left → b ≡ unsigned 4 e.top → x ≡ system_menu_words e
  system_menu_laid ex ea eb = ex ∙ rw (ea, eb)

-- ---- words that stand for a record are its words

-- the words at these numbers
abbrev listed : List ℕ → List ℕ → List ℕ
listed w is = map (λ (i : ℕ). get_or w i 0) is

list_whole : (n i : ℕ) (w : List ℕ) → length w ≡ i + n → listed w (run n i) ≡ drop i w
list_whole zero i w e =
    let l : i ≡ length w = omega arith in
    sym (ap (λ (j : ℕ). drop j w) l ∙ drop-length w)
list_whole (suc n) i w e = rw (list_whole n (suc i) w (omega arith)) (sym (drop-cons w i 0 (omega arith)))

start_back : (n : ℕ) → n ≤ 1 → yes_number (is_yes n) ≡ n
start_back zero h = refl
start_back (suc zero) h = refl
start_back (suc (suc n)) h = absurd (omega arith)

-- tests that all hold, joined from the left, hold joined from the right
two_held : (a x y : Bool) → both (both a x) y ≡ true → both x (both y true) ≡ true
two_held a x y h = rw (both_right a x (both_left (both a x) y h), both_right (both a x) y h)

four_held : (a x y z u : Bool) → both (both (both (both a x) y) z) u ≡ true → both x (both y (both z (both u true))) ≡ true
four_held a x y z u h =
    let g = both_left (both (both (both a x) y) z) u h in
    let f = both_left (both (both a x) y) z g in
    rw (both_right a x (both_left (both a x) y f), both_right (both a x) y f, both_right (both (both a x) y) z g, both_right (both (both (both a x) y) z) u h)

module _ (w : List ℕ) where
  -- the last n words are 0 where the limits are
  pad : (m : List ℕ) → within w m ≡ true → (n j : ℕ) → j + n ≡ 11 → listed m (run n (suc j)) ≡ replicate n 0 → listed w (run n (suc j)) ≡ replicate n 0
  pad m h zero j l e = refl
  pad m h (suc n) j l e =
      let z : get_or m (suc j) 0 ≡ 0 = ap (λ (x : List ℕ). get_or x 0 0) e in
      let y : get_or w (suc j) 0 ≡ 0 = omega (arith, below w m h j (omega arith)) in
      rw (y, pad m h n (suc j) (omega arith) (ap (drop 1) e))

  -- the words after the first j fields of type k, its last
  after : (k j : ℕ) → within w (most k) ≡ true → (j + (11 - j) ≡ 11) × (listed (most k) (run (11 - j) (suc j)) ≡ replicate (11 - j) 0) → listed w (run (11 - j) (suc j)) ≡ replicate (11 - j) 0
  after k j h e = pad (most k) h (11 - j) j e.0 e.1

  -- words of type 0003 are those of the data d that they make of the setting
  setting_same : (d : Data) (m : List ℕ) (j : ℕ) → Shape (get_or w 1 0) d → data_from (get_or w 1 0) w ≡ d → setting_most (get_or w 1 0) ≡ m → within w (setting_most (get_or w 1 0)) ≡ true
      → (j + (11 - j) ≡ 11) × (listed m (run (11 - j) (suc j)) ≡ replicate (11 - j) 0)
      → (listed w (run (11 - j) (suc j)) ≡ replicate (11 - j) 0 → setting_words (get_or w 1 0) d ≡ listed w (run 12 0))
      → words_of (record_from 0x03 w) ≡ listed w (run 12 0)
  unfolding words_of record_from
  setting_same d m j s e l h z f =
      let c = get_or w 1 0 in
      let x = made c d s in
      rw (e, x.number, x.body) (f (pad m (ap (within w) (sym l) ∙ h) (11 - j) j z.0 z.1))

  abbrev Same : ℕ → Type 0
  Same k = within w (limits k (get_or w 1 0)) ≡ true → get_or w 0 0 ≡ k → words_of (record_from k w) ≡ listed w (run 12 0)

  setting_words_lem : Same 0x03
  setting_words_lem h q =
      let c = get_or w 1 0 in
      by_shape c (setting_known w q h) (words_of (record_from 0x03 w) ≡ listed w (run 12 0))
      (λ b. setting_same (byte (get_or w 2 0)) (byte_most c) 2 b (from_byte w c b) (byte_limits c b) h (refl, refl) (λ p. rw (q, p)))
      (λ b a. setting_same (area (area_from w)) (area_most c) 5 (b, a) (from_area w c b a) (area_limits c b a) h (refl, refl) (λ p. rw (q, p)))
      (λ e. setting_same (scheme (scheme_from w)) (scheme_most c) 4 e (from_scheme w c (ap is_byte e ∙ not_byte) (ap is_area e ∙ not_area)) (scheme_limits c e) h (refl, refl) (λ p. rw (q, p)))

  -- a position, as a value and back
  forth : (k : ℕ) → within w (most k) ≡ true → (j : ℕ) → j < 11 → get_or (most k) (suc j) 0 ≡ u32 → unsigned 4 (signed 4 (get_or w (suc j) 0)) ≡ get_or w (suc j) 0
  forth k h j l e = forth_4 (get_or w (suc j) 0) (omega (arith, below w (most k) h j l))

  each_kind : Each Same types
  unfolding words_of record_from
  each_kind =
      (λ h q. rw (q, after 0x01 7 h (refl, refl)), (λ h q. rw (q, after 0x02 2 h (refl, refl)), (λ h q. rw (q, after 0x04 2 h (refl, refl)), (λ h q. rw (q, after 0x05 1 h (refl, refl)), (λ h q. rw (q, after 0x06 3 h (refl, refl)), (λ h q. rw (q, forth 0x08 h 1 (omega arith) refl, forth 0x08 h 2 (omega arith) refl, forth 0x08 h 3 (omega arith) refl, forth 0x08 h 4 (omega arith) refl, after 0x08 5 h (refl, refl)), (λ h q. rw (q, start_back (get_or w 2 0) (below w (most 0x09) h 1 (omega arith)), forth 0x09 h 3 (omega arith) refl, forth 0x09 h 4 (omega arith) refl, after 0x09 5 h (refl, refl)), (λ h q. rw (q, forth 0x0A h 3 (omega arith) refl, forth 0x0A h 4 (omega arith) refl, after 0x0A 9 h (refl, refl)), (λ h q. rw (q, after 0x0B 1 h (refl, refl)), (λ h q. rw (q, forth 0x0C h 1 (omega arith) refl, forth 0x0C h 2 (omega arith) refl, after 0x0C 3 h (refl, refl)), (λ h q. rw (q, after 0x0E 1 h (refl, refl)), (λ h q. rw (q, after 0x0F 3 h (refl, refl)), (setting_words_lem, (λ h q. rw (q, after 0x13 2 h (refl, refl)), (λ h q. rw (q, after 0x80 5 h (refl, refl)), tt)))))))))))))))

  abbrev Held-positions : ℕ → Type 0
  Held-positions k = fitting k w ≡ true → all_hold 2 (positions_of (record_from k w)) ≡ true

  each_held : Each Held-positions types
  unfolding positions_of record_from all_hold
  each_held =
      (λ f. refl, (λ f. refl, (λ f. refl, (λ f. refl, (λ f. refl, (λ f. four_held (within w (most 0x08)) (is_position w 2) (is_position w 3) (is_position w 4) (is_position w 5) f, (λ f. two_held (within w (most 0x09)) (is_position w 4) (is_position w 5) f, (λ f. two_held (within w (most 0x0A)) (is_position w 4) (is_position w 5) f, (λ f. refl, (λ f. two_held (within w (most 0x0C)) (is_position w 2) (is_position w 3) f, (λ f. refl, (λ f. refl, (λ f. refl, (λ f. refl, (λ f. refl, tt)))))))))))))))

  pub words_forth : length w ≡ 12 → Stands w → (words_of (pdu_of w) ≡ w) × (fits (pdu_of w) ≡ true)
  unfolding known pdu_of fits
  words_forth l h =
      let k = get_or w 0 0 in
      let p = record_from k w in
      let x : words_of p ≡ w = one_of_lem Same types k (known_type w h.holds) each_kind (within_type w h.holds) refl ∙ list_whole 12 0 w l in
      let z : stand (words_of p) ≡ true = ap stand x ∙ h.holds in
      (x, rw z (one_of_lem Held-positions types k (known_type w h.holds) each_held (fitting_type w h.holds)))
