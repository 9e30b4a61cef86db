-- A written record reads back equal. Assumes nothing.
use mathlib.Core.Path.{◌≡◌, refl, sym, ap, ◌∙◌}
use mathlib.Core.Bool.{Bool, true, false}
use mathlib.Core.List.{List, [], ◌∷◌, ◌++◌, map}
use Prim.Native.Nat.{ℕ, ◌%◌, ◌≤◌, ◌<◌}
use native.Mathlib.Omega.{arith}
use lib.ListN.{length, get_or, drop}
use lib.Dec.{leb, ltb, eqb}
use lib.IntN.{ℤ}
use borrow.Author.Tests.{leb-true, le-ltb, eq-eqb}
use Rattle.wire.specs.Tests.{both, pick}
use Rattle.wire.specs.Parts.{splice}
use Rattle.wire.specs.Numbers.{num_at, nums_at, put_all, total, fits_in, all_fit}
use Rattle.wire.proofs.Tests.{both_left, both_right}
use Rattle.wire.proofs.Numbers.{nums_put, length_put, fits2}
use Rattle.signs.specs.TwosComplement.{signed, unsigned, holds}
use Rattle.signs.proofs.TwosComplement.{back_2}
use Rattle.pdu.specs.declared.Pdu.{Pdu}
use Rattle.pdu.specs.declared.Pdu.TheVariants.{Execute, Activate, SystemCommand, Handshake, NotifyEvent, WindowMove, MoveSize, MinMaxInfo, ClientInformation, SystemMenu, GetApplicationId, ApplicationIdResponse, ExecuteResult, SystemParameters, HandshakeEx}
use Rattle.pdu.specs.declared.Span.{Span}
use Rattle.pdu.specs.declared.Execute as E
use Rattle.pdu.specs.declared.ExecuteResult as X
use Rattle.std.specs.Prelude.{Ok}
use Rattle.pdu.specs.declared.Setting.{Setting}
use Rattle.pdu.specs.Layout.{one_of, known, widths}
use Rattle.pdu.specs.Settings.{setting_widths, Data, number_of, data_of, data_spans, data_size, data_allowed, setting_with, moved}
use Rattle.pdu.specs.Records.{is_yes, yes_number, record_of, kind_of, nums_of, positions_of, widths_of, size_of, spans_of}
use Rattle.pdu.specs.Rules.{text_ok, execute_flags_ok, exec_results, execute_allowed, execute_result_allowed, allowed}
use Rattle.pdu.specs.Reading.{record_as, unknown_setting, lengths_agree, body_of, read_of}
use Rattle.pdu.specs.Writing.{part_of, zeros, filled, strings_of, joined, row, line, encode, grants}
use Rattle.pdu.specs.RoundTrip.{rebased, all_hold, typed, ReadsBack}
use Rattle.pdu.proofs.Strings.{spans_from, parts, parts_back, filled_whole}
use Rattle.pdu.proofs.Writing.{allowed_of, string_lengths_lem, string_lengths, length_encode}
use Rattle.pdu.proofs.Settings.{shape, Made, made, moved_shape, moved_size, moved_allowed, least_size, most_size, data_back, spans_shape, filled_data, lines_fine}

-- ---- the record

pub is_yes_lem : (b : Bool) → is_yes (yes_number b) ≡ b
is_yes_lem true = refl
is_yes_lem false = refl

-- a setting with its string where writing puts it
moved_made : (s : Setting) → Made (number_of s) (moved (data_of s)) (setting_with (number_of s) (moved (data_of s)))
moved_made s = made (number_of s) (moved (data_of s)) (moved_shape (number_of s) (data_of s) (shape s))

-- the first of values that all have a number is that number's value, and the rest have theirs
position : (z : ℤ) (zs : List ℤ) → all_hold 2 (z ∷ zs) ≡ true → signed 2 (unsigned 2 z) ≡ z
unfolding all_hold
position z zs t = back_2 z (both_left (holds 2 z) (all_hold 2 zs) t)

pub rest : (z : ℤ) (zs : List ℤ) → all_hold 2 (z ∷ zs) ≡ true → all_hold 2 zs ≡ true
unfolding all_hold
rest z zs t = both_right (holds 2 z) (all_hold 2 zs) t

-- the numbers of a record make the record, where each position has a number
record_back : (p : Pdu) → all_hold 2 (positions_of p) ≡ true → record_of (kind_of p) (nums_of p) ≡ rebased p
unfolding record_of kind_of nums_of rebased positions_of all_hold
record_back (Execute e) t = refl
record_back (Activate e) t = refl
record_back (SystemCommand e) t = refl
record_back (Handshake e) t = refl
record_back (NotifyEvent e) t = refl
record_back (WindowMove e) t =
    let t2 = rest e.left (e.top ∷ e.right ∷ e.bottom ∷ []) t in
    let t3 = rest e.top (e.right ∷ e.bottom ∷ []) t2 in
    let t4 = rest e.right (e.bottom ∷ []) t3 in
    rw (position e.left (e.top ∷ e.right ∷ e.bottom ∷ []) t, position e.top (e.right ∷ e.bottom ∷ []) t2, position e.right (e.bottom ∷ []) t3, position e.bottom [] t4)
record_back (MoveSize e) t =
    rw (is_yes_lem e.is_start, position e.pos_x (e.pos_y ∷ []) t, position e.pos_y [] (rest e.pos_x (e.pos_y ∷ []) t))
record_back (MinMaxInfo e) t =
    rw (position e.max_pos_x (e.max_pos_y ∷ []) t, position e.max_pos_y [] (rest e.max_pos_x (e.max_pos_y ∷ []) t))
record_back (ClientInformation e) t = refl
record_back (SystemMenu e) t = rw (position e.left (e.top ∷ []) t, position e.top [] (rest e.left (e.top ∷ []) t))
record_back (GetApplicationId e) t = refl
record_back (ApplicationIdResponse e) t = refl
record_back (ExecuteResult e) t = refl
record_back (SystemParameters e) t =
    let c = number_of e.setting in
    ap (λ (d : Data). SystemParameters (record { setting = setting_with c d })) (data_back c (data_of e.setting) (shape e.setting))
record_back (HandshakeEx e) t = refl

size_back : (p : Pdu) → size_of (rebased p) ≡ size_of p
unfolding size_of rebased
size_back (Execute e) = refl
size_back (Activate e) = refl
size_back (SystemCommand e) = refl
size_back (Handshake e) = refl
size_back (NotifyEvent e) = refl
size_back (WindowMove e) = refl
size_back (MoveSize e) = refl
size_back (MinMaxInfo e) = refl
size_back (ClientInformation e) = refl
size_back (SystemMenu e) = refl
size_back (GetApplicationId e) = refl
size_back (ApplicationIdResponse e) = refl
size_back (ExecuteResult e) = refl
size_back (SystemParameters e) = ap data_size (moved_made e.setting).body ∙ moved_size (data_of e.setting)
size_back (HandshakeEx e) = refl

allowed_back : (p : Pdu) → allowed p ≡ true → allowed (rebased p) ≡ true
unfolding allowed rebased
allowed_back (Execute e) a = a
allowed_back (Activate e) a = a
allowed_back (SystemCommand e) a = a
allowed_back (Handshake e) a = a
allowed_back (NotifyEvent e) a = a
allowed_back (WindowMove e) a = a
allowed_back (MoveSize e) a = a
allowed_back (MinMaxInfo e) a = a
allowed_back (ClientInformation e) a = a
allowed_back (SystemMenu e) a = a
allowed_back (GetApplicationId e) a = a
allowed_back (ApplicationIdResponse e) a = refl
allowed_back (ExecuteResult e) a = a
allowed_back (SystemParameters e) a = ap data_allowed (moved_made e.setting).body ∙ moved_allowed (data_of e.setting) ∙ a
allowed_back (HandshakeEx e) a = a

known_kind : (p : Pdu) → known (kind_of p) ≡ true
unfolding known kind_of
known_kind (Execute e) = refl
known_kind (Activate e) = refl
known_kind (SystemCommand e) = refl
known_kind (Handshake e) = refl
known_kind (NotifyEvent e) = refl
known_kind (WindowMove e) = refl
known_kind (MoveSize e) = refl
known_kind (MinMaxInfo e) = refl
known_kind (ClientInformation e) = refl
known_kind (SystemMenu e) = refl
known_kind (GetApplicationId e) = refl
known_kind (ApplicationIdResponse e) = refl
known_kind (ExecuteResult e) = refl
known_kind (SystemParameters e) = refl
known_kind (HandshakeEx e) = refl

-- ---- the numbers of a granted record fit their widths

text_high : (low high n : ℕ) → text_ok low high n ≡ true → n ≤ high
text_high low high n h = leb-true n high (both_right (leb low n) (leb n high) (both_left (both (leb low n) (leb n high)) (eqb (n % 2) 0) h))

pub record ExecuteSmall (e : E.Execute) : Type 0 where
  pub file : e.exe_or_file.len ≤ 520
  pub directory : e.working_dir.len ≤ 520
  pub arguments_small : e.arguments.len ≤ 16000

pub execute_small : (e : E.Execute) → execute_allowed e ≡ true → ExecuteSmall e
execute_small e h =
    let a = text_ok 1 520 e.exe_or_file.len in
    let b = text_ok 0 520 e.working_dir.len in
    let c = text_ok 0 16000 e.arguments.len in
    let abc = both_left (both (both a b) c) (execute_flags_ok e.flags) h in
    let ab = both_left (both a b) c abc in
    record {
      file = text_high 1 520 e.exe_or_file.len (both_left a b ab);
      directory = text_high 0 520 e.working_dir.len (both_right a b ab);
      arguments_small = text_high 0 16000 e.arguments.len (both_right (both a b) c abc);
    }

pub result_small : (e : X.ExecuteResult) → execute_result_allowed e ≡ true → e.exe_or_file.len ≤ 520
result_small e h =
    let n = e.exe_or_file.len in
    leb-true n 520 (both_right (both (one_of e.exec_result exec_results) (leb 1 n)) (leb n 520) h)

pub size_small : (p : Pdu) → allowed p ≡ true → size_of p < 65536
unfolding size_of allowed
size_small (Execute e) a = let s = execute_small e a in omega (arith, s.file, s.directory, s.arguments_small)
size_small (Activate e) a = omega arith
size_small (SystemCommand e) a = omega arith
size_small (Handshake e) a = omega arith
size_small (NotifyEvent e) a = omega arith
size_small (WindowMove e) a = omega arith
size_small (MoveSize e) a = omega arith
size_small (MinMaxInfo e) a = omega arith
size_small (ClientInformation e) a = omega arith
size_small (SystemMenu e) a = omega arith
size_small (GetApplicationId e) a = omega arith
size_small (ApplicationIdResponse e) a = omega arith
size_small (ExecuteResult e) a = omega (arith, result_small e a)
size_small (SystemParameters e) a = omega (arith, most_size (data_of e.setting) a)
size_small (HandshakeEx e) a = omega arith

kind_small : (p : Pdu) → kind_of p < 65536
unfolding kind_of
kind_small (Execute e) = omega arith
kind_small (Activate e) = omega arith
kind_small (SystemCommand e) = omega arith
kind_small (Handshake e) = omega arith
kind_small (NotifyEvent e) = omega arith
kind_small (WindowMove e) = omega arith
kind_small (MoveSize e) = omega arith
kind_small (MinMaxInfo e) = omega arith
kind_small (ClientInformation e) = omega arith
kind_small (SystemMenu e) = omega arith
kind_small (GetApplicationId e) = omega arith
kind_small (ApplicationIdResponse e) = omega arith
kind_small (ExecuteResult e) = omega arith
kind_small (SystemParameters e) = omega arith
kind_small (HandshakeEx e) = omega arith

header_within : (p : Pdu) → 4 ≤ size_of p
unfolding size_of
header_within (Execute e) = omega arith
header_within (Activate e) = omega arith
header_within (SystemCommand e) = omega arith
header_within (Handshake e) = omega arith
header_within (NotifyEvent e) = omega arith
header_within (WindowMove e) = omega arith
header_within (MoveSize e) = omega arith
header_within (MinMaxInfo e) = omega arith
header_within (ClientInformation e) = omega arith
header_within (SystemMenu e) = omega arith
header_within (GetApplicationId e) = omega arith
header_within (ApplicationIdResponse e) = omega arith
header_within (ExecuteResult e) = omega arith
header_within (SystemParameters e) = omega (arith, least_size (data_of e.setting))
header_within (HandshakeEx e) = omega arith

row_fits : (k n : ℕ) (ws ns : List ℕ) → fits_in 2 k ≡ true → fits_in 2 n ≡ true → all_fit ws ns ≡ true → all_fit (2 ∷ 2 ∷ ws) (k ∷ n ∷ ns) ≡ true
unfolding all_fit
row_fits k n ws ns a b c = rw (a, b) c

-- ---- reading what was written

-- a message that no line of the ladder refuses
pub granted : (s : List ℕ) (k : ℕ) (p : Pdu) → ltb (length s) 4 ≡ false → eqb (num_at 2 s 2) (length s) ≡ true → num_at 2 s 0 ≡ k → known k ≡ true → record_as k s ≡ p
    → (unknown_setting k s ≡ false) × (lengths_agree k s ≡ true) → eqb (size_of p) (length s) ≡ true → allowed p ≡ true → read_of s ≡ Ok p
unfolding read_of body_of
granted s k p a b e c r l z w = rw (a, b, e, c, l.0, r, z, l.1, w)

-- the widths of the numbers that are seen again are those that were written
seen_widths : (t : Bool) (ws ns s : List ℕ) → nums_at (pick t (4 ∷ setting_widths (get_or ns 0 0)) ws) s 4 ≡ ns
    → pick t (4 ∷ setting_widths (num_at 4 s 4)) ws ≡ pick t (4 ∷ setting_widths (get_or ns 0 0)) ws
unfolding nums_at
seen_widths true ws ns s e = let q : num_at 4 s 4 ≡ get_or ns 0 0 = ap (λ (l : List ℕ). get_or l 0 0) e in rw q
seen_widths false ws ns s e = refl

-- what is seen again names a known setting, and its lengths agree
setting_fine : (p : Pdu) (s : List ℕ) → nums_at (widths_of p) s 4 ≡ nums_of p → (unknown_setting (kind_of p) s ≡ false) × (lengths_agree (kind_of p) s ≡ true)
unfolding kind_of nums_of
setting_fine (Execute e) s b = (refl, refl)
setting_fine (Activate e) s b = (refl, refl)
setting_fine (SystemCommand e) s b = (refl, refl)
setting_fine (Handshake e) s b = (refl, refl)
setting_fine (NotifyEvent e) s b = (refl, refl)
setting_fine (WindowMove e) s b = (refl, refl)
setting_fine (MoveSize e) s b = (refl, refl)
setting_fine (MinMaxInfo e) s b = (refl, refl)
setting_fine (ClientInformation e) s b = (refl, refl)
setting_fine (SystemMenu e) s b = (refl, refl)
setting_fine (GetApplicationId e) s b = (refl, refl)
setting_fine (ApplicationIdResponse e) s b = (refl, refl)
setting_fine (ExecuteResult e) s b = (refl, refl)
setting_fine (SystemParameters e) s b = lines_fine (number_of e.setting) (data_of e.setting) s (shape e.setting) b
setting_fine (HandshakeEx e) s b = (refl, refl)

module _ (p : Pdu) (src : List ℕ) (g : grants p src ≡ true) (t : typed p ≡ true) where
  numbers_fit : all_fit (widths_of p) (nums_of p) ≡ true
  unfolding typed
  numbers_fit = both_left (all_fit (widths_of p) (nums_of p)) (all_hold 2 (positions_of p)) t

  positions_hold : all_hold 2 (positions_of p) ≡ true
  unfolding typed
  positions_hold = both_right (all_fit (widths_of p) (nums_of p)) (all_hold 2 (positions_of p)) t

  fits : all_fit (row p) (line p) ≡ true
  fits = row_fits (kind_of p) (size_of p) (widths_of p) (nums_of p) (fits2 (kind_of p) (kind_small p)) (fits2 (size_of p) (size_small p (allowed_of p src g))) numbers_fit

  nums : nums_at (row p) (encode p src) 0 ≡ line p
  unfolding encode
  nums = nums_put (row p) (line p) (joined (strings_of p src)) fits

  kind : num_at 2 (encode p src) 0 ≡ kind_of p
  unfolding nums_at
  kind = ap (λ (l : List ℕ). get_or l 0 0) nums

  size : num_at 2 (encode p src) 2 ≡ size_of p
  unfolding nums_at
  size = ap (λ (l : List ℕ). get_or l 1 0) nums

  body : nums_at (widths_of p) (encode p src) 4 ≡ nums_of p
  unfolding nums_at
  body = ap (drop 2) nums

  seen : record_as (kind_of p) (encode p src) ≡ rebased p
  unfolding record_as
  seen =
      let b = encode p src in
      ap (λ (ws : List ℕ). record_of (kind_of p) (nums_at ws b 4)) (seen_widths (eqb (kind_of p) 0x03) (widths (kind_of p)) (nums_of p) b body)
      ∙ ap (record_of (kind_of p)) body
      ∙ record_back p positions_hold

  message_back : read_of (encode p src) ≡ Ok (rebased p)
  message_back =
      let l = length_encode p src g in
      granted (encode p src) (kind_of p) (rebased p)
      (le-ltb (length (encode p src)) 4 (omega (arith, header_within p, l)))
      (eq-eqb (num_at 2 (encode p src) 2) (length (encode p src)) (size ∙ sym l))
      kind
      (known_kind p)
      seen
      (setting_fine p (encode p src) body)
      (eq-eqb (size_of (rebased p)) (length (encode p src)) (size_back p ∙ sym l))
      (allowed_back p (allowed_of p src g))

-- ---- the strings

-- writing puts the strings one after the other behind the numbers
spans_back : (p : Pdu) → spans_of (rebased p) ≡ spans_from (total (row p)) (string_lengths_lem p)
unfolding spans_of rebased total widths kind_of nums_of string_lengths_lem
spans_back (Execute e) = refl
spans_back (Activate e) = refl
spans_back (SystemCommand e) = refl
spans_back (Handshake e) = refl
spans_back (NotifyEvent e) = refl
spans_back (WindowMove e) = refl
spans_back (MoveSize e) = refl
spans_back (MinMaxInfo e) = refl
spans_back (ClientInformation e) = refl
spans_back (SystemMenu e) = refl
spans_back (GetApplicationId e) = refl
spans_back (ApplicationIdResponse e) = refl
spans_back (ExecuteResult e) = refl
spans_back (SystemParameters e) = ap data_spans (moved_made e.setting).body ∙ spans_shape (number_of e.setting) (data_of e.setting) (shape e.setting)
spans_back (HandshakeEx e) = refl

kind_back : (p : Pdu) → kind_of (rebased p) ≡ kind_of p
unfolding kind_of rebased
kind_back (Execute e) = refl
kind_back (Activate e) = refl
kind_back (SystemCommand e) = refl
kind_back (Handshake e) = refl
kind_back (NotifyEvent e) = refl
kind_back (WindowMove e) = refl
kind_back (MoveSize e) = refl
kind_back (MinMaxInfo e) = refl
kind_back (ClientInformation e) = refl
kind_back (SystemMenu e) = refl
kind_back (GetApplicationId e) = refl
kind_back (ApplicationIdResponse e) = refl
kind_back (ExecuteResult e) = refl
kind_back (SystemParameters e) = refl
kind_back (HandshakeEx e) = refl

-- filling out again changes nothing
filled_again : (p : Pdu) (src : List ℕ) → grants p src ≡ true → map (filled (kind_of p)) (strings_of p src) ≡ strings_of p src
unfolding strings_of filled kind_of spans_of string_lengths_lem
filled_again (Execute e) src g = refl
filled_again (Activate e) src g = refl
filled_again (SystemCommand e) src g = refl
filled_again (Handshake e) src g = refl
filled_again (NotifyEvent e) src g = refl
filled_again (WindowMove e) src g = refl
filled_again (MoveSize e) src g = refl
filled_again (MinMaxInfo e) src g = refl
filled_again (ClientInformation e) src g = refl
filled_again (SystemMenu e) src g = refl
filled_again (GetApplicationId e) src g = refl
filled_again (ApplicationIdResponse e) src g =
    ap (λ (x : List ℕ). x ∷ []) (filled_whole (splice zeros 0 (part_of src e.application_id)) (ap (λ (l : List ℕ). get_or l 0 0) (string_lengths (ApplicationIdResponse e) src g)))
filled_again (ExecuteResult e) src g = refl
filled_again (SystemParameters e) src g = filled_data (data_of e.setting) src
filled_again (HandshakeEx e) src g = refl

map_map : (f : List ℕ → List ℕ) (b : List ℕ) (ts : List Span) → map (λ (t : Span). f (part_of b t)) ts ≡ map f (parts b ts)
map_map f b [] = refl
map_map f b (t ∷ ts) = ap (λ (xs : List (List ℕ)). f (part_of b t) ∷ xs) (map_map f b ts)

encode_is : (p : Pdu) (src : List ℕ) → encode p src ≡ put_all (row p) (line p) ++ joined (strings_of p src)
unfolding encode
encode_is p src = refl

found : (p : Pdu) (src : List ℕ) → grants p src ≡ true → parts (encode p src) (spans_of (rebased p)) ≡ strings_of p src
found p src g =
    rw (encode_is p src, spans_back p, ← string_lengths p src g)
    (parts_back (strings_of p src) (put_all (row p) (line p)) (total (row p)) (length_put (row p) (line p)))

strings_are : (p : Pdu) (b : List ℕ) → strings_of p b ≡ map (filled (kind_of p)) (parts b (spans_of p))
unfolding strings_of
strings_are p b = map_map (filled (kind_of p)) b (spans_of p)

strings_back : (p : Pdu) (src : List ℕ) → grants p src ≡ true → strings_of (rebased p) (encode p src) ≡ strings_of p src
strings_back p src g =
    strings_are (rebased p) (encode p src)
    ∙ ap (λ (k : ℕ). map (filled k) (parts (encode p src) (spans_of (rebased p)))) (kind_back p)
    ∙ ap (map (filled (kind_of p))) (found p src g)
    ∙ filled_again p src g

pub reads_back : (p : Pdu) (src : List ℕ) → grants p src ≡ true → typed p ≡ true → ReadsBack (encode p src) p src
reads_back p src g t = record { message = message_back p src g t; strings = strings_back p src g }
