-- The tests of the code in the words of the definitions. Assumes nothing.
use mathlib.Core.Path.{◌≡◌, refl, sym, ap, ◌∙◌}
use mathlib.Core.Bool.{Bool, true, false, not, ◌&&◌, ◌||◌}
use mathlib.Core.List.{List, [], ◌∷◌}
use Prim.Native.Nat.{ℕ, ◌+◌, ◌-◌, ◌≤◌, ◌<◌}
use native.Mathlib.Omega.{arith}
use lib.ListN.{length}
use lib.Dec.{eqb, leb, ltb}
use borrow.Author.Tests.{ltb-true, ltb-false, le-leb, lt-leb, eqb-true, eq-eqb, ne_eqb}
use Rattle.wire.specs.Tests.{both, either, any, has}
use Rattle.chunk.specs.Chunk.{most, head_size, flag_first, flag_last, compressed, total_in, flags_in}
use Rattle.chunk.specs.Memory.{memory_size, total_at, got_at, well_formed, fit, start_at, end_at, refuses_at}

-- not first with nothing begun: the total is 0 or differs from the 0 begun, so that this test is one too many
one_less : (x over past short : Bool) (t b : ℕ)
    → any (x ∷ eqb t 0 ∷ over ∷ not (eqb t b) ∷ past ∷ short ∷ []) ≡ any (x ∷ eqb b 0 ∷ eqb t 0 ∷ over ∷ not (eqb t b) ∷ past ∷ short ∷ [])
one_less x over past short t b = go (eqb b 0) refl
  where
    begun : (a y : Bool) → any (a ∷ y ∷ over ∷ not (eqb t b) ∷ past ∷ short ∷ []) ≡ any (a ∷ false ∷ y ∷ over ∷ not (eqb t b) ∷ past ∷ short ∷ [])
    begun true y = refl
    begun false y = refl

    nothing : (a y o : Bool) → any (a ∷ y ∷ o ∷ not y ∷ past ∷ short ∷ []) ≡ any (a ∷ true ∷ y ∷ o ∷ not y ∷ past ∷ short ∷ [])
    nothing true y o = refl
    nothing false true o = refl
    nothing false false true = refl
    nothing false false false = refl

    go : (z : Bool) → eqb b 0 ≡ z → any (x ∷ eqb t 0 ∷ over ∷ not (eqb t b) ∷ past ∷ short ∷ []) ≡ any (x ∷ z ∷ eqb t 0 ∷ over ∷ not (eqb t b) ∷ past ∷ short ∷ [])
    go true e = let n : b ≡ 0 = eqb-true b 0 e in rw n (nothing x (eqb t 0) over)
    go false e = begun x (eqb t 0)

-- two numbers differ where one of them is the less
differ : (a b : ℕ) → not (eqb a b) ≡ either (ltb b a) (ltb a b)
differ a b = go (ltb b a) (ltb a b) refl refl
  where
    go : (over under : Bool) → ltb b a ≡ over → ltb a b ≡ under → not (eqb a b) ≡ either over under
    go true under o u = rw (ne_eqb a b (omega (arith, ltb-true b a o)))
    go false true o u = rw (ne_eqb a b (omega (arith, ltb-true a b u)))
    go false false o u = rw (eq-eqb a b (omega (arith, ltb-false b a o, ltb-false a b u)))

-- the tests of a message in one chunk, of another first chunk and of a later one beside those of the definition
module _ (zero over : Bool) where
  in_one : (past short last pressed : Bool) → last && not pressed ≡ true
      → either zero over || either past short ≡ any (pressed ∷ false ∷ zero ∷ over ∷ false ∷ past ∷ both last short ∷ [])
  in_one past short true false w = go zero over
    where
      go : (z o : Bool) → either z o || either past short ≡ any (false ∷ false ∷ z ∷ o ∷ false ∷ past ∷ short ∷ [])
      go true o = refl
      go false true = refl
      go false false = refl
  in_one past short true true w = cc
  in_one past short false pressed w = cc

  in_first : (past short last pressed : Bool) → last && not pressed ≡ false
      → (pressed || either zero over) || past ≡ any (pressed ∷ false ∷ zero ∷ over ∷ false ∷ past ∷ both last short ∷ [])
  in_first past short last true w = refl
  in_first past short true false w = cc
  in_first past short false false w = go zero over past
    where
      go : (z o p : Bool) → either z o || p ≡ any (false ∷ false ∷ z ∷ o ∷ false ∷ p ∷ false ∷ [])
      go true o p = refl
      go false true p = refl
      go false false true = refl
      go false false false = refl

  in_later : (differs past short pressed : Bool)
      → (((pressed || either zero over) || differs) || past) || short ≡ any (pressed ∷ zero ∷ over ∷ differs ∷ past ∷ short ∷ [])
  in_later differs past short true = refl
  in_later differs past short false = refl

module _ (mem : List ℕ) where
  pub unfit_short : length mem < memory_size → false ≡ fit mem
  unfolding fit
  unfit_short h = rw (lt-leb memory_size (length mem) h)

  module _ (h : memory_size ≤ length mem) (t : ℕ) (et : t ≡ total_at mem) where
    pub unfit_over : most < t → false ≡ fit mem
    unfolding fit well_formed
    unfit_over o = let e : leb (total_at mem) most ≡ false = ap (λ (x : ℕ). leb x most) (sym et) ∙ lt-leb t most o in rw (le-leb memory_size (length mem) h, e)

    pub fit_is : t ≤ most → (g : ℕ) → g ≡ got_at mem → leb g t ≡ fit mem
    unfolding fit well_formed
    fit_is o g eg =
        let e : leb (total_at mem) most ≡ true = ap (λ (x : ℕ). leb x most) (sym et) ∙ le-leb t most o in
        rw (le-leb memory_size (length mem) h, e, et, eg)

  module _ (chunk : List ℕ) (flags : ℕ) (ef : flags ≡ flags_in chunk) where
    pub start_first : (b : Bool) → b ≡ has flags flag_first → b ≡ true → 0 ≡ start_at mem chunk
    start_first b eb t = let f : has (flags_in chunk) flag_first ≡ true = ap (λ (x : ℕ). has x flag_first) (sym ef) ∙ sym eb ∙ t in rw f

    pub start_later : (b : Bool) (g : ℕ) → b ≡ has flags flag_first → b ≡ false → g ≡ got_at mem → g ≡ start_at mem chunk
    start_later b g eb t eg = let f : has (flags_in chunk) flag_first ≡ false = ap (λ (x : ℕ). has x flag_first) (sym ef) ∙ sym eb ∙ t in rw f eg

    -- refusal 16 by the tests of the code: on the total, the flags and whether the total is of no message
    module _ (total : ℕ) (first last pressed outside : Bool) (et : total ≡ total_in chunk) (e1 : first ≡ has flags flag_first) (el : last ≡ has flags flag_last)
        (ec : pressed ≡ has flags compressed) (eo : outside ≡ either (eqb total 0) (ltb most total)) where
      first_is : (b : Bool) → first ≡ b → has (flags_in chunk) flag_first ≡ b
      first_is b t = ap (λ (x : ℕ). has x flag_first) (sym ef) ∙ sym e1 ∙ t

      last_is : has (flags_in chunk) flag_last ≡ last
      last_is = ap (λ (x : ℕ). has x flag_last) (sym ef) ∙ sym el

      pressed-is : has (flags_in chunk) compressed ≡ pressed
      pressed-is = ap (λ (x : ℕ). has x compressed) (sym ef) ∙ sym ec

      outside-is : outside ≡ either (eqb (total_in chunk) 0) (ltb most (total_in chunk))
      outside-is = eo ∙ ap (λ (x : ℕ). either (eqb x 0) (ltb most x)) et

      -- the data of a first chunk starts the message
      ends : first ≡ true → end_at mem chunk ≡ length chunk - head_size
      ends t = omega (arith, start_first first e1 t)

      pub refuses_one : first ≡ true → last && not pressed ≡ true → outside || not (eqb (length chunk - head_size) total) ≡ refuses_at mem chunk
      unfolding refuses_at
      refuses_one t w =
          rw (ends t, first_is true t, last_is, pressed-is, outside-is, et, differ (length chunk - head_size) (total_in chunk))
          (in_one (eqb (total_in chunk) 0) (ltb most (total_in chunk)) (ltb (total_in chunk) (length chunk - head_size)) (ltb (length chunk - head_size) (total_in chunk)) last pressed w)

      pub refuses_first : first ≡ true → last && not pressed ≡ false → (again : Bool) → again ≡ has flags compressed
          → (again || outside) || ltb total (length chunk - head_size) ≡ refuses_at mem chunk
      unfolding refuses_at
      refuses_first t w again ea =
          rw (ends t, first_is true t, last_is, pressed-is, ea ∙ sym ec, outside-is, et)
          (in_first (eqb (total_in chunk) 0) (ltb most (total_in chunk)) (ltb (total_in chunk) (length chunk - head_size)) (ltb (length chunk - head_size) (total_in chunk)) last pressed w)

      pub refuses_later : first ≡ false → (begun got : ℕ) → begun ≡ total_at mem → got ≡ got_at mem
          → (((pressed || outside) || not (eqb total begun)) || ltb total (got + (length chunk - head_size))) || (last && ltb (got + (length chunk - head_size)) total) ≡ refuses_at mem chunk
      unfolding refuses_at
      refuses_later t begun got eb eg =
          let past = ltb (total_in chunk) (got_at mem + (length chunk - head_size)) in
          let short = both last (ltb (got_at mem + (length chunk - head_size)) (total_in chunk)) in
          rw (first_is false t, last_is, pressed-is, outside-is, et, eb, eg)
          (in_later (eqb (total_in chunk) 0) (ltb most (total_in chunk)) (not (eqb (total_in chunk) (total_at mem))) past short pressed
          ∙ one_less pressed (ltb most (total_in chunk)) past short (total_in chunk) (total_at mem))
