-- Ids with a new mark have not stood; with a mark that is known they can only have stood from its first slot on.
use Rattle.std.proofs.Common.{◌*◌, ◌+◌, ◌-◌, ◌∙◌, ◌≡◌, arith, get_or, refl, sym}
use Rattle.slots.proofs.Ways.{found_is}
use Rattle.slots.proofs.Once.{first_lent, second_lent, used_lent, slot_free, none_used, slot_high, first_seen, told_by_search, seen_free, seen_set}
use Rattle.slots.specs.Slots.{used_at, first_id, second_id, is_at}
use Rattle.wire.proofs.Tests.{never}
use Rattle.slots.proofs.sound.slot_ok.Goals as goal

pub returns-then-used-ne1 : goal.returns-then-used-ne1
returns-then-used-ne1 c =
    let a = c.args in
    let x = a.index.now in
    let e = used_lent x a.i in
    record {
      value = slot_free x a.first a.count a.top a.i e c.is_free.ensures c.if-used-ne1.true;
      seen_2 = λ t. seen_free a.seen.now x a.first a.i c.requires.seen (none_used x a.first a.count a.top a.i e c.is_free.ensures t);
    }

pub returns-then-top-b : goal.returns-then-top-b
returns-then-top-b c =
    let second_id_lem : c.read_u32-b.result ≡ second_id c.args.index.now c.args.i = (let a = c.args in second_lent a.index.now a.i (157 + 9 * a.i + 9 - (157 + 9 * a.i)) (omega arith) c.read_u32-b.ensures) in
    let a = c.args in
    let x = a.index.now in
    record {
      value = slot_high x a.first a.count a.top a.i (used_lent x a.i) c.if-used-ne1.false (second_id_lem) c.if-top-b.true;
      seen_2 = λ t. never t;
    }

pub returns-then-seen-m-eq0 : goal.returns-then-seen-m-eq0
returns-then-seen-m-eq0 c =
    let first_id_lem : c.read_u32-a.result ≡ first_id c.args.index.now c.args.i = (let a = c.args in first_lent a.index.now a.i (157 + 9 * a.i + 9 - (157 + 9 * a.i)) (omega arith) c.read_u32-a.ensures) in
    let second_id_lem : c.read_u32-b.result ≡ second_id c.args.index.now c.args.i = (let a = c.args in second_lent a.index.now a.i (157 + 9 * a.i + 9 - (157 + 9 * a.i)) (omega arith) c.read_u32-b.ensures) in
    let listed : used_at c.args.index.now c.args.i ≡ 1 = (let a = c.args in sym (used_lent a.index.now a.i) ∙ c.if-used-ne1.false) in
    let a = c.args in
    let x = a.index.now in
    let q = c.requires.count_bound in record {
      value = first_seen a.seen.now x a.first a.i c.requires.seen q.1 (listed) (first_id_lem) (second_id_lem) c.mark-m.ensures.0 a.count a.top q.2 c.if-top-b.false c.if-seen-m-eq0.true;
      seen_2 = λ t. seen_set a.seen.now x a.first a.i c.requires.seen q.1 (listed) (first_id_lem) (second_id_lem) c.mark-m.ensures.0 c.if-seen-m-eq0.true c.mark-m.ensures.1;
    }

pub overflow_cast-from : goal.overflow_cast-from
overflow_cast-from c =
    let w = c.requires.seen.within c.mark-m.result c.if-seen-m-eq0.false in
    omega (arith, w.1, c.requires.count_bound.0, c.requires.count_bound.2)

pub overflow_sub-from : goal.overflow_sub-from
overflow_sub-from c =
    let w = c.requires.seen.within c.mark-m.result c.if-seen-m-eq0.false in
    omega (arith, w.0)

pub overflow_sub-i : goal.overflow_sub-i
overflow_sub-i c =
    let w = c.requires.seen.within c.mark-m.result c.if-seen-m-eq0.false in
    omega (arith, w.1)

pub search-requires : goal.search-requires
search-requires c =
    let w = c.requires.seen.within c.mark-m.result c.if-seen-m-eq0.false in
    (omega (arith, w.1, c.requires.count_bound.0, c.requires.count_bound.2), c.requires.count_bound.3)

pub returns : goal.returns
returns c =
    let a = c.args in
    let x = a.index.now in
    let q = c.requires.count_bound in
    let from = get_or a.seen.now c.mark-m.result 0 - 1 in
    let first_id_lem : c.read_u32-a.result ≡ first_id x a.i = first_lent x a.i (157 + 9 * a.i + 9 - (157 + 9 * a.i)) (omega arith) c.read_u32-a.ensures in
    let second_id_lem : c.read_u32-b.result ≡ second_id x a.i = second_lent x a.i (157 + 9 * a.i + 9 - (157 + 9 * a.i)) (omega arith) c.read_u32-b.ensures in
    let listed : used_at x a.i ≡ 1 = sym (used_lent x a.i) ∙ c.if-used-ne1.false in
    let r = told_by_search a.seen.now x a.first a.i c.requires.seen q.1 listed first_id_lem second_id_lem c.mark-m.ensures.0 c.if-seen-m-eq0.false a.count a.top q.2 c.if-top-b.false c.search.result.found
    (found_is (is_at x c.read_u32-a.result c.read_u32-b.result) from (a.i - from) c.search.ensures refl) c.is_none.ensures in
    record { value = r.0; seen_2 = r.1 }
