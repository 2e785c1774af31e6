use Rattle.std.proofs.Common.{rules, ◌≡◌, ℕ, ◌+◌, ◌<◌, ◌≤◌, List, length, get_or, ap, ◌∙◌, arith}
use Rattle.std.proofs.lemmas.Grind.{common_steps}
use borrow.Rule.Slice.PartMut.{put_mid}
use Rattle.packed.specs.Layout.{node_bytes, slot_start}
use Rattle.packed.proofs.Bytes.put_slot.Goals as goal

-- What was written into a part of a list is read there.
part_at : (bs ys : List ℕ) (a k j : ℕ) → a ≤ length bs → j < length ys → get_or (put_mid a k bs ys) (a + j) 0 ≡ get_or ys j 0
part_at bs ys a k j p q = grind (arith, common_steps)

pub returns-clause-slot : goal.returns-clause-slot
returns-clause-slot c j l =
    let p = slot_start c.args.k in
    let r = c.requires in
    let e : c.copy_from_slice.new.self ≡ node_bytes c.args.node c.args.link = search rules in
    part_at c.args.self.now.buf.now c.copy_from_slice.new.self p _ j (omega arith) (omega (arith, ap length e)) ∙ ap (λ (xs : List ℕ). get_or xs j 0) e
