use Rattle.std.proofs.Common.{rules, ◌≡◌, ℕ, ◌++◌, ◌<◌, ◌≤◌, List, drop, take, replicate, length, get_or, sym, ap, ◌∙◌, subst, arith}
use Rattle.std.proofs.lemmas.Grind.{common_steps}
use Rattle.diagram.specs.Nodes.{WellFormed}
use Rattle.packed.specs.Layout.{size_of, rest_start, rest_of, content}
use Rattle.packed.specs.Inner.{Laid}
use Rattle.packed.specs.Held.{decode_none}
use Rattle.packed.specs.Exact.{exact, laid_none, rest_same}
use Rattle.packed.proofs.PackedTable.new.Goals as goal
use Rattle.packed.proofs.PackedTable.new.Goals.{After-fill}

-- The bytes up to n, cleared.
module _ (bs part : List ℕ) (n : ℕ) (fits : n ≤ length bs) (zeros : part ≡ replicate (length (take n bs)) 0) where
  long : length (part ++ drop n bs) ≡ length bs
  long = rw zeros (grind (arith, common_steps))

  below : (i : ℕ) → i < n → get_or (part ++ drop n bs) i 0 ≡ 0
  below i l = rw zeros (grind (arith, common_steps))

  above : (i : ℕ) → n ≤ i → get_or (part ++ drop n bs) i 0 ≡ get_or bs i 0
  above i l = rw zeros (grind (arith, common_steps))

  laid : n ≡ rest_start (length bs) → 0 < size_of (length (part ++ drop n bs)) → Laid 0 (part ++ drop n bs)
  laid e = laid_none (part ++ drop n bs) (λ i h. below i (rw (long, ← e) at h))

  rest : n ≡ rest_start (length bs) → rest_of (part ++ drop n bs) ≡ rest_of bs
  rest e = rest_same bs (part ++ drop n bs) long (λ i h. above i (rw (← e) at h))

fits : (c : After-fill) → c.rest_at-end.result ≤ length c.args.buf.now
fits c = search rules

pub invariant_of-result : goal.invariant_of-result
invariant_of-result c =
    let p = (goal.at.invariant_of-result c).After-fill in
    let zeros = c.fill.ensures.after (λ y e. e) in
    record {
      room = omega arith;
      formed = ∣ subst WellFormed (sym (decode_none _)) tt ∣₁;
      laid = ∣ laid c.args.buf.now c.fill.new.self c.rest_at-end.result (fits p) zeros c.rest_at-end.ensures ∣₁;
    }

pub returns : goal.returns
returns c =
    let bs = c.args.buf.now in
    let part = c.fill.new.self in
    let n = c.rest_at-end.result in
    let p = fits (goal.at.returns c).After-fill in
    let zeros = c.fill.ensures.after (λ y e. e) in
    let l = long bs part n p zeros in
    let r = rest bs part n p zeros c.rest_at-end.ensures in
    let none = decode_none (part ++ drop n bs) in
    record {
      nodes = none;
      size = ap size_of l;
      rest = r;
      memory = exact 0 (part ++ drop n bs) (omega arith) ∣ laid bs part n p zeros c.rest_at-end.ensures ∣₁ ∙ (λ i. content (size_of (l i)) (none i) (r i));
    }
