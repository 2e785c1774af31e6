use Rattle.std.proofs.Common.{◌≡◌, ℕ, ◌+◌, ◌-◌, length, drop, ap, ◌∙◌, arith}
use Rattle.std.proofs.lemmas.List.{drop-drop}
use Rattle.packed.specs.Layout.{size_of, decode}
use Rattle.packed.specs.Held.{decode_length}
use Rattle.packed.proofs.PackedTableNodeTable.truncate.Goals as goal

pub loop-self-preserved : goal.loop-self-preserved
loop-self-preserved c =
    let t = c.args.self.now in
    let ns = decode t.held t.bytes.buf.now in
    let s = c.loop-self.self in
    let i = c.loop-self.invariant in
    let p = c.pop.ensures in
    let h = p.held in
    let m = i.3 in
    let l = i.4 in
    let q = c.loop-self-test.true in
    let one : (t.held - s.held) + 1 ≡ t.held - c.pop.new.self.held = omega arith in (
      p.nodes ∙ (ap (drop 1) i.0 ∙ (drop-drop 1 (t.held - s.held) ns ∙ ap (λ (k : ℕ). drop k ns) one)),
      p.length ∙ i.1,
      p.rest ∙ i.2,
      omega arith,
      omega arith,
    )

pub returns : goal.returns
returns c =
    let t = c.args.self.now in
    let ns = decode t.held t.bytes.buf.now in
    let s = c.loop-self.self in
    let i = c.loop-self.invariant in
    let e = decode_length t.held t.bytes.buf.now in
    let m = i.3 in
    let l = i.4 in
    let q = c.loop-self-test.false in
    let all : t.held - s.held ≡ length ns - c.args.count = omega arith in
    record {
      nodes = i.0 ∙ ap (λ (k : ℕ). drop k ns) all;
      room = record { size = ap size_of i.1; rest = i.2 };
    }
