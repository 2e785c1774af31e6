use Rattle.std.proofs.Common.{◌+◌, ◌-◌, ◌++◌, length, take, refl, ap, ◌∙◌, arith}
use Rattle.std.proofs.lemmas.Slice.{take-put_mid, drop-put_mid}
use Rattle.decimal.specs.Put.{Put}
use Rattle.decimal.proofs.Putting.{put_long}
use Rattle.decimal.proofs.outputs.Output.bytes.Goals as goal

pub returns : goal.returns
returns c =
    let o = c.args.self.now in
    let old = o.run.now in
    let bytes = c.args.bytes.now in
    let end = o.at + length bytes in
    let copied = c.copy_from_slice.ensures.after in
    let long = ap length copied in
    let put : Put bytes o.at old _ end = record {
      value = refl;
      wrote = take-put_mid o.at (end - o.at) old c.copy_from_slice.new.self end (omega (arith, long)) (omega (arith, c.requires)) ∙ ap (λ z. take o.at old ++ z) copied;
      kept = drop-put_mid o.at (end - o.at) old c.copy_from_slice.new.self end (omega arith) (omega (arith, c.requires)) (omega (arith, long));
    } in
    record { lent = refl; long = put_long bytes old _ o.at end c.requires put; put = put }
