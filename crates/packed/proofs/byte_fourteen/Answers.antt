use Rattle.packed.specs.Layout.{content, head_bytes, slot_bytes, newest}
use Rattle.packed.proofs.byte_fourteen.Goals as goal

pub returns : goal.returns
unfolding content head_bytes slot_bytes newest
returns c = record { value = c.handle_at.ensures; byte = c.handle_at.ensures }
