-- `text::write::write_bytes` copies the bytes to their place. Assumes nothing.
use mathlib.Core.Path.{refl}
use Rattle.text.proofs.Writing.{copied_over}
use Rattle.text.proofs.write.write_bytes.Goals as goal

pub returns : goal.returns
returns c = (refl, copied_over _ _ _ _ c.copy_from_slice.ensures.after c.requires)
