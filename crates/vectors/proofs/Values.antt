-- The definition gives the published values, by computation. Assumes nothing.
use Rattle.std.proofs.Common.{◌≡◌, refl}
use Rattle.crc.specs.Crc.{bit_step, byte_step, crc_of}
use Rattle.vectors.specs.declared.published.Vector.{Vector}
use Rattle.vectors.specs.declared.published.Vector.TheVariants.{Zeros, Ones, Rising, Falling, ReadCommand, Digits}
use Rattle.vectors.specs.Published.{bytes, published}

pub value : (v : Vector) → crc_of (bytes v) ≡ published v
unfolding bit_step byte_step
value Zeros = refl
value Ones = refl
value Rising = refl
value Falling = refl
value ReadCommand = refl
value Digits = refl
