-- Published values of CRC-32C. Assumes nothing.
use Rattle.std.specs.Prelude.{ℕ, zero, suc, List, [], ◌∷◌, reverse, replicate, codes}
use Rattle.vectors.specs.declared.published.Vector.{Vector}
use Rattle.vectors.specs.declared.published.Vector.TheVariants.{Zeros, Ones, Rising, Falling, ReadCommand, Digits}

-- n - 1 down to 0
abbrev down : ℕ → List ℕ
down zero = []
down (suc n) = n ∷ down n

abbrev pub bytes : Vector → List ℕ
bytes Zeros = replicate 32 0
bytes Ones = replicate 32 0xFF
bytes Rising = reverse (down 32)
bytes Falling = down 32
bytes ReadCommand =
    0x01 ∷ 0xC0 ∷ 0x00 ∷ 0x00
    ∷ 0x00 ∷ 0x00 ∷ 0x00 ∷ 0x00
    ∷ 0x00 ∷ 0x00 ∷ 0x00 ∷ 0x00
    ∷ 0x00 ∷ 0x00 ∷ 0x00 ∷ 0x00
    ∷ 0x14 ∷ 0x00 ∷ 0x00 ∷ 0x00
    ∷ 0x00 ∷ 0x00 ∷ 0x04 ∷ 0x00
    ∷ 0x00 ∷ 0x00 ∷ 0x00 ∷ 0x14
    ∷ 0x00 ∷ 0x00 ∷ 0x00 ∷ 0x18
    ∷ 0x28 ∷ 0x00 ∷ 0x00 ∷ 0x00
    ∷ 0x00 ∷ 0x00 ∷ 0x00 ∷ 0x00
    ∷ 0x02 ∷ 0x00 ∷ 0x00 ∷ 0x00
    ∷ 0x00 ∷ 0x00 ∷ 0x00 ∷ 0x00 ∷ []
bytes Digits = codes "123456789"

abbrev pub published : Vector → ℕ
published Zeros = 0x8A9136AA
published Ones = 0x62A8AB43
published Rising = 0x46DD794E
published Falling = 0x113FDB5C
published ReadCommand = 0xD9963A56
published Digits = 0xE3069283
