-- Lent bytes as memory: words from 0x10000000 on, the lowest byte first. Assumes nothing.
use Rattle.std.specs.Prelude.{ℕ, zero, suc, ◌+◌, ◌-◌, ◌*◌, ◌/◌, ◌%◌, ◌^◌, min, Bool, if◌then◌else◌, ◌&&◌, List, nat_le, nat_lt, slice_index, slice_set}
use Rattle.registers.specs.Bits.{bit}

-- how many of n lent bytes are used: whole words, and at most 65,536 bytes
abbrev pub used : ℕ → ℕ
used n = min (n - n % 4) 65536

-- n used bytes have the addresses 0x10000000 to 0x10000000 + n - 1
abbrev pub owns : ℕ → ℕ → Bool
owns n a = nat_le 0x10000000 a && nat_lt a (0x10000000 + n)

-- where the byte at an address stands among them
abbrev pub offset : ℕ → ℕ
offset a = a - 0x10000000

-- the word of the four bytes from i on, the lowest first
abbrev pub word_at : List ℕ → ℕ → ℕ
word_at s i = slice_index s i + slice_index s (i + 1) * 256 + slice_index s (i + 2) * 65536 + slice_index s (i + 3) * 16777216

-- byte k of a word, the lowest being byte 0
abbrev pub byte : ℕ → ℕ → ℕ
byte k v = v / 256 ^ k % 256

-- the bytes after the first k lanes of a write of v to the word from i on: a lane that is on puts its byte of v
abbrev pub stored : List ℕ → ℕ → ℕ → ℕ → ℕ → List ℕ
stored s i v l zero = s
stored s i v l (suc k) = if bit k l then slice_set (stored s i v l k) (i + k) (byte k v) else stored s i v l k
