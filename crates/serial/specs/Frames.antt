-- A whole upload, and what a bridge makes of it. Assumes nothing.
use Rattle.std.specs.Prelude.{◌≡◌, ℕ, ◌+◌, ◌*◌, ◌/◌, ◌%◌, ◌^◌, ◌<◌, ◌≤◌, List, [], ◌∷◌, ◌++◌, length, replicate, ◌≢◌, fold}
use Rattle.serial.specs.declared.bridge.Bridge.{Bridge}
use Rattle.serial.specs.declared.bridge.Bridge.TheVariants.{Stopped}
use Rattle.crc.specs.Crc.{crc_of}
use Rattle.serial.specs.Upload.{Answer, nothing, write, reply, aligned_down, after, answer}

-- ---- the bytes

-- a field: the four bytes of a word, the lowest first
abbrev pub bytes_of : ℕ → List ℕ
bytes_of w = w % 256 ∷ w / 256 % 256 ∷ w / 65536 % 256 ∷ w / 16777216 % 256 ∷ []

abbrev pub word_bytes : List ℕ → List ℕ
word_bytes [] = []
word_bytes (w ∷ ws) = bytes_of w ++ word_bytes ws

-- a frame: the address, the count, the words, and what is sent as their CRC
abbrev pub frame : ℕ → List ℕ → ℕ → List ℕ
frame a ws check = bytes_of a ++ (bytes_of (length ws) ++ (word_bytes ws ++ bytes_of check))

-- each is a word of 32 bits
abbrev pub Words : List ℕ → Type 0
Words [] = Unit {0}
Words (w ∷ ws) = (w < 2 ^ 32) × Words ws

-- ---- the bytes one after another

abbrev pub after_all : Bridge → List ℕ → Bridge
after_all = fold after

abbrev pub answers : Bridge → List ℕ → List Answer
answers s [] = []
answers s (byte ∷ bytes) = answer s byte ∷ answers (after s byte) bytes

-- ---- the answers

abbrev pub silent : ℕ → List Answer
silent n = replicate n nothing

-- a field is answered at its fourth byte
abbrev pub at_fourth : Answer → List Answer
at_fourth x = nothing ∷ nothing ∷ nothing ∷ x ∷ []

-- the words at consecutive addresses
abbrev pub writes : ℕ → List ℕ → List Answer
writes a [] = []
writes a (w ∷ ws) = at_fourth (write a w) ++ writes (a + 4) ws

-- the address and the count are answered with nothing, each word is asked for, and the CRC is answered
abbrev pub uploaded : ℕ → List ℕ → ℕ → List Answer
uploaded a ws byte = silent 8 ++ (writes (aligned_down a) ws ++ at_fourth (reply byte))

-- ---- the laws

-- A frame that fits memory asks for its words, each at its address, and for nothing else. The answer to its last byte
-- tells whether the CRC that was sent is that of the words, and then the bridge is as it was.
pub record Taken (s : Bridge) (a : ℕ) (ws : List ℕ) (check : ℕ) : Type 0 where
  pub accepted : check ≡ crc_of (word_bytes ws) → answers s (frame a ws check) ≡ uploaded a ws 0x59
  pub damaged : (check ≢ crc_of (word_bytes ws)) → answers s (frame a ws check) ≡ uploaded a ws 0x23
  pub again : after_all s (frame a ws check) ≡ s

unfoldable pub TakesFrames : Bridge → Type 0
TakesFrames s =
    (a : ℕ) (ws : List ℕ) (check : ℕ) → a < 2 ^ 32 → Words ws → check < 2 ^ 32
    → aligned_down a + 4 * length ws ≤ 2 ^ 32 → Taken s a ws check

-- A frame that runs past the end of memory, after the words ws, asks for those. The next word is refused at its last
-- byte, and the bridge is stopped: the rest of the frame is not answered.
pub record Ended (s : Bridge) (a : ℕ) (ws : List ℕ) (w : ℕ) (more : List ℕ) (check : ℕ) : Type 0 where
  pub refused : answers s (frame a (ws ++ w ∷ more) check)
      ≡ silent 8 ++ (writes (aligned_down a) ws ++ (at_fourth (reply 0xE0) ++ silent (length (word_bytes more ++ bytes_of check))))
  pub stopped : after_all s (frame a (ws ++ w ∷ more) check) ≡ Stopped

unfoldable pub StopsAtEnd : Bridge → Type 0
StopsAtEnd s =
    (a : ℕ) (ws : List ℕ) (w : ℕ) (more : List ℕ) (check : ℕ) → a < 2 ^ 32 → Words ws
    → length (ws ++ w ∷ more) < 2 ^ 32 → aligned_down a + 4 * length ws ≡ 2 ^ 32 → Ended s a ws w more check
