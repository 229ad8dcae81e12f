-- What a fresh bridge makes of a frame, field by field. Assumes nothing.
use Rattle.std.proofs.Common.{◌≡◌, ℕ, ◌+◌, ◌*◌, ◌/◌, ◌%◌, ◌^◌, ◌<◌, ◌≤◌, if◌then◌else◌, ◌==◌, List, [], ◌∷◌, ◌++◌, length, Some, None, refl, ap, ◌∙◌, append-nil, arith}
use Rattle.std.proofs.lemmas.Bool.Decides.{nat_tests}
use Rattle.serial.specs.declared.bridge.Bridge.TheVariants.{Stopped}
use Rattle.crc.specs.declared.Crc32c.{Crc32c}
use Rattle.crc.specs.Crc.{no_bytes, updated_by, crc_of}
use Rattle.serial.specs.Upload.{nothing, write, after, answer, aligned_down, in_memory, fresh, expecting}
use Rattle.serial.specs.Frames.{bytes_of, word_bytes, frame, Words, after_all, answers, silent, at_fourth, writes, uploaded, TakesFrames, StopsAtEnd}

-- ---- a field

-- four bytes through the shift register
abbrev through : ℕ → ℕ → ℕ → ℕ → ℕ
through p q r s = (((0 + p * 0x1000000) / 256 + q * 0x1000000) / 256 + r * 0x1000000) / 256 + s * 0x1000000

-- they are the word
assembled : (w : ℕ) → w < 2 ^ 32 → through (w % 256) (w / 256 % 256) (w / 65536 % 256) (w / 16777216 % 256) ≡ w
assembled w h = omega arith

-- ---- the words

in_memory_lem : (a : ℕ) → a < 2 ^ 32 → in_memory a ≡ Some a
in_memory_lem a h = grind arith

past_memory : (a : ℕ) → 2 ^ 32 ≤ a → in_memory a ≡ None
past_memory a h = grind arith

-- the words ws, with more to come
words_after : (ws more : List ℕ) (a : ℕ) (c : Crc32c) (rest : List ℕ) → a + 4 * length ws ≤ 2 ^ 32
    → after_all (expecting (in_memory a) (length (ws ++ more)) c) (word_bytes ws ++ rest)
    ≡ after_all (expecting (in_memory (a + 4 * length ws)) (length more) (updated_by c (word_bytes ws))) rest
unfolding after
words_after [] more a c rest h = grind arith
words_after (w ∷ ws) more a c rest h =
    let e : (a + 4) + 4 * length ws ≡ a + 4 * length (w ∷ ws) = omega arith in
    rw (in_memory_lem a (omega arith), ← e) (words_after ws more (a + 4) (updated_by c (bytes_of w)) rest (omega arith))

words_answers : (ws more : List ℕ) (a : ℕ) (c : Crc32c) (rest : List ℕ) → Words ws → a + 4 * length ws ≤ 2 ^ 32
    → answers (expecting (in_memory a) (length (ws ++ more)) c) (word_bytes ws ++ rest)
    ≡ writes a ws ++ answers (expecting (in_memory (a + 4 * length ws)) (length more) (updated_by c (word_bytes ws))) rest
unfolding after answer
words_answers [] more a c rest f h = grind arith
words_answers (w ∷ ws) more a c rest f h =
    let e : (a + 4) + 4 * length ws ≡ a + 4 * length (w ∷ ws) = omega arith in
    rw (in_memory_lem a (omega arith), assembled w f.0, ← e)
    (ap (λ l. at_fourth (write a w) ++ l) (words_answers ws more (a + 4) (updated_by c (bytes_of w)) rest f.1 (omega arith)))

-- ---- the frame

-- the address and the count
opened_after : (a n : ℕ) (rest : List ℕ) → a < 2 ^ 32 → n < 2 ^ 32
    → after_all fresh (bytes_of a ++ (bytes_of n ++ rest)) ≡ after_all (expecting (in_memory (aligned_down a)) n no_bytes) rest
unfolding after
opened_after a n rest h k = rw (assembled a h, assembled n k, in_memory_lem (aligned_down a) (omega arith))

opened_answers : (a n : ℕ) (rest : List ℕ) → a < 2 ^ 32 → n < 2 ^ 32
    → answers fresh (bytes_of a ++ (bytes_of n ++ rest)) ≡ silent 8 ++ answers (expecting (in_memory (aligned_down a)) n no_bytes) rest
unfolding after answer
opened_answers a n rest h k = rw (assembled a h, assembled n k, in_memory_lem (aligned_down a) (omega arith))

no_more : (ws : List ℕ) → length ws ≡ length (ws ++ [])
no_more ws = grind (arith, append-nil)

module _ (a : ℕ) (ws : List ℕ) (check : ℕ) (ha : a < 2 ^ 32) (hn : length ws < 2 ^ 32) (room : aligned_down a + 4 * length ws ≤ 2 ^ 32) where
  framed_after : after_all fresh (frame a ws check) ≡ fresh
  unfolding after
  framed_after =
      opened_after a (length ws) (word_bytes ws ++ bytes_of check) ha hn
      ∙ rw (no_more ws) (words_after ws [] (aligned_down a) no_bytes (bytes_of check) room)

  framed_answers : Words ws → check < 2 ^ 32
      → answers fresh (frame a ws check) ≡ uploaded a ws (if check == crc_of (word_bytes ws) then 0x59 else 0x23)
  unfolding after answer
  framed_answers hw hc =
      opened_answers a (length ws) (word_bytes ws ++ bytes_of check) ha hn
      ∙ rw (no_more ws) (ap (λ l. silent 8 ++ l) (words_answers ws [] (aligned_down a) no_bytes (bytes_of check) hw room ∙ rw (assembled check hc)))

pub takes_frames : TakesFrames fresh
unfolding TakesFrames
takes_frames a ws check ha hw hc room =
    let hn : length ws < 2 ^ 32 = omega arith in
    let e = framed_answers a ws check ha hn room hw hc in
    record {
      accepted = λ q. e ∙ ap (uploaded a ws) (grind (arith, nat_tests));
      damaged = λ q. e ∙ ap (uploaded a ws) (grind (arith, nat_tests));
      again = framed_after a ws check ha hn room;
    }

-- ---- the end of memory

stopped_after : (rest : List ℕ) → after_all Stopped rest ≡ Stopped
unfolding after
stopped_after [] = refl
stopped_after (byte ∷ bytes) = stopped_after bytes

stopped_answers : (rest : List ℕ) → answers Stopped rest ≡ silent (length rest)
unfolding after answer
stopped_answers [] = refl
stopped_answers (byte ∷ bytes) = ap (λ l. nothing ∷ l) (stopped_answers bytes)

-- the bytes of the words, and of more words
split : (ws more rest : List ℕ) → word_bytes (ws ++ more) ++ rest ≡ word_bytes ws ++ (word_bytes more ++ rest)
split [] more rest = refl
split (w ∷ ws) more rest = grind (arith, split ws more rest)

pub stops_at_end : StopsAtEnd fresh
unfolding after answer StopsAtEnd
stops_at_end a ws w more check ha hw hn room =
    let all = ws ++ w ∷ more in
    let rest = word_bytes more ++ bytes_of check in
    let end = aligned_down a + 4 * length ws in
    let none : in_memory end ≡ None = past_memory end (omega arith) in
    record {
      refused =
          opened_answers a (length all) (word_bytes all ++ bytes_of check) ha hn
          ∙ rw (split ws (w ∷ more) (bytes_of check))
          (ap (λ l. silent 8 ++ l) (words_answers ws (w ∷ more) (aligned_down a) no_bytes (bytes_of w ++ rest) hw (omega arith) ∙ rw (none, stopped_answers rest)));
      stopped =
          opened_after a (length all) (word_bytes all ++ bytes_of check) ha hn
          ∙ rw (split ws (w ∷ more) (bytes_of check))
          (words_after ws (w ∷ more) (aligned_down a) no_bytes (bytes_of w ++ rest) (omega arith) ∙ rw (none, stopped_after rest));
    }
