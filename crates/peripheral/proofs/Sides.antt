-- What a pair's rules give at the states of its two sides. Assumes nothing.
use Rattle.std.proofs.Common.{◌≡◌, ℕ, zero, suc, min, true, false, List, ◌++◌, length, refl, arith, take_at, drop_at, bit_or}
use Rattle.registers.specs.Address.{word_address}
use Rattle.peripheral.specs.Model.{Model, Keeps, Quiet, steps, union, clocks, raises}
use Rattle.peripheral.specs.Bus.{read_at, write_at, done, kept}
use Rattle.peripheral.specs.Pair.{pair, first_part, second_part}
use Rattle.peripheral.proofs.Reached.{done_mapped, left_mapped}
use Rattle.peripheral.proofs.Or.{or_cross}
use Rattle.peripheral.proofs.Steps.{clocks_sized}

module _ (m n : Model) (s t : List ℕ) (h : length s ≡ m.size) where
  first_part_lem : first_part m (s ++ t) ≡ s
  first_part_lem = take_at s t m.size h

  second_part_lem : second_part m (s ++ t) ≡ t
  second_part_lem = drop_at s t m.size h

  module _ (a : ℕ) (e : m.claims (word_address a) ≡ true) where
    pub read_first : read_at (pair m n) (s ++ t) a ≡ read_at m s a
    read_first = rw (e, first_part_lem)

    pub done_first : (v l : ℕ) → done (write_at (pair m n) (s ++ t) a v l) ≡ done (write_at m s a v l)
    done_first v l = rw (e, first_part_lem, second_part_lem) (done_mapped (λ u. u ++ t) a true (m.write s (word_address a) v l))

    pub kept_first : (v l : ℕ) → kept (s ++ t) (write_at (pair m n) (s ++ t) a v l) ≡ kept s (write_at m s a v l) ++ t
    kept_first v l = rw (e, first_part_lem, second_part_lem) (left_mapped (λ u. u ++ t) a s true (m.write s (word_address a) v l))

  module _ (a : ℕ) (e : m.claims (word_address a) ≡ false) where
    pub read_second : read_at (pair m n) (s ++ t) a ≡ read_at n t a
    read_second = rw (e, second_part_lem)

    pub done_second : (v l : ℕ) → done (write_at (pair m n) (s ++ t) a v l) ≡ done (write_at n t a v l)
    done_second v l = rw (e, first_part_lem, second_part_lem) (done_mapped (λ u. s ++ u) a (n.claims (word_address a)) (n.write t (word_address a) v l))

    pub kept_second : (v l : ℕ) → kept (s ++ t) (write_at (pair m n) (s ++ t) a v l) ≡ s ++ kept t (write_at n t a v l)
    kept_second v l = rw (e, first_part_lem, second_part_lem) (left_mapped (λ u. s ++ u) a t (n.claims (word_address a)) (n.write t (word_address a) v l))

  pub feed_pair : (i v : ℕ) → (pair m n).feed (s ++ t) i v ≡ m.feed s i v ++ n.feed t i v
  feed_pair i v = rw (first_part_lem, second_part_lem)

  pub clock_pair : (pair m n).clock (s ++ t) ≡ m.clock s ++ n.clock t
  clock_pair = rw (first_part_lem, second_part_lem)

  pub raised_pair : (pair m n).raised (s ++ t) ≡ bit_or (m.raised s) (n.raised t)
  raised_pair = rw (first_part_lem, second_part_lem)

  pub outputs_pair : (pair m n).outputs (s ++ t) ≡ m.outputs s ++ n.outputs t
  outputs_pair = rw (first_part_lem, second_part_lem)

  pub reset_pair : (pair m n).reset (s ++ t) ≡ m.reset s ++ n.reset t
  reset_pair = rw (first_part_lem, second_part_lem)

-- many clocks
module _ (m n : Model) (p : Keeps m) (q : Keeps n) where
  pub clocks_pair : (k : ℕ) (s t : List ℕ) → length s ≡ m.size → length t ≡ n.size → clocks (pair m n) k (s ++ t) ≡ clocks m k s ++ clocks n k t
  unfolding steps
  clocks_pair zero s t h j = refl
  clocks_pair (suc k) s t h j =
      grind (arith, clock_pair m n s t h, clocks_pair k (m.clock s) (n.clock t) (p.clock s h) (q.clock t j))

  pub raises_pair : (k : ℕ) (s t : List ℕ) → length s ≡ m.size → length t ≡ n.size → raises (pair m n) k (s ++ t) ≡ bit_or (raises m k s) (raises n k t)
  unfolding union
  raises_pair zero s t h j = refl
  raises_pair (suc k) s t h j =
      grind (arith, raised_pair m n s t h, clock_pair m n s t h, or_cross, raises_pair k (m.clock s) (n.clock t) (p.clock s h) (q.clock t j))

  pub quiet_pair : (s t : List ℕ) → length s ≡ m.size → length t ≡ n.size → (x y : ℕ) → Quiet m s x → Quiet n t y → Quiet (pair m n) (s ++ t) (min x y)
  quiet_pair s t h j x y f g k l =
      let u = f k (omega arith) in
      let v = g k (omega arith) in
      let now = clocks_pair k s t h j in
      let then = clocks_pair (suc k) s t h j in (
        grind (arith, now, raised_pair m n (clocks m k s) (clocks n k t) (clocks_sized m p k s h), u.0, v.0),
        grind (arith, then, outputs_pair m n (clocks m (suc k) s) (clocks n (suc k) t) (clocks_sized m p (suc k) s h), outputs_pair m n s t h, u.1, v.1),
      )
