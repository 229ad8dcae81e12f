-- A number that an address gives. Assumes nothing.
use Rattle.std.proofs.Common.{◌≡◌, ℕ, ◌/◌, ◌%◌, ◌≤◌, min, Some, ap, subst, arith}
use Rattle.std.proofs.lemmas.Bool.{le-leb}
use Rattle.std.proofs.Math.Bridge.{le_prop}
use Rattle.timers.specs.declared.number.Number.{Number}
use Rattle.timers.specs.Map.{number_to, numbered}

abbrev number : (last i : ℕ) → i ≤ last → Number last
number last i h = record { index = i; within = h }

-- two with one index are the same
same : (last i j : ℕ) (h : i ≤ last) (k : j ≤ last) → i ≡ j → number last i h ≡ number last j k
same last i j h k p = subst (λ m. (l : m ≤ last) → number last i h ≡ number last m l) p (λ l. ap (number last i) (le_prop h l)) k

pub numbered_some : (last a : ℕ) (k : Number last) → k.index ≡ a / 256 % 16 → Some k ≡ numbered last a
numbered_some last a k e =
    let i = a / 256 % 16 in
    let w : i ≤ last = omega (arith, k.within) in
    rw (le-leb i last w) (ap Some (same last k.index (min i last) k.within (number_to last i).within (omega arith)))
