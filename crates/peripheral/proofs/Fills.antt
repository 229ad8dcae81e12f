-- A slice that is filled from one list and then, from where that ends, from another. Assumes nothing.
use Rattle.std.proofs.Common.{◌≡◌, ℕ, ◌+◌, ◌-◌, ◌≤◌, min, ◌⊎◌, List, [], ◌++◌, length, take, drop, inl, inr, arith, length-drop, take-add}
use borrow.Rule.Slice.PartMut.{put_mid}
use Rattle.std.proofs.lemmas.Grind.{common_steps}
use Rattle.std.proofs.lemmas.List.{take_rest}

-- where the first list was taken whole, or nothing is taken of the second
taken : (os us : List ℕ) (k l : ℕ) → k ≤ length os → (k ≡ length os) ⊎ (l ≡ 0) → take (k + l) (os ++ us) ≡ take k os ++ take l us
taken os us k l h (inl e) = grind (arith, common_steps, take-add k l (os ++ us))
taken os us k l h (inr e) = grind (arith, common_steps, take-add k l (os ++ us))

-- k words of os go into xs, which gives ys, and then l words of us into what follows the k
module _ (os us xs ys zs : List ℕ) (k l j : ℕ) (hj : j ≡ k + l)
    (hk : k ≡ min (length xs) (length os)) (hy : ys ≡ take k os ++ drop k xs)
    (hl : l ≡ min (length (take (length ys - k) (drop k ys))) (length us))
    (hz : zs ≡ take l us ++ drop l (take (length ys - k) (drop k ys))) where
  rest : take (length ys - k) (drop k ys) ≡ drop k xs
  rest = grind (arith, common_steps, take_rest)

  which : (k ≡ length os) ⊎ (l ≡ 0)
  which = grind (arith, rest, length-drop k xs)

  pub filled : put_mid k (length ys - k) ys zs ≡ take j (os ++ us) ++ drop j xs
  filled =
      let e = taken os us k l (omega arith) which in
      let none : drop (length ys - k) (drop k ys) ≡ [] = grind (arith, common_steps) in
      grind (arith, common_steps, rest)
