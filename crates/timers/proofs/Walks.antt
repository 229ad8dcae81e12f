-- What walks over items make: a list with each item changed in its place, and the word of their flags. Assumes nothing.
use Rattle.std.proofs.Common.{◌≡◌, ℕ, zero, suc, ◌+◌, ◌*◌, ◌%◌, ◌^◌, ◌<◌, ◌≤◌, Bool, Option, List, [], ◌∷◌, ◌++◌, map, length, get_or, set, take, drop, reverse, fold, refl, ap, ◌∙◌, ap₂, pow-suc, arith}
use mathlib.Core.List.{reverse-cons}
use Rattle.std.proofs.lemmas.Nat.{pow_pos}
use Rattle.std.proofs.lemmas.List.{take_all, drop_all, append-nil, get_or_default}
use Rattle.std.proofs.lemmas.List.Edits.{map_over_more}
use Rattle.std.proofs.lemmas.List.Sums.{fold-append}
use Rattle.std.proofs.lemmas.Iterator.{YieldsList}
use Rattle.std.proofs.lemmas.Iterator.Consumers.{fold_from_yields_List}
use denote.Param.Members.{Mut, Called}
use Rattle.std.specs.Iterator.{Drains}
use Rattle.std.specs.List.{FoldsTo}
use Rattle.timers.specs.Timer.{number}
use Rattle.timers.specs.Unit.{flags}

-- ---- a map in place

pub map_turn : {A : Type 0} (f : A → A) (xs ys : List A) (i : ℕ) (d y : A) → i < length xs → length ys ≡ length xs
    → ys ≡ map f (take i xs) ++ drop i xs → y ≡ f (get_or ys i d) → set ys i y ≡ map f (take (i + 1) xs) ++ drop (i + 1) xs
map_turn f xs ys i d y h n inv e =
    ap (set ys i) e ∙ map_over_more f xs ys i (get_or ys i d) h inv (get_or_default ys i d (get_or ys i d) (omega arith))

pub map_end : {A : Type 0} (f : A → A) (xs ys : List A) (i : ℕ) → length xs ≤ i → ys ≡ map f (take i xs) ++ drop i xs → ys ≡ map f xs
map_end f xs ys i h inv = inv ∙ ap₂ (λ a b. map f a ++ b) (take_all i xs h) (drop_all i xs h) ∙ append-nil (map f xs)

-- ---- a word of flags, from the last item on

flags_lt : {A : Type 0} (p : A → Bool) (k : ℕ) (xs : List A) → length xs ≤ k → flags p xs < 2 ^ k
flags_lt p k [] h = omega (arith, pow_pos k)
flags_lt p zero (x ∷ xs) h = absurd (omega arith)
flags_lt p (suc k) (x ∷ xs) h = grind (arith, flags_lt p k xs (omega arith), pow-suc 2 k)

pub flags_folded : {A : Type 0} (p : A → Bool) (xs : List A) → length xs ≤ 32 → fold (λ word x. word * 2 % 2 ^ 32 + number (p x)) 0 (reverse xs) ≡ flags p xs
flags_folded p [] h = refl
flags_folded p (x ∷ xs) h =
    let step : ℕ → _ → ℕ = λ word y. word * 2 % 2 ^ 32 + number (p y) in
    ap (fold step 0) (reverse-cons x xs)
    ∙ fold-append step 0 (reverse xs) (x ∷ [])
    ∙ ap (λ word. step word x) (flags_folded p xs (omega arith))
    ∙ ap (λ word. word + number (p x)) (grind (arith, flags_lt p 31 xs (omega arith)))

-- the same of the fold that code makes over the items in reverse, where each call adds the flag p
pub flags_of_fold : {S X A F : Type 0} {steps : S → Option X → S → Type 0} {v : X → A} {s : S} {g : Mut F (ℕ × (X × Unit {0})) ℕ} {f : F} (p : A → Bool) (xs : List A) {r : ℕ}
    → ((ys : List X) × (q : F) × Drains steps s ys × FoldsTo {P = F × ℕ} (λ a x b. Called g a.0 (a.1, (x, tt)) b.1 b.0) (f, 0) ys (q, r))
    → YieldsList steps v s (reverse xs) → ((a : ℕ) (x : X) (b : ℕ) (q : F) → Called g f (a, (x, tt)) b q → (q ≡ f) × (b ≡ a * 2 % 2 ^ 32 + number (p (v x))))
    → length xs ≤ 32 → r ≡ flags p xs
flags_of_fold {g = g} p xs {r} ran from calls h =
    fold_from_yields_List g (λ word x. word * 2 % 2 ^ 32 + number (p x)) 0 r ran from calls ∙ flags_folded p xs h
