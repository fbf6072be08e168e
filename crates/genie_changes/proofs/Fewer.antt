-- The pages that devices hold, with one transfer less.
use Rattle.std.proofs.Common.{ℕ, zero, suc, Bool, true, false, not, cond, List, [], ◌∷◌, arith, filter}
use Rattle.std.specs.Prelude.{All}
use Rattle.genie_object.specs.declared.memory.Memory.{Memory}
use Rattle.genie_region.specs.declared.region.Region.{Region}
use Rattle.genie_model.specs.Tables.{without}
use Rattle.genie_kernel.specs.declared.transfer.Transfer.{Transfer}
use Rattle.genie_kernel.specs.Calls.{is_strong_call}
use Rattle.genie_kernel.specs.Held.{AreHeldPages, HoldsPages}

module _ {X : Type 0} (P : X → Type 0) where
  all_first : (b : Bool) (x : X) (xs ys : List X) → All P (cond b (x ∷ xs) xs) → (All P xs → All P ys) → All P (cond b (x ∷ ys) ys)
  all_first true x xs ys a f zero d l = a zero d (omega arith)
  all_first true x xs ys a f (suc k) d l = f (λ i e n. a (suc i) e (omega arith)) k d (omega (arith, l))
  all_first false x xs ys a f k d l = f a k d l

  all_later : (b : Bool) (x : X) (xs : List X) → All P (cond b (x ∷ xs) xs) → All P xs
  all_later true x xs a = λ i e n. a (suc i) e (omega arith)
  all_later false x xs a = a

  all_fewer : (p q : X → Bool) (xs : List X) → All P (filter q xs) → All P (filter q (without p xs))
  all_fewer p q [] a = a
  all_fewer p q (x ∷ xs) a = elim (p x) as (λ b. All P (filter q (cond b xs (x ∷ without p xs)))) [
    | true ↦ all_later (q x) x (filter q xs) a
    | false ↦ all_first (q x) x (filter q xs) (filter q (without p xs)) a (all_fewer p q xs)
  ]

pub held_less : (page : ℕ) (m : Memory) (rs : List Region) (p : Transfer → Bool) (ts : List Transfer) → AreHeldPages page m rs ts → AreHeldPages page m rs (without p ts)
held_less page m rs p ts h = record { page_in = h.page_in; frame_of = h.frame_of; each = all_fewer (HoldsPages page m rs h.page_in h.frame_of) p (λ u. not (is_strong_call u)) ts h.each }
