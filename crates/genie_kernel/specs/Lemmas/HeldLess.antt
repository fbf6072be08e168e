-- The pages that devices hold, with one transfer less.
use Rattle.std.proofs.Common.{◌≡◌, ℕ, zero, suc, Bool, true, false, not, cond, List, [], ◌∷◌, arith, filter, get_or}
use Rattle.std.specs.Prelude.{Option, Some, None, All}
use Rattle.genie_frame.specs.FrameTable.{counts_at, is_held}
use Rattle.genie_object.specs.declared.memory.Memory.{Memory}
use Rattle.genie_region.specs.declared.region.Region.{Region}
use Rattle.genie_model.specs.Tables.{without}
use Rattle.genie_kernel.specs.declared.transfer.Transfer.{Transfer}
use Rattle.genie_kernel.specs.Calls.{is_strong_call}
use Rattle.genie_kernel.specs.Held.{AreHeldPages, HoldsPages, IsInFrame, region_named, page_of_loan, weak_transfers}
use Rattle.genie_kernel.specs.Loans.{frames_of}
use Rattle.genie_kernel.specs.Holding.{LoansEnd, AreHeldFrames}

module _ {X : Type 0} (P : X → Type 0) where
  all_first : (b : Bool) (x : X) (xs ys : List X) → All P (cond b (x ∷ xs) xs) → (All P xs → All P ys) → All P (cond b (x ∷ ys) ys)
  all_first true x xs ys a f zero d l = a zero d (omega arith)
  all_first true x xs ys a f (suc k) d l = f (λ i e n. a (suc i) e (omega arith)) k d (omega (arith, l))
  all_first false x xs ys a f k d l = f a k d l

  all_later : (b : Bool) (x : X) (xs : List X) → All P (cond b (x ∷ xs) xs) → All P xs
  all_later true x xs a = λ i e n. a (suc i) e (omega arith)
  all_later false x xs a = a

  all_fewer : (p q : X → Bool) (xs : List X) → All P (filter q xs) → All P (filter q (without p xs))
  all_fewer p q [] a = a
  all_fewer p q (x ∷ xs) a = elim (p x) as (λ b. All P (filter q (cond b xs (x ∷ without p xs)))) [
    | true ↦ all_later (q x) x (filter q xs) a
    | false ↦ all_first (q x) x (filter q xs) (filter q (without p xs)) a (all_fewer p q xs)
  ]

in_frame_still : (old new : Memory) → LoansEnd old new → (r : Option Region) (i f : ℕ) → is_held (counts_at new.frames f) ≡ true → IsInFrame old r i f → IsInFrame new r i f
in_frame_still old new ends None i f held h = ends.nobody f held h
in_frame_still old new ends (Some r) i f held h = ends.entries r.object.0 i f h

pub held_less : (page : ℕ) (old new : Memory) (rs : List Region) (p : Transfer → Bool) (ts : List Transfer) → LoansEnd old new → AreHeldFrames new (weak_transfers (without p ts)) → AreHeldPages page old rs ts → AreHeldPages page new rs (without p ts)
held_less page old new rs p ts ends held h =
    let fewer : All (HoldsPages page old rs h.page_in h.frame_of) (weak_transfers (without p ts)) = all_fewer (HoldsPages page old rs h.page_in h.frame_of) p (λ u. not (is_strong_call u)) ts h.each in
    record {
      page_in = h.page_in;
      frame_of = h.frame_of;
      each = λ i d l.
          let u = get_or (weak_transfers (without p ts)) i d in
          let was : HoldsPages page old rs h.page_in h.frame_of u = fewer i d l in
          record {
            pages = was.pages;
            frames = was.frames;
            held = λ j m. in_frame_still old new ends (region_named rs (page_of_loan page u j).region) (page_of_loan page u j).index (get_or (frames_of u.loans) j 0) (held i d l j m) (was.held j m);
          };
    }
