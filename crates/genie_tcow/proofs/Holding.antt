-- The frames of loans have the bytes of entries.
use Rattle.std.proofs.Common.{◌≡◌, ℕ, zero, suc, ◌+◌, ◌<◌, List, [], ◌∷◌, ◌++◌, length, refl, ap, sym, ◌∙◌, arith, subst, get_or, length-append, inl, inr}
use Rattle.std.specs.Prelude.{Bool, Option, Some, None, IfSome}
use Rattle.std.specs.Option.{option_map}
use Rattle.std.proofs.lemmas.Bool.{cases_lt}
use Rattle.genie_frame.specs.FrameTable.{FrameTable, bytes_at}
use Rattle.genie_store.specs.StoreView.{StoreView}
use Rattle.genie_object.specs.declared.memory.Memory.{Memory}
use Rattle.genie_object.specs.Objects.{entry_at}
use Rattle.genie_object.specs.Memory.{Seen, seen, seen_with, bytes_of, page_bytes, entry_frame}
use Rattle.genie_plan.specs.Loans.{LoanKind, Strong, Weak, Input, Loan}
use Rattle.genie_tcow.specs.Lending.{loans_on, see_lent, HasLent}
use Rattle.genie_tcow.specs.Ranges.{HoldsEntries}
use Rattle.genie_tcow.proofs.Counting.{at_last, at_front, on_at}
use Rattle.genie_plan.specs.Lemmas.Landings.{entry_shown}

through : (m : Memory) (slots : Option (ℕ → List ℕ)) (a b : ℕ) → option_map (λ told. page_bytes m.frames m.pages.pages told (entry_at m.objects a b).page) slots ≡ option_map (λ (x : Seen). x.entry_bytes a b) (option_map (seen m) slots)
through m None a b = refl
through m (Some told) a b = refl

still_shown : (kind : LoanKind) (loans : List Loan) (t : FrameTable) (x : Option Seen) (a b : ℕ) → option_map (λ (s : Seen). s.entry_bytes a b) (option_map (see_lent kind loans t) x) ≡ option_map (λ (s : Seen). s.entry_bytes a b) x
still_shown kind loans t None a b = refl
still_shown Strong loans t (Some s) a b = refl
still_shown Weak loans t (Some s) a b = refl
still_shown Input loans t (Some s) a b = refl

-- what is seen of an entry
pub entries_seen : (old m : Memory) (v w : StoreView) → seen_with m w ≡ seen_with old v → (a b : ℕ) → bytes_of m w a b ≡ bytes_of old v a b
entries_seen old m v w e a b = through m w.slots a b ∙ ap (option_map (λ (x : Seen). x.entry_bytes a b)) e ∙ sym (through old v.slots a b)

pub entries_still : (kind : LoanKind) (id : ℕ) (spoken : ℕ → ℕ → Bool) (loans : List Loan) (old m : Memory) (v w : StoreView) → HasLent kind id spoken loans old m v w → (a b : ℕ) → bytes_of m w a b ≡ bytes_of old v a b
entries_still kind id spoken loans old m v w x a b = through m w.slots a b ∙ ap (option_map (λ (s : Seen). s.entry_bytes a b)) x.shows ∙ still_shown kind loans m.frames (seen_with old v) a b ∙ sym (through old v.slots a b)

-- the frame of an entry has the entry's bytes
pub framed_bytes : (m : Memory) (w : StoreView) (o i f : ℕ) → entry_frame m o i ≡ Some f → IfSome (bytes_of m w o i) (λ b. bytes_at m.frames f ≡ b)
framed_bytes m w o i f e = told w.slots
  where
    told : (slots : Option (ℕ → List ℕ)) → IfSome (option_map (λ s. page_bytes m.frames m.pages.pages s (entry_at m.objects o i).page) slots) (λ b. bytes_at m.frames f ≡ b)
    told None = tt
    told (Some s) = sym (entry_shown m s o i f e)

pub holds_none : (old : Memory) (v : StoreView) (o i : ℕ) (t : FrameTable) → HoldsEntries old v o i [] t
holds_none old v o i t k d l = absurd (omega (arith, l))

pub holds_one : (old : Memory) (v : StoreView) (o i : ℕ) (loan : Loan) (t : FrameTable) → IfSome (bytes_of old v o i) (λ b. bytes_at t loan.frame ≡ b) → HoldsEntries old v o i (loan ∷ []) t
holds_one old v o i loan t h zero d l = let at : i ≡ i + 0 = omega arith in subst (λ n. IfSome (bytes_of old v o n) (λ b. bytes_at t loan.frame ≡ b)) at h
holds_one old v o i loan t h (suc k) d l = absurd (omega (arith, l))

pub holds_on : (old m : Memory) (v w : StoreView) (o i j : ℕ) (loans : List Loan) (loan : Loan) (t u : FrameTable) → j ≡ i + length loans → ((a b : ℕ) → bytes_of m w a b ≡ bytes_of old v a b) → ((f : ℕ) → 0 < loans_on loans f → bytes_at u f ≡ bytes_at t f) → HoldsEntries old v o i loans t → HoldsEntries m w o j (loan ∷ []) u → HoldsEntries old v o i (loans ++ loan ∷ []) u
holds_on old m v w o i j loans loan t u at entries last x y k d l = elim (cases_lt k (length loans)) [
  | inl h ↦
      let same : bytes_at u (get_or (loans ++ loan ∷ []) k d).frame ≡ bytes_at t (get_or loans k d).frame = ap (λ (q : Loan). bytes_at u q.frame) (at_front loans loan d k h) ∙ last (get_or loans k d).frame (on_at loans k d h) in
      subst (λ bs. IfSome (bytes_of old v o (i + k)) (λ b. bs ≡ b)) (sym same) (x k d h)
  | inr h ↦
      let size : length (loans ++ loan ∷ []) ≡ length loans + 1 = length-append loans (loan ∷ []) in
      let e : k ≡ length loans = omega (arith, size, l, h) in
      let place : j + 0 ≡ i + k = omega (arith, e, at) in
      subst (λ bs. IfSome (bytes_of old v o (i + k)) (λ b. bs ≡ b)) (sym (ap (λ (q : Loan). bytes_at u q.frame) (at_last loans loan d k e)))
      (subst (λ s. IfSome s (λ b. bytes_at u loan.frame ≡ b)) (entries o (j + 0) ∙ ap (bytes_of old v o) place) (y 0 d (omega arith)))
]
