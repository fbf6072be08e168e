-- Frames that a sweep has looked at.
use Rattle.std.proofs.Common.{◌≡◌, ℕ, ◌<◌, ◌≤◌, ◌+◌, ◌-◌, Bool, true, false, not, List, [], ◌∷◌, refl, arith, ap, length, get_or, sym, ◌∙◌, inl, inr, subst, suc, zero}
use Rattle.std.specs.Prelude.{◌⊎◌, count_by, min, replicate}
use Rattle.std.proofs.lemmas.List.Sums.{sum_by-cons}
use Rattle.std.proofs.lemmas.Bool.{cases_lt}
use Rattle.genie_base.specs.Lemmas.Places.{num, same_or}
use Rattle.genie_frame.specs.declared.frame.Owner.{Owner}
use Rattle.genie_frame.specs.declared.frame.Owner.TheVariants.{Free, Page, System, Pool, Nobody}
use Rattle.genie_frame.specs.declared.frame.Counts.{Counts}
use Rattle.genie_frame.specs.FrameTable.{counts_at, owner_at, is_lent, is_free, no_counts}
use Rattle.genie_object.specs.declared.memory.Memory.{Memory}
use Rattle.genie_hiding.specs.Rooms.{can_leave, is_available, count_both, available, Sweeps, AllShed}
use Rattle.genie_hiding.specs.Marking.{is_marked}
use Rattle.genie_hiding.specs.Lemmas.Sweeping.{leave_kept}
use Rattle.genie_pageout.specs.Going.{may_go, may_go_from, allowed, AreSwept, AreGone, StayGone}

-- a frame that can be had, and has no page that can leave it, is free
available_free : (o : Owner) (c : Counts) → can_leave o c ≡ false → num (is_available o c) ≤ num (is_free o)
available_free Free c e = elim (is_lent c) as (λ b. num (not b) ≤ 1) [ true ↦ omega arith | false ↦ omega arith ]
available_free (Page p) c e = omega (arith, ap num e)
available_free (System t) c e = omega arith
available_free (Pool d) c e = omega arith
available_free Nobody c e = omega arith

all_free : (os : List Owner) (cs : List Counts) → ((f : ℕ) → f < length os → can_leave (get_or os f Free) (get_or cs f no_counts) ≡ false) → count_both is_available os cs ≤ count_by is_free os
all_free [] cs h = omega arith
all_free (o ∷ os) [] h = omega arith
all_free (o ∷ os) (c ∷ cs) h = let rest = all_free os cs (λ f l. h (suc f) (omega arith)) in let here = available_free o c (h 0 (omega arith)) in omega (arith, rest, here, sum_by-cons (λ x. num (is_free x)) o os)

pub swept_none : (m : Memory) (from : ℕ) → AreSwept m from from
swept_none m from = record { each = λ g l h. absurd (omega (arith, l, h)) }

pub swept_more : (m new : Memory) (from f : ℕ) → AreSwept m from f → Sweeps m new → new.frames.counts ≡ m.frames.counts → can_leave (owner_at new.frames f) (counts_at new.frames f) ≡ false → AreSwept new from (f + 1)
swept_more m new from f x y k e = record {
  each = λ g l h. elim (same_or g f) [
    | inl w ↦ subst (λ n. can_leave (owner_at new.frames n) (counts_at new.frames n) ≡ false) (sym w) e
    | inr w ↦ leave_kept m new g y k (x.each g l (omega (arith, h, w)))
  ];
}

pub have_room : (old mid new : Memory) (k clock n : ℕ) → n ≡ length old.frames.owners → length new.frames.owners ≡ length old.frames.owners → k ≤ available old.frames → Sweeps old mid → Sweeps mid new → new.frames.counts ≡ mid.frames.counts → (k ≤ count_by is_free mid.frames.owners) ⊎ AreSwept mid clock n → (k ≤ count_by is_free new.frames.owners) ⊎ AreSwept new 0 clock → k ≤ count_by is_free new.frames.owners
have_room old mid new k clock n e size h x y c a b = elim a [
  | inl w ↦ omega (arith, w, y.free)
  | inr u ↦ elim b [
    | inl w ↦ w
    | inr v ↦
        let all = all_free new.frames.owners new.frames.counts (λ f l. elim (cases_lt f clock) [
          | inl w ↦ v.each f (omega arith) w
          | inr w ↦ leave_kept mid new f y c (u.each f w (omega (arith, l, size, e)))
        ]) in
        omega (arith, all, h, x.available, y.available)
  ]
]

pub count_both-same : (q r : Owner → Counts → Bool) (os : List Owner) (cs : List Counts) → ((o : Owner) (c : Counts) → q o c ≡ r o c) → count_both q os cs ≡ count_both r os cs
count_both-same q r [] cs h = refl
count_both-same q r (o ∷ os) [] h = refl
count_both-same q r (o ∷ os) (c ∷ cs) h = let rest = count_both-same q r os cs h in let here = ap num (h o c) in omega (arith, rest, here)

pub count_both-none : (q : Owner → Counts → Bool) (os : List Owner) (cs : List Counts) → ((f : ℕ) → f < length os → q (get_or os f Free) (get_or cs f no_counts) ≡ false) → count_both q os cs ≡ 0
count_both-none q [] cs h = refl
count_both-none q (o ∷ os) [] h = refl
count_both-none q (o ∷ os) (c ∷ cs) h = let rest = count_both-none q os cs (λ f l. h (suc f) (omega arith)) in let here = ap num (h 0 (omega arith)) in omega (arith, rest, here)

pub gone_none : (m : Memory) (hidden : List ℕ) (from : ℕ) → AreGone m hidden from from
gone_none m hidden from = record { each = λ g l h. absurd (omega (arith, l, h)) }

pub gone_more : (hidden : List ℕ) (m new : Memory) (from f : ℕ) → AreGone m hidden from f → StayGone hidden m new → may_go_from new hidden f ≡ false → AreGone new hidden from (f + 1)
gone_more hidden m new from f x y e = record {
  each = λ g l h. elim (same_or g f) [
    | inl w ↦ ap (may_go_from new hidden) w ∙ e
    | inr w ↦ y g (x.each g l (omega (arith, h, w)))
  ];
}

-- once around the frames as many pages went as were asked for, or as might go
pub went_all : (hidden : List ℕ) (old mid new : Memory) (n clock frames first second : ℕ) → frames ≡ length new.frames.owners → first ≤ n → second ≤ n - first → allowed mid hidden + first ≡ allowed old hidden → allowed new hidden + second ≡ allowed mid hidden → StayGone hidden mid new → (first ≡ n) ⊎ AreGone mid hidden clock frames → (second ≡ n - first) ⊎ AreGone new hidden 0 clock → first + second ≡ min n (allowed old hidden)
went_all hidden old mid new n clock frames first second e l m p q y a b = elim a [
  | inl w ↦ omega (arith, l, m, p, q, w)
  | inr u ↦ elim b [
    | inl w ↦ omega (arith, l, m, p, q, w)
    | inr v ↦
        let none : allowed new hidden ≡ 0 = count_both-none (may_go new.objects hidden) new.frames.owners new.frames.counts (λ f h. elim (cases_lt f clock) [
          | inl w ↦ v.each f (omega arith) w
          | inr w ↦ y f (u.each f w (omega (arith, h, e)))
        ]) in
        omega (arith, l, m, p, q, none)
  ]
]

-- where too few frames are free, no hidden page could be dropped
pub all_shed_now : (m : Memory) (hidden : List ℕ) (k : ℕ) → (k ≤ count_by is_free m.frames.owners) ⊎ AllShed m hidden → count_by is_free m.frames.owners < k → AllShed m hidden
all_shed_now m hidden k (inl l) h = absurd (omega (arith, l, h))
all_shed_now m hidden k (inr x) h = x

pub none_marked : (n f : ℕ) → is_marked (replicate n false) f ≡ false
none_marked zero f = refl
none_marked (suc n) zero = refl
none_marked (suc n) (suc f) = none_marked n f
