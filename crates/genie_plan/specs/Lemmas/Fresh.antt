-- Fresh frames that are lent.
use Rattle.std.proofs.Common.{length-append, ◌≡◌, ◌≢◌, ℕ, ◌+◌, ◌*◌, ◌^◌, ◌<◌, ◌≤◌, true, false, List, [], ◌∷◌, ◌++◌, length, zero, suc, refl, ap, sym, ◌∙◌, subst, arith, rules, inl, inr, ◌⊎◌, length-set, get_or}
use Rattle.std.specs.Prelude.{◌==◌, count_by, IsTrue}
use Rattle.std.proofs.lemmas.List.{get_or-set_same, get_or-set_other, map-append}
use Rattle.genie_base.specs.Lemmas.Places.{same_or, num, count_by-set, count_by-push}
use Rattle.genie_frame.specs.declared.frame.Owner.{Owner}
use Rattle.genie_frame.specs.declared.frame.Owner.TheVariants.{Free, Page, System, Pool, Nobody}
use Rattle.genie_frame.specs.declared.frame.Counts.{Counts}
use Rattle.genie_frame.specs.declared.frame.Meters.{Meters}
use Rattle.genie_frame.specs.declared.frame.InLoan.{InLoan}
use Rattle.genie_frame.specs.FrameTable.{FrameTable, owner_at, counts_at, no_counts, is_owned, is_system, is_free, AreLoansOwned}
use Rattle.genie_plan.specs.Plans.{times, input_frames, CanLand}
use Rattle.genie_plan.specs.Lemmas.Ranges.{times_at}
use Rattle.genie_plan.specs.Buffers.{taken_lent, AreLentFresh}

-- a free frame has no loan
pub fresh_input : (t : FrameTable) (f : ℕ) → AreLoansOwned t.owners t.counts → owner_at t f ≡ Free → (counts_at t f).input ≡ 0
fresh_input t f s e = let u = (s f).free e in grind (arith, rules)

pub fresh_strong : (t : FrameTable) (f : ℕ) → AreLoansOwned t.owners t.counts → owner_at t f ≡ Free → (counts_at t f).strong ≡ 0
fresh_strong t f s e = let u = (s f).free e in grind (arith, rules)

pub fresh_owned : (o : Owner) → is_system o ≡ true → IsTrue (is_owned o)
fresh_owned Free e = cc
fresh_owned (Page p) e = cc
fresh_owned (System t) e = refl
fresh_owned (Pool d) e = refl
fresh_owned Nobody e = cc

times_push : (frames : List ℕ) (f g : ℕ) → times (frames ++ f ∷ []) g ≡ times frames g + num (f == g)
times_push frames f g = count_by-push (λ x. x == g) frames f

same_num : (f g : ℕ) → f ≡ g → num (f == g) ≡ 1
same_num f g e = let h : (f == g) ≡ true = grind (arith, rules) in ap num h

other_num : (f g : ℕ) → f ≢ g → num (f == g) ≡ 0
other_num f g n = let h : (f == g) ≡ false = grind (arith, rules) in ap num h

system_free : (o : Owner) → is_system o ≡ true → o ≡ Free → ⊥
system_free o e h = let bad : false ≡ true = sym (ap is_system h) ∙ e in cc

free_is : (o : Owner) → o ≡ Free → num (is_free o) ≡ 1
free_is o e = ap (λ x. num (is_free x)) e

system_taken : (o : Owner) → is_system o ≡ true → num (is_free o) ≡ 0
system_taken Free e = cc
system_taken (Page p) e = refl
system_taken (System t) e = refl
system_taken (Pool d) e = refl
system_taken Nobody e = refl

pub fresh_none : (owner : Owner) (t : FrameTable) → AreLentFresh owner [] t t
fresh_none owner t = record {
  there = λ f h. absurd (omega (arith, h));
  were_free = λ f h. absurd (omega (arith, h));
  apart = λ f. omega arith;
  owned = λ f h. absurd (omega (arith, h));
  others = λ f h. refl;
  counts = λ f. let e : (counts_at t f).input ≡ (counts_at t f).input + 0 = omega arith in λ k. record (counts_at t f) { input = e k };
  free = omega arith;
  meters = let e : t.meters.taken ≡ t.meters.taken + 0 = omega arith in λ k. record (t.meters) { taken = e k };
  page = refl;
  bytes = refl;
  landed = refl;
  size = refl;
}

module _ (owner : Owner) (frames : List ℕ) (old now new : FrameTable) (f : ℕ) (system : is_system owner ≡ true) (counted : length now.counts ≡ length now.owners) (x : AreLentFresh owner frames old now) (l : f < length now.owners) (was : owner_at now f ≡ Free) (e : new ≡ taken_lent now f owner) where
  owner_here : owner_at new f ≡ owner
  owner_here = ap (λ t. owner_at t f) e ∙ get_or-set_same now.owners f owner Free l

  owner_else : (g : ℕ) → g ≢ f → owner_at new g ≡ owner_at now g
  owner_else g n = ap (λ t. owner_at t g) e ∙ get_or-set_other now.owners f g owner Free n

  -- it is none of the frames so far
  unmet : times frames f ≡ 0
  unmet = elim (zero_or (times frames f)) [
    | inl z ↦ z
    | inr p ↦ absurd (system_free owner system (sym (x.owned f p) ∙ was))
  ]
    where
      zero_or : (n : ℕ) → (n ≡ 0) ⊎ (0 < n)
      zero_or zero = inl refl
      zero_or (suc n) = inr (omega arith)

  before : (g : ℕ) → 0 < times (frames ++ f ∷ []) g → (g ≡ f) ⊎ (0 < times frames g)
  before g h = elim (same_or g f) [ inl s ↦ inl s | inr n ↦ inr (omega (arith, h, times_push frames f g, other_num f g (λ s. n (sym s)))) ]

  counts_here : counts_at new f ≡ record (counts_at now f) { input = (counts_at now f).input + 1 }
  counts_here = ap (λ t. counts_at t f) e ∙ get_or-set_same now.counts f _ no_counts (omega (arith, l, counted))

  counts_else : (g : ℕ) → g ≢ f → counts_at new g ≡ counts_at now g
  counts_else g n = ap (λ t. counts_at t g) e ∙ get_or-set_other now.counts f g _ no_counts n

  more_input : (g a b : ℕ) → a ≡ b → record (counts_at old g) { input = a } ≡ record (counts_at old g) { input = b }
  more_input g a b s = λ k. record (counts_at old g) { input = s k }

  pub fresh_more : AreLentFresh owner (frames ++ f ∷ []) old new
  fresh_more = record {
    there = λ g h. elim (before g h) [ inl s ↦ omega (arith, l, x.size, s) | inr p ↦ x.there g p ];
    were_free = λ g h. elim (before g h) [ inl s ↦ sym (x.others g (ap (times frames) s ∙ unmet)) ∙ ap (owner_at now) s ∙ was | inr p ↦ x.were_free g p ];
    apart = λ g. elim (same_or g f) [
      | inl s ↦ omega (arith, times_push frames f g, ap (times frames) s, unmet, same_num f g (sym s))
      | inr n ↦ omega (arith, times_push frames f g, other_num f g (λ s. n (sym s)), x.apart g)
    ];
    owned = λ g h. elim (same_or g f) [
      | inl s ↦ ap (owner_at new) s ∙ owner_here
      | inr n ↦ owner_else g n ∙ x.owned g (omega (arith, h, times_push frames f g, other_num f g (λ s. n (sym s))))
    ];
    others = λ g z. elim (same_or g f) [
      | inl s ↦ absurd (omega (arith, z, times_push frames f g, same_num f g (sym s)))
      | inr n ↦ owner_else g n ∙ x.others g (omega (arith, z, times_push frames f g))
    ];
    counts = λ g. elim (same_or g f) [
      | inl s ↦
          let one : (counts_at now g).input + 1 ≡ (counts_at old g).input + times (frames ++ f ∷ []) g = omega (arith, ap (λ (c : Counts). c.input) (x.counts g), times_push frames f g, same_num f g (sym s)) in
          ap (counts_at new) s ∙ counts_here ∙ ap (λ n. record (counts_at now n) { input = (counts_at now n).input + 1 }) (sym s) ∙ ap (λ (c : Counts). record c { input = (counts_at now g).input + 1 }) (x.counts g) ∙ more_input g _ _ one
      | inr n ↦
          let same : (counts_at old g).input + times frames g ≡ (counts_at old g).input + times (frames ++ f ∷ []) g = omega (arith, times_push frames f g, other_num f g (λ s. n (sym s))) in
          counts_else g n ∙ x.counts g ∙ more_input g _ _ same
    ];
    free =
        let c = count_by-set is_free now.owners f owner Free l in
        let a = ap (λ (t : FrameTable). count_by is_free t.owners) e in
        let size : length (frames ++ f ∷ []) ≡ length frames + 1 = length-push frames f in
        omega (arith, c, a, size, free_is (owner_at now f) was, system_taken owner system, x.free);
    meters =
        let size : length (frames ++ f ∷ []) ≡ length frames + 1 = length-push frames f in
        let m = ap (λ (t : FrameTable). t.meters) e in
        let n : now.meters.taken + 1 ≡ old.meters.taken + length (frames ++ f ∷ []) = omega (arith, size, ap (λ (q : Meters). q.taken) x.meters) in
        m ∙ ap (λ (q : Meters). record q { taken = now.meters.taken + 1 }) x.meters ∙ (λ k. record (old.meters) { taken = n k });
    page = ap (λ (t : FrameTable). t.page) e ∙ x.page;
    bytes = ap (λ (t : FrameTable). t.bytes) e ∙ x.bytes;
    landed = ap (λ (t : FrameTable). t.landed) e ∙ x.landed;
    size = ap (λ (t : FrameTable). length t.owners) e ∙ length-set now.owners f owner ∙ x.size;
  }
    where
      length-push : (xs : List ℕ) (y : ℕ) → length (xs ++ y ∷ []) ≡ length xs + 1
      length-push xs y = length-append xs (y ∷ [])

-- the frames so far
pub record FreshSoFar (owner : Owner) (frames : List ℕ) (i : ℕ) (old now : FrameTable) : Type 0 where
  pub number : length frames ≡ i
  pub fresh : AreLentFresh owner frames old now

pub so_far_more : (owner : Owner) (loans items : List InLoan) (loan : InLoan) (i : ℕ) (old now new : FrameTable) → is_system owner ≡ true → length now.counts ≡ length now.owners → FreshSoFar owner (input_frames loans) i old now → items ≡ loans ++ loan ∷ [] → loan.frame.0 < length now.owners → owner_at now loan.frame.0 ≡ Free → new ≡ taken_lent now loan.frame.0 owner → FreshSoFar owner (input_frames items) (i + 1) old new
so_far_more owner loans items loan i old now new system counted x is l was e =
    let frames : input_frames items ≡ input_frames loans ++ loan.frame.0 ∷ [] = ap input_frames is ∙ map-append (λ (y : InLoan). y.frame.0) loans (loan ∷ []) in
    subst (λ fs. FreshSoFar owner fs (i + 1) old new) (sym frames) (record {
      number = length-append (input_frames loans) (loan.frame.0 ∷ []) ∙ ap (λ n. n + 1) x.number;
      fresh = fresh_more owner (input_frames loans) old now new loan.frame.0 system counted x.fresh l was e;
    })

pub so_far_none : (owner : Owner) (loans : List InLoan) (t : FrameTable) → loans ≡ [] → FreshSoFar owner (input_frames loans) 0 t t
so_far_none owner loans t e = subst (λ (xs : List InLoan). FreshSoFar owner (input_frames xs) 0 t t) (sym e) (record { number = refl; fresh = fresh_none owner t })

-- bytes may land in any range over fresh frames that are lent
pub fresh_lands : (owner : Owner) (frames : List ℕ) (old new : FrameTable) (first len n : ℕ) → AreLentFresh owner frames old new → length frames ≡ n → first + len < 2 ^ 32 → (0 < len → first + len ≤ new.page * n) → CanLand new frames first len
fresh_lands owner frames old new first len n x number fits within = record {
  out = λ k l. omega (arith, ap (λ (c : Counts). c.input) (x.counts (get_or frames k 0)), times_at frames k l);
  apart = x.apart;
  within = λ p. subst (λ m. first + len ≤ new.page * m) (sym number) (within p);
  fits = fits;
}
