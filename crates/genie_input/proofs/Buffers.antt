-- Fresh frames are a buffer's.
use Rattle.std.proofs.Common.{◌≡◌, ℕ, ◌+◌, ◌<◌, ◌≤◌, zero, suc, refl, true, false, List, length, get_or, ap, sym, ◌∙◌, arith, rules}
use Rattle.genie_frame.specs.declared.frame.Owner.{Owner}
use Rattle.genie_frame.specs.declared.frame.Owner.TheVariants.{Free, Page, System, Pool, Nobody}
use Rattle.genie_frame.specs.declared.frame.Counts.{Counts}
use Rattle.genie_frame.specs.FrameTable.{FrameTable, owner_at, counts_at, no_counts, is_system, is_lent, is_held}
use Rattle.genie_object.specs.declared.memory.Memory.{Memory}
use Rattle.genie_object.specs.Sound.{IsSound}
use Rattle.genie_object.specs.Touching.{system_owner}
use Rattle.std.specs.Prelude.{if◌then◌else◌}
use Rattle.genie_plan.specs.Plans.{times}
use Rattle.genie_plan.specs.Buffers.{AreLentFresh}
use Rattle.genie_plan.specs.Lemmas.Ranges.{times_at}
use Rattle.genie_input.specs.Buffers.{one_input, IsBuffer, AreBuffers, BuffersStay}
use Rattle.genie_input.specs.Pools.{ArePooled}

unlent : (c : Counts) → is_lent c ≡ false → (c.strong ≡ 0) × (c.weak ≡ 0) × (c.input ≡ 0)
unlent c e = (grind (arith, rules), grind (arith, rules), grind (arith, rules))

held_lent : (c : Counts) → is_lent c ≡ false → is_held c ≡ true → ⊥
held_lent c e h = grind (arith, rules)

-- a free frame carries nothing, and a fresh one its one loan
pub fresh_counts : (m : Memory) (t : FrameTable) (owner : Owner) (frames : List ℕ) (f : ℕ) → IsSound m → AreLentFresh owner frames m.frames t → 0 < times frames f → counts_at t f ≡ one_input
fresh_counts m t owner frames f s x h =
    let quiet : is_lent (counts_at m.frames f) ≡ false = (s.lent f).free (x.were_free f h) in
    let u = unlent (counts_at m.frames f) quiet in
    let w : (counts_at m.frames f).wires ≡ 0 = none_wired (counts_at m.frames f).wires (λ p. held_lent (counts_at m.frames f) quiet (s.wired f p)) in
    let one : (counts_at m.frames f).input + times frames f ≡ 1 = omega (arith, u.2, h, x.apart f) in
    x.counts f ∙ (λ k. record { strong = u.0 k; weak = u.1 k; input = one k; wires = w k })
  where
    none_wired : (n : ℕ) → (0 < n → ⊥) → n ≡ 0
    none_wired zero p = refl
    none_wired (suc n) p = absurd (p (omega arith))

pub fresh_buffers : (m : Memory) (t : FrameTable) (owner : Owner) (frames : List ℕ) → IsSound m → is_system owner ≡ true → AreLentFresh owner frames m.frames t → AreBuffers t frames
fresh_buffers m t owner frames s system x = record {
  each = λ k l.
      let h = times_at frames k l in
      record {
        there = omega (arith, x.there (get_or frames k 0) h, x.size);
        own = ap is_system (x.owned (get_or frames k 0) h) ∙ system;
        lent = fresh_counts m t owner frames (get_or frames k 0) s x h;
      };
  apart = x.apart;
}

pub fresh_pooled : (m : Memory) (t : FrameTable) (dev : ℕ) (frames : List ℕ) → IsSound m → AreLentFresh (Pool dev) frames m.frames t → ArePooled t dev frames
fresh_pooled m t dev frames s x = record { owned = x.owned; counts = λ f h. fresh_counts m t (Pool dev) frames f s x h; apart = x.apart }

system_still : (a b : Owner) → system_owner a ≡ system_owner b → is_system b ≡ true → is_system a ≡ true
system_still a b e h = by_owner a (e ∙ ap (λ v. if v then b else Free) h)
  where
    by_owner : (c : Owner) → system_owner c ≡ b → is_system c ≡ true
    by_owner Free w = let bad : false ≡ true = ap is_system w ∙ h in cc
    by_owner (Page p) w = let bad : false ≡ true = ap is_system w ∙ h in cc
    by_owner (System t) w = refl
    by_owner (Pool d) w = refl
    by_owner Nobody w = let bad : false ≡ true = ap is_system w ∙ h in cc

pub buffers_stay : BuffersStay
buffers_stay old new frames keeps counts b = record {
  each = λ k l.
      let x = b.each k l in
      record {
        there = omega (arith, x.there, keeps.number);
        own = system_still (owner_at new.frames (get_or frames k 0)) (owner_at old.frames (get_or frames k 0)) (keeps.systems (get_or frames k 0)) x.own;
        lent = ap (λ cs. get_or cs (get_or frames k 0) no_counts) counts ∙ x.lent;
      };
  apart = b.apart;
}
