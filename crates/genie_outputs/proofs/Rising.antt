-- How far an output call lets the meters rise.
use Rattle.std.proofs.Common.{◌≡◌, ℕ, ◌+◌, ◌*◌, ◌^◌, ◌≤◌, suc, zero, Bool, true, false, List, ap, arith}
use Rattle.std.specs.Prelude.{if◌then◌else◌}
use Rattle.genie_frame.specs.FrameTable.{FrameTable}
use Rattle.genie_object.specs.declared.memory.Memory.{Memory}
use Rattle.genie_object.specs.declared.objects.Range.{Range}
use Rattle.genie_object.specs.Costs.{Spends, is_untouched, writes_work}
use Rattle.genie_object.specs.Sound.{IsSound}
use Rattle.genie_object.specs.Lemmas.Works.{page_most, writes_most}
use Rattle.genie_tcow.specs.Costs.{is_copied, reads_work, sends_work, total_work}
use Rattle.genie_tcow.specs.Ranges.{CanPrepare, first_page, pages_of}
use Rattle.genie_kernel.specs.Rising.{MetersRise}
use Rattle.genie_kernel.specs.Lemmas.Rising.{rises_left, rises_moved}
use Rattle.genie_outputs.specs.Sharing.{WiredUnless}

total_most : (cost : ℕ → ℕ) (n : ℕ) → ((k : ℕ) → cost k ≤ 4096) → total_work cost n ≤ 4096 * n
total_most cost zero h = omega arith
total_most cost (suc n) h = let rest = total_most cost n h in let last = h n in omega (arith, rest, last)

page_or_none : (b : Bool) (page : ℕ) → page ≤ 4096 → (if b then page else 0) ≤ 4096
page_or_none true page l = l
page_or_none false page l = omega arith

module _ (m new : Memory) (range : Range) (sound : IsSound m) (can : CanPrepare m range) (landed : new.frames.landed ≡ m.frames.landed) where
  small : m.frames.page ≤ 4096
  small = page_most m.frames.page sound.shaped.size

  -- pages that are copied or zeroed to be lent strongly
  pub rises_strong : Spends (sends_work m range.object.0 (first_page m.frames.page range) (pages_of m.frames.page range)) (pages_of m.frames.page range) 0 (pages_of m.frames.page range) m.frames.meters new.frames.meters → MetersRise (2 ^ 20) m.frames new.frames
  rises_strong s =
      let most : sends_work m range.object.0 (first_page m.frames.page range) (pages_of m.frames.page range) ≤ 4096 * pages_of m.frames.page range = total_most (λ k. if is_copied m range.object.0 (first_page m.frames.page range + k) then m.frames.page else 0) (pages_of m.frames.page range) (λ k. page_or_none (is_copied m range.object.0 (first_page m.frames.page range + k)) m.frames.page small) in
      rises_moved _ _ _ _ (2 ^ 20) m.frames new.frames s landed (omega (arith, most, can.most))

  -- or weakly
  pub rises_weak : Spends (writes_work m range.object.0 (first_page m.frames.page range) (pages_of m.frames.page range)) (pages_of m.frames.page range) 0 (pages_of m.frames.page range) m.frames.meters new.frames.meters → MetersRise (2 ^ 20) m.frames new.frames
  rises_weak s =
      let most = writes_most m range.object.0 (first_page m.frames.page range) (pages_of m.frames.page range) small in
      rises_moved _ _ _ _ (2 ^ 20) m.frames new.frames s landed (omega (arith, most, can.most))

  -- bytes that are copied, and pages that are zeroed for that
  pub rises_copied : Spends (range.len + reads_work m range.object.0 (first_page m.frames.page range) (pages_of m.frames.page range)) (pages_of m.frames.page range) 0 (pages_of m.frames.page range) m.frames.meters new.frames.meters → MetersRise (2 ^ 33) m.frames new.frames
  rises_copied s =
      let most : reads_work m range.object.0 (first_page m.frames.page range) (pages_of m.frames.page range) ≤ 4096 * pages_of m.frames.page range = total_most (λ k. if is_untouched m range.object.0 (first_page m.frames.page range + k) then m.frames.page else 0) (pages_of m.frames.page range) (λ k. page_or_none (is_untouched m range.object.0 (first_page m.frames.page range + k)) m.frames.page small) in
      rises_moved _ _ _ _ (2 ^ 33) m.frames new.frames s landed (omega (arith, most, can.most, can.fits))

-- wires count nothing
pub rises_wired : (emulated : Bool) (frames : List ℕ) (k : ℕ) (a b c : FrameTable) → WiredUnless emulated frames b c → MetersRise k a b → MetersRise k a c
rises_wired true frames k a b c w = rises_left k a b c (ap (λ (t : FrameTable). t.meters) w) (ap (λ (t : FrameTable). t.landed) w)
rises_wired false frames k a b c w = rises_left k a b c w.only.meters w.only.landed
