-- How far an input call lets the meters rise.
use Rattle.std.proofs.Common.{◌≡◌, ℕ, ◌^◌, ◌≤◌, Bool, true, false, List, sym, ap, subst, arith, ◌∙◌, length}
use Rattle.genie_base.specs.Counts.{span}
use Rattle.genie_frame.specs.declared.frame.Meters.{Meters}
use Rattle.genie_frame.specs.FrameTable.{FrameTable}
use Rattle.genie_object.specs.declared.memory.Memory.{Memory}
use Rattle.genie_object.specs.Costs.{Spends, writes_work}
use Rattle.genie_object.specs.Sound.{IsSound}
use Rattle.genie_object.specs.Lemmas.Works.{page_most, writes_most}
use Rattle.genie_store.specs.StoreView.{StoreView}
use Rattle.genie_kernel.specs.declared.kernel.Kernel.{Kernel}
use Rattle.genie_kernel.specs.declared.transfer.Loans.{Loans}
use Rattle.genie_kernel.specs.declared.transfer.Loans.TheVariants.{Nothing, Outward, Inward}
use Rattle.genie_kernel.specs.Loans.{frames_of}
use Rattle.genie_kernel.specs.Rising.{MetersRise}
use Rattle.genie_kernel.specs.Lemmas.Rising.{rises_left, rises_moved, rises_same, rises_twice}
use Rattle.genie_changes.specs.Making.{IsMoved}
use Rattle.genie_inputs.specs.Buffers.{LendsAt, LendsBuffer}
use Rattle.genie_inputs.specs.Claiming.{LendsObject}
use Rattle.genie_inputs.specs.Places.{Wires}

-- a buffer has no more frames than its bytes lie in
buffer_most : (page at len : ℕ) (early : Bool) (loans : Loans) → span page at len ≤ 65 → LendsAt page at len early loans → length (frames_of loans) ≤ 65
buffer_most page at len false loans few is = let none : length (frames_of loans) ≡ 0 = ap (λ (l : Loans). length (frames_of l)) is in omega (arith, none)
buffer_most page at len true Nothing few is = absurd is
buffer_most page at len true (Outward p) few is = absurd is
buffer_most page at len true (Inward p) few is = let number : length (frames_of (Inward p)) ≡ span page at len = is.pages in omega (arith, number, few)

-- frames are taken for it, and nothing else is counted
pub rises_buffer : (n at len : ℕ) (early : Bool) (old new : Memory) (loans : Loans) → span old.frames.page at len ≤ 65 → LendsBuffer n at len early old new loans → MetersRise (2 ^ 7) old.frames new.frames
rises_buffer n at len early old new loans few x =
    let most = buffer_most old.frames.page at len early loans few x.lends in
    let same = x.fresh.meters in
    let read : new.frames.meters.read ≡ old.frames.meters.read = ap (λ (w : Meters). w.read) same in
    let written : new.frames.meters.written ≡ old.frames.meters.written = ap (λ (w : Meters). w.written) same in
    let copied : new.frames.meters.copied ≡ old.frames.meters.copied = ap (λ (w : Meters). w.copied) same in
    let zeroed : new.frames.meters.zeroed ≡ old.frames.meters.zeroed = ap (λ (w : Meters). w.zeroed) same in
    let puts : new.frames.meters.puts ≡ old.frames.meters.puts = ap (λ (w : Meters). w.puts) same in
    let gets : new.frames.meters.gets ≡ old.frames.meters.gets = ap (λ (w : Meters). w.gets) same in
    let landed : new.frames.landed ≡ old.frames.landed = x.fresh.landed in
    record {
      low = record {
        read = omega (arith, read);
        written = omega (arith, written);
        copied = omega (arith, copied);
        zeroed = omega (arith, zeroed);
        puts = omega (arith, puts);
        gets = omega (arith, gets);
        taken = x.low;
      };
      meters = λ m a. record {
        read = omega (arith, a.read, read);
        written = omega (arith, a.written, written);
        copied = omega (arith, a.copied, copied);
        zeroed = omega (arith, a.zeroed, zeroed);
        puts = omega (arith, a.puts, puts);
        gets = omega (arith, a.gets, gets);
        taken = omega (arith, a.taken, x.taken, most);
      };
      landed = omega (arith, landed);
    }

-- so it is where the buffer takes the place of an object
pub rises_object : (n len o : ℕ) (old new : Memory) (loans : Loans) → span old.frames.page 0 len ≤ 65 → LendsObject n len o old new loans → MetersRise (2 ^ 20) old.frames new.frames
rises_object n len o old new loans few x =
    let page : x.gone.frames.page ≡ old.frames.page = ap (λ (t : FrameTable). t.page) x.removes.frames in
    let meters : x.gone.frames.meters ≡ old.frames.meters = ap (λ (t : FrameTable). t.meters) x.removes.frames in
    let landed : x.gone.frames.landed ≡ old.frames.landed = ap (λ (t : FrameTable). t.landed) x.removes.frames in
    rises_twice 0 (2 ^ 7) (2 ^ 20) old.frames x.gone.frames new.frames (omega arith) (rises_same 0 old.frames x.gone.frames meters landed) (rises_buffer n 0 len true x.gone new loans (subst (λ p. span p 0 len ≤ 65) (sym page) few) x.buffer)

-- pages that are copied or zeroed, so that a device may store in them
pub rises_lent : (o first n : ℕ) (old new : Memory) → IsSound old → n ≤ 65 → Spends (writes_work old o first n) n 0 n old.frames.meters new.frames.meters → new.frames.landed ≡ old.frames.landed → MetersRise (2 ^ 20) old.frames new.frames
rises_lent o first n old new sound few s landed =
    let most = writes_most old o first n (page_most old.frames.page sound.shaped.size) in
    rises_moved _ _ _ _ (2 ^ 20) old.frames new.frames s landed (omega (arith, most, few))

-- a range has as many pages once room was made
pub lent_most : (old k : Kernel) (off len : ℕ) (v w : StoreView) → IsMoved old k v w → span old.config.page off len ≤ 65 → span k.memory.frames.page off len ≤ 65
lent_most old k off len v w moved few =
    let page : k.memory.frames.page ≡ old.config.page = moved.good.sized.page ∙ ap (λ (z : Kernel). z.config.page) moved.only in
    subst (λ p. span p off len ≤ 65) (sym page) few

-- wires count nothing
pub rises_wired : (basic : Bool) (frames : List ℕ) (k : ℕ) (a : FrameTable) (old new : Memory) → Wires basic frames old new → MetersRise k a old.frames → MetersRise k a new.frames
rises_wired basic frames k a old new w = rises_left k a old.frames new.frames w.wired.only.meters w.wired.only.landed

-- neither does what happens before the pages are lent, and afterwards
pub rises_between : (k : ℕ) (a b c d : FrameTable) → b.meters ≡ a.meters → b.landed ≡ a.landed → d.meters ≡ c.meters → d.landed ≡ c.landed → k ≤ 2 ^ 36 → MetersRise k b c → MetersRise (2 ^ 36) a d
rises_between k a b c d before landed after lands most x = rises_twice 0 k (2 ^ 36) a b d (omega (arith, most)) (rises_same 0 a b before landed) (rises_left k b c d after lands x)
