-- Bytes that land in memory behind those that are there.
use Rattle.std.proofs.Common.{◌≡◌, ℕ, ◌+◌, ◌^◌, ◌<◌, ◌≤◌, List, ◌++◌, length, take, refl, ap, sym, ◌∙◌, arith, true}
use Rattle.std.proofs.lemmas.List.{length-take}
use Rattle.std.proofs.lemmas.Grind.{common_steps}
use Rattle.genie_base.specs.Bytes.{overlaid}
use Rattle.genie_base.specs.Lemmas.Overlaid.{overlaid-pieces, length-overlaid}
use Rattle.genie_host.specs.Host.{HostView}
use Rattle.genie_device.specs.declared.buffer.Usage.{Usage}
use Rattle.genie_device.specs.declared.buffer.Usage.TheVariants as usage
use Rattle.genie_device.specs.declared.steps.BodyEnd.{BodyEnd}
use Rattle.genie_device.specs.Buffers.{Fills, state_of, is_filling, bytes_in}
use Rattle.genie_device.specs.Receiving.{Lands}

pub take-overlaid : (x : ℕ) (new old : List ℕ) → x + length new ≤ length old → take (x + length new) (overlaid x new old) ≡ take x old ++ new
take-overlaid x new old h = rw (sym (overlaid-pieces x new old h)) (grind (arith, common_steps))

pub filled_from : (handle left n at : ℕ) (old new : HostView) (usage : Usage) (before after : List ℕ) (moved : ℕ) (end : BodyEnd)
    → Lands handle at left n old new before after moved end → is_filling (state_of usage (take at before)) ≡ true → at + left ≤ length before
    → Fills handle left n old new (record { room = length before; state = state_of usage (take at before) }) (record { room = length after; state = state_of usage (take (at + moved) after) }) moved end
filled_from handle left n at old new usage.Free before after moved end l filling room = absurd (cc)
filled_from handle left n at old new usage.Arrived before after moved end l filling room = absurd (cc)
filled_from handle left n at old new usage.Filling before after moved end l filling room =
    let size : length l.taken ≡ moved = l.takes.size in
    let fits : moved ≤ left = l.takes.fits in
    let bytes : take (at + moved) after ≡ take at before ++ l.taken = rw (l.landed, sym size) (take-overlaid at l.taken before (omega arith)) in
    record {
      taken = l.taken;
      takes = l.takes;
      filled = rw (bytes, l.landed, length-overlaid) refl;
    }

pub still_within : (handle left n at len : ℕ) (old new : HostView) (before after : List ℕ) (moved : ℕ) (end : BodyEnd)
    → Lands handle at left n old new before after moved end → len ≡ at + moved → at + left ≤ length before → length before < 2 ^ 32 → (len ≤ length after) × (length after < 2 ^ 32)
still_within handle left n at len old new before after moved end l e room small =
    let fits : moved ≤ left = l.takes.fits in
    let size : length after ≡ length before = ap length l.landed ∙ length-overlaid at l.taken before in
    (omega arith, omega arith)

-- the bytes that a buffer holds end where the next ones go
pub room_at : (usage : Usage) (at left : ℕ) (memory : List ℕ) → is_filling (state_of usage (take at memory)) ≡ true → at ≤ length memory
    → length (bytes_in (state_of usage (take at memory))) + left ≤ length memory → at + left ≤ length memory
room_at usage.Free at left memory filling within room = absurd (cc)
room_at usage.Arrived at left memory filling within room = absurd (cc)
room_at usage.Filling at left memory filling within room = let size = length-take at memory in omega arith
