-- The bytes of pages, piece after piece.
use Rattle.std.proofs.Common.{true, false, ◌≡◌, ℕ, ◌+◌, ◌-◌, ◌<◌, ◌≤◌, ◌^◌, Bool, List, ◌++◌, sym, ap, subst, arith, ◌∙◌, length, take, drop}
use Rattle.std.specs.Prelude.{Option, Some, None, IfSome, if◌then◌else◌}
use Rattle.std.specs.Option.{option_map}
use Rattle.std.proofs.Math.Seq.{take-add}
use Rattle.std.proofs.lemmas.List.{drop-drop, append_assoc}
use Rattle.genie_base.specs.Bytes.{part}
use Rattle.genie_frame.specs.declared.frame.Meters.{Meters}
use Rattle.genie_frame.specs.FrameTable.{FrameTable, bytes_at}
use Rattle.genie_frame.specs.Frames.{more_read}
use Rattle.genie_store.specs.StoreView.{StoreView}
use Rattle.genie_object.specs.declared.memory.Memory.{Memory}
use Rattle.genie_object.specs.Calls.{OnlyMoves, TakesAtMost}
use Rattle.genie_object.specs.Costs.{AreBelow, Spends}
use Rattle.genie_object.specs.Memory.{Seen, seen, entry_frame}
use Rattle.genie_object.specs.Sound.{IsSound}
use Rattle.genie_object.specs.Lemmas.Lookup.{frame_known}
use Rattle.genie_object.specs.Lemmas.Touching.{sound_metered, keeps_metered, touches_metered}
use Rattle.genie_plan.specs.Lemmas.Landings.{page_in, entry_shown}
use Rattle.genie_access.specs.Reading.{ReadsEntry}

pub part_on : (x n m : ℕ) (b : List ℕ) → part x (n + m) b ≡ part x n b ++ part (x + n) m b
part_on x n m b = take-add n m (drop x b) ∙ ap (λ l. take n (drop x b) ++ take m l) (drop-drop n x b)

-- a piece, and then the rest
pub run_on : (x n : ℕ) (a b c bytes : List ℕ) → 64 < n → b ≡ a ++ part x 64 bytes → c ≡ b ++ part (x + 64) (n - 64) bytes → c ≡ a ++ part x n bytes
run_on x n a b c bytes l first rest =
    let whole : 64 + (n - 64) ≡ n = omega (arith, l) in
    rest ∙ ap (λ z. z ++ part (x + 64) (n - 64) bytes) first ∙ append_assoc a (part x 64 bytes) (part (x + 64) (n - 64) bytes) ∙ ap (λ z. a ++ z) (sym (part_on x 64 (n - 64) bytes) ∙ ap (λ z. part x z bytes) whole)

-- the frame of an entry's page is there
pub frame_there : (m : Memory) (o i f : ℕ) → IsSound m → entry_frame m o i ≡ Some f → f < length m.frames.owners
frame_there m o i f s e = let x = page_in m o i f e in frame_known m x.number.0 (record { 0 = f }) s x.is_place

told_framed : (old new : Memory) (o i f : ℕ) (vs ws : Option (ℕ → List ℕ)) → option_map (seen new) ws ≡ option_map (seen old) vs → entry_frame new o i ≡ Some f → IfSome vs (λ slots. (seen old slots).entry_bytes o i ≡ bytes_at new.frames f)
told_framed old new o i f None ws same e = tt
told_framed old new o i f (Some s) None same e = absurd (cc)
told_framed old new o i f (Some s) (Some t) same e =
    let shown : seen new t ≡ seen old s = cc in
    sym (ap (λ (x : Seen). x.entry_bytes o i) shown) ∙ entry_shown new t o i f e

pub if_told : {X : Type 0} (o : Option X) (P Q : X → Type 0) → ((x : X) → P x → Q x) → IfSome o P → IfSome o Q
if_told None P Q h p = tt
if_told (Some x) P Q h p = h x p

-- what is read of the frame is what the entry showed
pub entry_read : (old new : Memory) (v w : StoreView) (o i f off n : ℕ) (a b : List ℕ) → option_map (seen new) w.slots ≡ option_map (seen old) v.slots → entry_frame new o i ≡ Some f → b ≡ a ++ part off n (bytes_at new.frames f) → ReadsEntry old v o i off n a b
entry_read old new v w o i f off n a b same e is = if_told v.slots (λ slots. (seen old slots).entry_bytes o i ≡ bytes_at new.frames f) (λ slots. b ≡ a ++ part off n ((seen old slots).entry_bytes o i)) (λ slots h. is ∙ ap (λ z. a ++ part off n z) (sym h)) (told_framed old new o i f v.slots w.slots same e)

moves_counted : (spoken : ℕ → ℕ → Bool) (a b : Memory) (v w : StoreView) (n : ℕ) → OnlyMoves spoken a b v w → OnlyMoves spoken a (record b { frames = more_read b.frames n }) v w
moves_counted spoken a b v w n x =
    let t : Meters = (more_read b.frames n).meters in
    record {
      sound = sound_metered b t x.sound;
      sized = record { count = x.sized.count; page = x.sized.page };
      seen = x.seen;
      keeps = keeps_metered a b t x.keeps;
      touches = touches_metered spoken a b t x.touches;
      counts = x.counts;
      landed = x.landed;
      costs = record { read = x.costs.read; write = x.costs.write };
    }

-- bytes that are read change nothing but a meter
pub moves_read : (spoken : ℕ → ℕ → Bool) (a b : Memory) (v w : StoreView) (t : FrameTable) (n : ℕ) → t ≡ more_read b.frames n → OnlyMoves spoken a b v w → OnlyMoves spoken a (record b { frames = t }) v w
moves_read spoken a b v w t n e x = subst (λ z. OnlyMoves spoken a (record b { frames = z }) v w) (sym e) (moves_counted spoken a b v w n x)

pub takes_read : (f p : ℕ) (a b : Memory) (t : FrameTable) (n : ℕ) → t ≡ more_read b.frames n → TakesAtMost f p a b → TakesAtMost f p a (record b { frames = t })
takes_read f p a b t n e x = subst (λ z. TakesAtMost f p a (record b { frames = z })) (sym e) (record { free = x.free; added = x.added })

counted_read : (b g p f n : ℕ) (old : Meters) (t : FrameTable) → Spends b g p f old t.meters → Spends (b + n) g p f old (more_read t n).meters
counted_read b g p f n old t x = record {
  read = omega (arith, x.read);
  written = x.written;
  copied = x.copied;
  zeroed = x.zeroed;
  work = omega (arith, x.work);
  gets = x.gets;
  most_gets = x.most_gets;
  puts = x.puts;
  most_puts = x.most_puts;
  taken = x.taken;
  most_taken = x.most_taken;
}

pub spends_read : (b g p f n : ℕ) (old : Meters) (t u : FrameTable) → u ≡ more_read t n → Spends b g p f old t.meters → Spends (b + n) g p f old u.meters
spends_read b g p f n old t u e x = subst (λ (z : FrameTable). Spends (b + n) g p f old z.meters) (sym e) (counted_read b g p f n old t x)

-- a meter of bytes that are read has room for a page more
pub meter_room : (b g p f n : ℕ) (old new : Meters) → AreBelow (2 ^ 64 - 2 ^ 20) old → Spends b g p f old new → b ≤ 4096 → n ≤ 4096 → new.read + n < 2 ^ 64
meter_room b g p f n old new below s lb ln = omega (arith, below.read, s.work, s.written, s.copied, s.zeroed, lb, ln)

pub most_work : (b : Bool) (page : ℕ) → page ≤ 4096 → (if b then page else 0) ≤ 4096
most_work true page l = l
most_work false page l = omega arith
