-- The room for steps: a million of them after a boot, and one less after each.
use Rattle.std.proofs.Common.{◌≡◌, ℕ, ◌+◌, ◌^◌, ◌<◌, ◌≤◌, [], refl, ap, subst, arith}
use Rattle.std.specs.Prelude.{Result, Ok, Err, OnOk}
use Rattle.genie_base.specs.Configs.{Fits, config_of, pool_of}
use Rattle.genie_base.specs.declared.config.Config.{Config}
use Rattle.genie_frame.specs.declared.frame.Meters.{Meters}
use Rattle.genie_object.specs.Costs.{AreBelow}
use Rattle.genie_model.specs.State.{State}
use Rattle.genie_kernel.specs.declared.kernel.Kernel.{Kernel}
use Rattle.genie_kernel.specs.Booting.{BootsAs, only_taken}
use Rattle.genie_kernel.specs.Rising.{MetersRise}
use Rattle.genie_embed.specs.declared.exchange.EchoError.{EchoError}
use Rattle.genie_embed.specs.Machines.{HasRoom, HasRoomFor}

few_taken : (n : ℕ) → n < 2 ^ 36 → AreBelow (2 ^ 36) (only_taken n)
few_taken n low = record { read = omega arith; written = omega arith; copied = omega arith; zeroed = omega arith; puts = omega arith; gets = omega arith; taken = low }

first_number : (c : Config) (k : Kernel) → BootsAs c k → k.next ≡ 1
first_number c k boots = ap (λ (s : State). s.next) (boots (record { seen = record { entry_bytes = λ o i. []; kept_bytes = λ f. [] }; rests = λ d. []; sents = λ d. [] }) (λ d. refl))

pub room_booted : (c : Config) (k : Kernel) → Fits (config_of c) → BootsAs c k → k.memory.frames.meters ≡ only_taken (pool_of (config_of c).devices) → k.memory.frames.landed ≡ 0 → HasRoomFor 1000000 k
room_booted c k fits boots meters landed = record {
  bound = 2 ^ 36;
  meters = let pool = fits.pool in let high = fits.frames_high in rw meters (few_taken (pool_of (config_of c).devices) (omega (arith, pool, high)));
  within = omega arith;
  landed = omega (arith, landed);
  numbers = let first = first_number c k boots in omega (arith, first);
}

pub room_less : (n : ℕ) (old new : Kernel) → MetersRise (2 ^ 36) old.memory.frames new.memory.frames → new.next ≤ old.next + 1 → HasRoomFor (n + 1) old → HasRoomFor n new
room_less n old new rises next room = record {
  bound = room.bound + 2 ^ 36;
  meters = rises.meters room.bound room.meters;
  within = let low = room.within in omega (arith, low);
  landed = let low = room.landed in let most = rises.landed in omega (arith, low, most);
  numbers = let low = room.numbers in omega (arith, low, next);
}

pub room_kept : (n : ℕ) (k : Kernel) → HasRoomFor (n + 1) k → HasRoomFor n k
room_kept n k room = record {
  bound = room.bound;
  meters = room.meters;
  within = let low = room.within in omega (arith, low);
  landed = let low = room.landed in omega (arith, low);
  numbers = let low = room.numbers in omega (arith, low);
}

below_more : (m n : ℕ) (x : Meters) → m ≤ n → AreBelow m x → AreBelow n x
below_more m n x more b = record {
  read = omega (arith, more, b.read);
  written = omega (arith, more, b.written);
  copied = omega (arith, more, b.copied);
  zeroed = omega (arith, more, b.zeroed);
  puts = omega (arith, more, b.puts);
  gets = omega (arith, more, b.gets);
  taken = omega (arith, more, b.taken);
}

pub room_now : (n : ℕ) (k : Kernel) → HasRoomFor (n + 1) k → HasRoom k
room_now n k room = record {
  meters = below_more room.bound (2 ^ 63) k.memory.frames.meters (let low = room.within in omega (arith, low)) room.meters;
  landed = let low = room.landed in omega (arith, low);
  numbers = let low = room.numbers in omega (arith, low);
}

-- a step, and then m more
pub rooms_more : (r : Result ℕ EchoError) (len m : ℕ) (old mid new : Kernel) → len ≡ m + 1 → ((n : ℕ) → HasRoomFor (n + 1) old → HasRoomFor n mid) → OnOk r ((n : ℕ) → HasRoomFor (n + m) mid → HasRoomFor n new) → OnOk r ((n : ℕ) → HasRoomFor (n + len) old → HasRoomFor n new)
rooms_more (Ok x) len m old mid new e step rest = λ n room. rest n (step (n + m) (subst (λ (k : ℕ). HasRoomFor k old) (omega (arith, e)) room))
rooms_more (Err x) len m old mid new e step rest = tt

pub room_of : (len m : ℕ) (k : Kernel) → len ≡ m + 1 → HasRoomFor len k → HasRoomFor (m + 1) k
room_of len m k e room = subst (λ (n : ℕ). HasRoomFor n k) e room
